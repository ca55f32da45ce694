use Rattle.velo_audit.proofs.rounds.leave_out_all.Goals as goal
