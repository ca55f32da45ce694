use Rattle.std.proofs.Common.{◌≡◌, drop}
use Rattle.velo_movers.specs.Programs.{own}
use Rattle.velo_predict.proofs.judge.next_of.Given as goal

abbrev pub invariant-loop-at : goal.invariant-loop-at
invariant-loop-at l = record { passed : own l.thread.0 (drop l.from l.log) ≡ own l.thread.0 (drop l.at l.log) }
