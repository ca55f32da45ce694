use Rattle.std.proofs.Common.{rules}
use Rattle.velo_runtime.specs.Seats.{IsForkRefused}
use Rattle.velo_runtime.proofs.OnTurns.{fork_refused_in, handed_on}
use Rattle.velo_runtime.proofs.seat.Seat.fork.Goals as goal

pub returns-clause-forked : goal.returns-clause-forked
returns-clause-forked g c = search rules

pub returns-clause-child : goal.returns-clause-child
returns-clause-child g c = search rules

pub returns-in_err-seat-clause-refused : goal.returns-in_err-seat-clause-refused
returns-in_err-seat-clause-refused g c =
    handed_on c.from_residual.result c.in_err-seat.field-0.0 (IsForkRefused c.args.self.now c.args.child) c.from_residual.ensures.1
    (fork_refused_in _ _ _ _ _ _ c.in_err-seat.ensures.step)
