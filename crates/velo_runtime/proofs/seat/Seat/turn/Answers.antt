use Rattle.std.proofs.Common.{rules, subst}
use Rattle.velo_runtime.specs.Seats.{IsRefused}
use Rattle.velo_runtime.proofs.OnTurns.{refused_in}
use Rattle.velo_runtime.proofs.seat.Seat.turn.Goals as goal

pub returns-in-Refused-clause-runtime : goal.returns-in-Refused-clause-runtime
returns-in-Refused-clause-runtime g c = search rules

pub returns-in-Refused-clause-refused : goal.returns-in-Refused-clause-refused
returns-in-Refused-clause-refused g c =
    subst (λ share. IsRefused share c.args.action c.in-Refused.refusal) c.loop.invariant (refused_in _ _ _ _ _ _ c.in-Refused.ensures.turn)
