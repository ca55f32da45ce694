use Rattle.std.proofs.Common.{refl}
use Rattle.velo_runtime.proofs.OnSeats.{gains_named}
use Rattle.velo_runtime.proofs.seat.Seat.exit.Goals as goal

pub returns-clause-exited : goal.returns-clause-exited
returns-clause-exited g c = gains_named _ _ _ _ _ (λ log. refl) refl c.turn.ensures.done
