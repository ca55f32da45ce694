use Rattle.std.proofs.Common.{refl}
use Rattle.velo_runtime.proofs.OnSeats.{gains_named}
use Rattle.velo_runtime.proofs.seat.Seat.write.Goals as goal

pub returns-clause-written : goal.returns-clause-written
returns-clause-written g c = gains_named _ _ _ _ _ (λ log. refl) refl c.turn.ensures.done
