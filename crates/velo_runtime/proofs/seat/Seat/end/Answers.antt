use Rattle.std.proofs.Common.{refl}
use Rattle.velo_runtime.proofs.OnSeats.{gains_named}
use Rattle.velo_runtime.proofs.seat.Seat.end.Goals as goal

pub returns-clause-ended : goal.returns-clause-ended
returns-clause-ended g c = gains_named _ _ _ _ _ (λ log. refl) refl c.turn.ensures.done
