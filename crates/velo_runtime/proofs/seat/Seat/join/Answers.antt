use Rattle.std.proofs.Common.{refl}
use Rattle.velo_runtime.proofs.OnSeats.{gains_named}
use Rattle.velo_runtime.proofs.seat.Seat.join.Goals as goal

pub returns-clause-joined : goal.returns-clause-joined
returns-clause-joined g c = gains_named _ _ _ _ _ (λ log. refl) refl c.turn.ensures.done
