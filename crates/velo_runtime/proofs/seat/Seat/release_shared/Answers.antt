use Rattle.std.proofs.Common.{refl}
use Rattle.velo_runtime.proofs.OnSeats.{gains_named}
use Rattle.velo_runtime.proofs.seat.Seat.release_shared.Goals as goal

pub returns-clause-released : goal.returns-clause-released
returns-clause-released g c = gains_named _ _ _ _ _ (λ log. refl) refl c.turn.ensures.done
