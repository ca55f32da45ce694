use Rattle.std.proofs.Common.{refl}
use Rattle.velo_runtime.proofs.OnSeats.{gains_named}
use Rattle.velo_runtime.proofs.seat.Seat.acquire_shared.Goals as goal

pub returns-clause-acquired : goal.returns-clause-acquired
returns-clause-acquired g c = gains_named _ _ _ _ _ (λ log. refl) refl c.turn.ensures.done
