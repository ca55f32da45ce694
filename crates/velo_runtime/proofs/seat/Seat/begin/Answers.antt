use Rattle.std.proofs.Common.{refl}
use Rattle.velo_runtime.proofs.OnSeats.{gains_named}
use Rattle.velo_runtime.proofs.seat.Seat.begin.Goals as goal

pub returns-clause-begun : goal.returns-clause-begun
returns-clause-begun g c = gains_named _ _ _ _ _ (λ log. refl) refl c.turn.ensures.done
