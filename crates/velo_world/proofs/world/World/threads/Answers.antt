use Rattle.std.proofs.Common.{ap}
use Rattle.velo_events.specs.declared.config.Bounds.{Bounds}
use Rattle.velo_world.proofs.world.World.threads.Goals as goal

pub returns : goal.returns
returns c = ap (λ (bounds : Bounds). bounds.threads) c.bounds.ensures
