use Rattle.std.proofs.Common.{ap}
use Rattle.velo_world.specs.World.{WorldState}
use Rattle.velo_world.proofs.closed.Closed.bounds.Goals as goal

pub returns : goal.returns
returns c = ap (λ (world : WorldState). world.config.bounds) c.self.view_is
