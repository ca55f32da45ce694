use Rattle.std.proofs.Common.{ap}
use Rattle.velo_world.specs.World.{halted_world}
use Rattle.velo_world.proofs.world.World.halt.Goals as goal

pub returns : goal.returns
returns c = ap halted_world c.self.view_is
