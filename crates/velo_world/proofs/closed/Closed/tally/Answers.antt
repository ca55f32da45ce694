use Rattle.std.proofs.Common.{rules}
use Rattle.velo_world.proofs.closed.Closed.tally.Goals as goal

pub returns : goal.returns
returns c = search rules
