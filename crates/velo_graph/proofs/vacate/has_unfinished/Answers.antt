use Rattle.std.proofs.Common.{rules}
use Rattle.velo_graph.proofs.vacate.has_unfinished.Goals as goal

pub returns : goal.returns
returns g c = search rules
