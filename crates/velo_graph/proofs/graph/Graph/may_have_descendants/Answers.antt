use Rattle.std.proofs.Common.{rules}
use Rattle.velo_graph.proofs.graph.Graph.may_have_descendants.Goals as goal

pub returns : goal.returns
returns g c = search rules
