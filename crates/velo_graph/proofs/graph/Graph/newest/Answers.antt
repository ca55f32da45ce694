use Rattle.std.proofs.Common.{ap, ◌∙◌}
use Rattle.velo_graph.specs.Nodes.{Nodes}
use Rattle.velo_graph.proofs.graph.Graph.newest.Goals as goal

pub returns-clause-newest : goal.returns-clause-newest
returns-clause-newest g c = c.newest.ensures.newest ∙ ap (λ (nodes : Nodes). nodes.slots.newest) c.self.view_is
