use Rattle.std.proofs.Common.{ap, ◌∙◌}
use Rattle.velo_arena.specs.Slots.{limit_of}
use Rattle.velo_graph.specs.Nodes.{Nodes}
use Rattle.velo_graph.proofs.graph.Graph.limit.Goals as goal

pub returns : goal.returns
returns g c = c.limit.ensures ∙ ap (λ (nodes : Nodes). limit_of nodes.slots) c.self.view_is
