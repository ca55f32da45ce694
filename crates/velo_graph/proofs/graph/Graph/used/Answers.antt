use Rattle.std.proofs.Common.{ap, ◌∙◌}
use Rattle.velo_arena.specs.Slots.{used_in}
use Rattle.velo_graph.specs.Nodes.{Nodes}
use Rattle.velo_graph.proofs.graph.Graph.used.Goals as goal

pub returns : goal.returns
returns g c = c.used.ensures ∙ ap (λ (nodes : Nodes). used_in nodes.slots) c.self.view_is
