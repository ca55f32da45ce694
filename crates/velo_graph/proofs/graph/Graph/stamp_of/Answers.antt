use Rattle.std.proofs.Common.{ap, ◌∙◌}
use Rattle.velo_arena.specs.Slots.{stamp_in}
use Rattle.velo_graph.specs.Nodes.{Nodes}
use Rattle.velo_graph.proofs.graph.Graph.stamp_of.Goals as goal

pub returns : goal.returns
returns g c = c.stamp_of.ensures ∙ ap (λ (nodes : Nodes). stamp_in nodes.slots c.args.slot) c.self.view_is
