use Rattle.std.proofs.Common.{ap, ◌∙◌}
use Rattle.velo_arena.specs.Slots.{is_used}
use Rattle.velo_graph.specs.Nodes.{Nodes}
use Rattle.velo_graph.proofs.graph.Graph.is_used.Goals as goal

pub returns : goal.returns
returns g c = c.is_used.ensures ∙ ap (λ (nodes : Nodes). is_used nodes.slots c.args.slot) c.self.view_is
