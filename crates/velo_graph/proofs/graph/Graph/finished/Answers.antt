use Rattle.std.proofs.Common.{ap, ◌∙◌}
use Rattle.velo_arena.specs.Slots.{is_finished_in}
use Rattle.velo_graph.specs.Nodes.{Nodes}
use Rattle.velo_graph.proofs.graph.Graph.finished.Goals as goal

pub returns : goal.returns
returns g c = c.finished.ensures ∙ ap (λ (nodes : Nodes). is_finished_in nodes.slots c.args.slot) c.self.view_is
