use Rattle.std.proofs.Common.{Some, None, ap, ◌∙◌}
use Rattle.std.specs.Prelude.{if◌then◌else◌}
use Rattle.velo_arena.specs.Slots.{bears}
use Rattle.velo_graph.specs.Nodes.{Nodes}
use Rattle.velo_graph.proofs.graph.Graph.resolve.Goals as goal

pub returns : goal.returns
returns g c = c.resolve.ensures ∙ ap (λ (nodes : Nodes). if bears nodes.slots c.args.step.slot c.args.step.stamp then Some c.args.step.slot else None) c.self.view_is
