use Rattle.std.proofs.Common.{Option, sym, subst}
use Rattle.std.specs.Option.{option_to_list}
use Rattle.velo_arena.specs.declared.step.Step.{Step}
use Rattle.velo_graph.specs.Nodes.{AddsEdges}
use Rattle.velo_monitor.specs.Steps.{live_slots, ReachesSome}
use Rattle.velo_monitor.proofs.OnOwn.{adds-nothing, reaches-nothing}
use Rattle.velo_monitor.proofs.edges.closes_or_adds_some.Goals as goal

pub returns-in-None-clause-closes : goal.returns-in-None-clause-closes
returns-in-None-clause-closes c = (
  (λ closed. absurd (cc)),
  (λ some. absurd (reaches-nothing c.args.graph.now c.args.to (subst (λ (o : Option Step). ReachesSome c.args.graph.now c.args.to (option_to_list o)) c.in-None.is some))),
)

pub returns-in-None-clause-adds : goal.returns-in-None-clause-adds
returns-in-None-clause-adds c going =
    subst (λ (o : Option Step). AddsEdges c.args.graph.now c.args.graph.now (live_slots c.args.graph.now (option_to_list o)) c.args.to) (sym c.in-None.is) (adds-nothing c.args.graph.now c.args.to)
