use Rattle.std.proofs.Common.{refl, sym, ◌∙◌, ◌+◌, subst}
use Rattle.velo_graph.specs.Nodes.{Nodes}
use Rattle.velo_monitor.proofs.OnSteps.{AddsFirst, first-none, first-dead, first-from, resolved_to, resolved_none}
use Rattle.velo_monitor.proofs.edges.add_edges.Goals as goal
use Rattle.velo_monitor.proofs.edges.add_edges.Goals.{in-Some, in_default}

pub loop-step-init : goal.loop-step-init
loop-step-init c = first-none c.args.graph.now c.args.steps.now c.args.to c.requires.sound

pub loop-step-preserved : goal.loop-step-preserved
loop-step-preserved c =
    let old = c.args.graph.now in
    let steps = c.args.steps.now in
    let i = c.loop-step.step-index in
    let to = c.args.to in
    elim c.match-resolve.branch [
      | in-Some w ↦
          let edge = w.add_edge-edge in
          let at = resolved_to _ _ w.in-Some.from (sym w.in-Some.is ∙ c.resolve.ensures) in
          subst (λ (n : Nodes). AddsFirst old n steps (i + 1) to) (sym w.graph-is)
          (first-from old c.loop-step.graph edge.new.self steps i to _ _ c.loop-step-test.true refl at.0 c.requires.acyclic c.loop-step.invariant edge.ensures.sound edge.result w.in-Some.from at.1 edge.ensures.same edge.ensures.known edge.ensures.closes edge.ensures.added edge.ensures.unchanged)
      | in_default w ↦
          let gone = resolved_none _ _ (sym w.in_default.is ∙ c.resolve.ensures) in
          subst (λ (n : Nodes). AddsFirst old n steps (i + 1) to) (sym w.graph-is) (first-dead old c.loop-step.graph steps i to _ _ c.loop-step-test.true refl gone c.loop-step.invariant)
    ]
