use Rattle.velo_monitor.proofs.OnSteps.{AddsFirst}
use Rattle.velo_monitor.proofs.edges.add_edges.Given as goal

abbrev pub invariant-loop-step : goal.invariant-loop-step
invariant-loop-step l = AddsFirst l.initial.graph l.graph l.steps l.step-index l.to
