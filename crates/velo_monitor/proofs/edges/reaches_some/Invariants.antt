use Rattle.std.proofs.Common.{take}
use Rattle.velo_monitor.specs.Steps.{ReachesSome}
use Rattle.velo_monitor.proofs.edges.reaches_some.Given as goal

abbrev pub invariant-loop-step : goal.invariant-loop-step
invariant-loop-step l = ¬ ReachesSome l.graph l.slot (take l.step-index l.steps)
