use Rattle.std.proofs.Common.{◌<◌, ◌≤◌, ◌-◌, length, take}
use Rattle.velo_events.specs.Graph.{HasCycle}
use Rattle.velo_predict.proofs.cycle.closing_in.Given as goal

abbrev pub invariant-loop-with : goal.invariant-loop-with
invariant-loop-with l = record {
  apart : l.without < l.with;
  within : l.with ≤ length l.trace.events;
  none_before : ¬ HasCycle (take l.without l.trace.events);
  some_after : HasCycle (take l.with l.trace.events);
}

abbrev pub decreases-loop-with : goal.decreases-loop-with
decreases-loop-with l = l.with - l.without
