use Rattle.std.proofs.Common.{take}
use Rattle.velo_events.specs.WellFormed.{IsWellFormed}
use Rattle.velo_traces.proofs.judge.well_formed.Given as goal

abbrev pub invariant-loop-i : goal.invariant-loop-i
invariant-loop-i l = IsWellFormed l.bounds (take l.i l.events)
