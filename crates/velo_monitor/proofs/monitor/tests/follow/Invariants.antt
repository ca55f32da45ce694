use Rattle.std.proofs.Common.{take}
use Rattle.velo_monitor.specs.declared.monitor.tests.TheConstants.{BOUNDS}
use Rattle.velo_monitor.specs.Watched.{IsMonitorOf}
use Rattle.velo_monitor.proofs.monitor.tests.follow.Given as goal

abbrev pub invariant-loop-i : goal.invariant-loop-i
invariant-loop-i g l = IsMonitorOf BOUNDS l.monitor (take l.i-counter l.events)
