use Rattle.std.proofs.Common.{List}
use Rattle.velo_events.specs.declared.event.Event.{Event}
use Rattle.velo_heap.specs.Contents.{IsHeapOf}
use Rattle.velo_laws.specs.Stages.{HasWritten, HasAcquired}
use Rattle.velo_laws.proofs.stages.acquire_locks.Given as goal

abbrev pub invariant-loop-lock : goal.invariant-loop-lock
invariant-loop-lock l = record { so_far : (log : List Event) → IsHeapOf l.heap log → HasWritten l.bounds log l.fn.made.events l.bounds.variables → HasAcquired l.bounds log l.made.events l.lock }
