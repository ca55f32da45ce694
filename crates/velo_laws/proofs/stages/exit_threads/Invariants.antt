use Rattle.std.proofs.Common.{List}
use Rattle.velo_events.specs.declared.event.Event.{Event}
use Rattle.velo_heap.specs.Contents.{IsHeapOf}
use Rattle.velo_laws.specs.Stages.{HasShared, HasExited}
use Rattle.velo_laws.proofs.stages.exit_threads.Given as goal

abbrev pub invariant-loop-thread : goal.invariant-loop-thread
invariant-loop-thread l = record { so_far : (log : List Event) → IsHeapOf l.heap log → HasShared l.bounds log l.fn.made.events l.bounds.locks 0 → HasExited l.bounds log l.made.events l.thread }
