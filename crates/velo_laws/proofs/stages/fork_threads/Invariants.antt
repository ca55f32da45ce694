use Rattle.std.proofs.Common.{List}
use Rattle.velo_events.specs.declared.event.Event.{Event}
use Rattle.velo_heap.specs.Contents.{IsHeapOf}
use Rattle.velo_laws.specs.Stages.{HasForked}
use Rattle.velo_laws.proofs.stages.fork_threads.Given as goal

abbrev pub invariant-loop-thread : goal.invariant-loop-thread
invariant-loop-thread l = record { so_far : (log : List Event) → IsHeapOf l.heap log → HasForked l.bounds log l.made.events l.thread }
