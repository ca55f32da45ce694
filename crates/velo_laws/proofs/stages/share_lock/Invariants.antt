use Rattle.std.proofs.Common.{List}
use Rattle.velo_events.specs.declared.event.Event.{Event}
use Rattle.velo_heap.specs.Contents.{IsHeapOf}
use Rattle.velo_laws.specs.Stages.{HasShared}
use Rattle.velo_laws.proofs.stages.share_lock.Given as goal

abbrev pub invariant-loop-thread : goal.invariant-loop-thread
invariant-loop-thread l = record { so_far : (log : List Event) → IsHeapOf l.heap log → HasShared l.bounds log l.fn.made.events l.lock.0 0 → HasShared l.bounds log l.made.events l.lock.0 l.thread }
