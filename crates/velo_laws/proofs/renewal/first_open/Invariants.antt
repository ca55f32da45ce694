use Rattle.std.proofs.Common.{◌≡◌, ℕ, ◌<◌, List}
use Rattle.velo_events.specs.declared.event.Event.{Event}
use Rattle.velo_events.specs.Heap.{depth_in}
use Rattle.velo_heap.specs.Contents.{IsHeapOf}
use Rattle.velo_laws.proofs.renewal.first_open.Given as goal

abbrev pub invariant-loop-thread : goal.invariant-loop-thread
invariant-loop-thread l = record { none : (log : List Event) → IsHeapOf l.heap log → (t : ℕ) → t < l.thread → depth_in log t ≡ 0 }
