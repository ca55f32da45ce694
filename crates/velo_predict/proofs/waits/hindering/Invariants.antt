use Rattle.std.proofs.Common.{ℕ, ◌<◌, List}
use Rattle.std.specs.Prelude.{◌↔◌, IsTrue}
use Rattle.velo_events.specs.declared.event.Event.{Event}
use Rattle.velo_events.specs.ThreadSets.{has_thread}
use Rattle.velo_heap.specs.Contents.{IsHeapOf}
use Rattle.velo_predict.specs.Waits.{hinders}
use Rattle.velo_predict.proofs.waits.hindering.Given as goal

abbrev pub invariant-loop-u : goal.invariant-loop-u
invariant-loop-u l = (trace : List Event) → IsHeapOf l.heap trace → (u : ℕ) → IsTrue (has_thread l.row u) ↔ ((u < l.u) × IsTrue (hinders trace l.kind l.thread.0 u))
