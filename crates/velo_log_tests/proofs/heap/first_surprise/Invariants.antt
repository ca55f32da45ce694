use Rattle.std.proofs.Common.{◌≡◌, List}
use Rattle.velo_events.specs.declared.event.Event.{Event}
use Rattle.velo_heap.specs.Contents.{bounds_of, IsHeapOf}
use Rattle.velo_log_tests.proofs.heap.first_surprise.Given as goal

abbrev pub invariant-loop-i : goal.invariant-loop-i
invariant-loop-i l = ((trace : List Event) × IsHeapOf l.heap trace) × (bounds_of l.heap ≡ bounds_of l.fn.heap)
