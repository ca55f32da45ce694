use Rattle.std.proofs.Common.{◌≡◌, take}
use Rattle.velo_heap.specs.Contents.{bounds_of, IsHeapOf}
use Rattle.velo_thinning.proofs.judging.first_flaw.Given as goal

abbrev pub invariant-loop-position : goal.invariant-loop-position
invariant-loop-position l = record {
  bounds : bounds_of l.heap ≡ l.config.bounds;
  stands : IsHeapOf l.heap (take l.position l.events);
}
