use Rattle.std.proofs.Common.{◌≡◌, take}
use Rattle.velo_heap.specs.Contents.{bounds_of}
use Rattle.velo_delays.specs.Anew.{IsRenewedSoFar}
use Rattle.velo_delays.proofs.anew.with_lines.Given as goal

abbrev pub invariant-loop-position : goal.invariant-loop-position
invariant-loop-position l = record {
  bounds : bounds_of l.heap ≡ l.config.bounds;
  stands : IsRenewedSoFar (take l.position l.events) l.heap l.anew.events;
}
