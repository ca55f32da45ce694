use Rattle.std.proofs.Common.{◌≡◌, ℕ, ◌<◌}
use Rattle.velo_events.specs.Heap.{depth_in}
use Rattle.velo_audit.proofs.pieces.is_quiet.Given as goal

abbrev pub invariant-loop-thread : goal.invariant-loop-thread
invariant-loop-thread l = record { none : (t : ℕ) → t < l.thread → depth_in l.fn.closed.log t ≡ 0 }
