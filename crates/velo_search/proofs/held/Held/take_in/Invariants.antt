use Rattle.std.proofs.Common.{◌≡◌, ◌<◌, ◌≤◌, ℕ, length, slice_index_or}
use Rattle.velo_search.specs.Free.{hold_next, no_hold}
use Rattle.velo_search.proofs.held.Held.take_in.Given as goal

abbrev pub invariant-loop-lock : goal.invariant-loop-lock
invariant-loop-lock l = record {
  length : length l.self.locks.items ≡ length l.fn.self.locks.items;
  done : (m : ℕ) → m < l.lock → slice_index_or l.self.locks.items m no_hold ≡ hold_next m (slice_index_or l.fn.self.locks.items m no_hold) l.fn.kind;
  left : (m : ℕ) → l.lock ≤ m → slice_index_or l.self.locks.items m no_hold ≡ slice_index_or l.fn.self.locks.items m no_hold;
}
