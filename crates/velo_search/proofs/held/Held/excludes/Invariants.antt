use Rattle.std.proofs.Common.{ℕ}
use Rattle.std.specs.Prelude.{◌<◌, slice_index_or, IsFalse}
use Rattle.velo_search.specs.Free.{excludes, no_hold}
use Rattle.velo_search.proofs.held.Held.excludes.Given as goal

abbrev pub invariant-loop-lock : goal.invariant-loop-lock
invariant-loop-lock l = (m : ℕ) → m < l.lock → IsFalse (excludes (slice_index_or l.fn.self.locks.items m no_hold) (slice_index_or l.fn.other.locks.items m no_hold))
