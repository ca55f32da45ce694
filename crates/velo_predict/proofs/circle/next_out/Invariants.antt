use Rattle.std.proofs.Common.{ℕ, ◌<◌, IsFalse}
use Rattle.velo_events.specs.ThreadSets.{has_thread}
use Rattle.velo_predict.specs.Circles.{IsInRow}
use Rattle.velo_predict.proofs.circle.next_out.Given as goal

abbrev pub invariant-loop-t : goal.invariant-loop-t
invariant-loop-t l = (t : ℕ) → t < l.t → IsFalse (has_thread l.out t) → (u : ℕ) × IsInRow l.rows t u × IsFalse (has_thread l.out u)
