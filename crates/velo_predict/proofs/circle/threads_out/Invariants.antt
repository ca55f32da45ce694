use Rattle.std.proofs.Common.{ℕ, List, IsFalse, length, not}
use Rattle.velo_events.specs.Graph.{IsCycle}
use Rattle.velo_events.specs.ThreadSets.{has_thread}
use Rattle.velo_events.proofs.OnWellFormed.{count_below}
use Rattle.velo_predict.specs.Circles.{IsAmong, IsInRow}
use Rattle.velo_predict.proofs.circle.threads_out.Given as goal

abbrev pub invariant-loop-t : goal.invariant-loop-t
invariant-loop-t l = (cycle : List ℕ) → IsCycle (IsInRow l.rows) cycle → (t : ℕ) → IsAmong t cycle → IsFalse (has_thread l.out t)

abbrev pub decreases-loop-t : goal.decreases-loop-t
decreases-loop-t l = count_below (length l.rows) (λ t. not (has_thread l.out t))
