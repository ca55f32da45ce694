use Rattle.std.proofs.Common.{ℕ, ◌<◌, IsTrue}
use Rattle.velo_events.specs.ThreadSets.{has_thread}
use Rattle.velo_predict.proofs.circle.first_left.Given as goal

abbrev pub invariant-loop-t : goal.invariant-loop-t
invariant-loop-t l = (t : ℕ) → t < l.t → IsTrue (has_thread l.out t)
