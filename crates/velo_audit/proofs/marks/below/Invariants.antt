use Rattle.std.proofs.Common.{ℕ, ◌<◌, get_or}
use Rattle.velo_audit.proofs.marks.below.Given as goal

abbrev pub invariant-loop-k : goal.invariant-loop-k
invariant-loop-k l = (j : ℕ) → j < l.k → get_or l.these j 0 < l.bound
