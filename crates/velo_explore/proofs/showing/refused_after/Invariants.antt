use Rattle.std.proofs.Common.{ℕ, ◌<◌, ◌++◌, ◌∷◌, []}
use Rattle.velo_filter.specs.Left.{rest_of}
use Rattle.velo_filter.specs.Tables.{left_of}
use Rattle.velo_search.specs.declared.fault.Fault.TheVariants.{Refusing}
use Rattle.velo_explore.specs.Told.{LacksFault}
use Rattle.velo_explore.proofs.showing.refused_after.Given as goal

abbrev pub invariant-loop-thread : goal.invariant-loop-thread
invariant-loop-thread l = (t : ℕ) → t < l.thread → LacksFault (rest_of (left_of l.fn.left)) l.fn.workload l.fn.config Refusing (l.fn.schedule ++ record { 0 = t } ∷ [])
