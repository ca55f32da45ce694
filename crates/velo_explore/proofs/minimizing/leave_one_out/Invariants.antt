use Rattle.std.proofs.Common.{◌<◌, ℕ}
use Rattle.velo_explore.specs.Simple.{IsNeeded}
use Rattle.velo_explore.proofs.minimizing.leave_one_out.Given as goal

abbrev pub invariant-loop-place : goal.invariant-loop-place
invariant-loop-place l = (i : ℕ) → i < l.place → IsNeeded l.fn.workload l.fn.config l.fn.goal l.fn.schedule i
