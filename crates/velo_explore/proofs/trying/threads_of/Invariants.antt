use Rattle.std.proofs.Common.{◌≤◌, length}
use Rattle.velo_explore.proofs.trying.threads_of.Given as goal

abbrev pub invariant-loop-place : goal.invariant-loop-place
invariant-loop-place l = length l.threads.items ≤ l.place
