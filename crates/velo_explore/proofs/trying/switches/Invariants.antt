use Rattle.std.proofs.Common.{◌≤◌}
use Rattle.velo_explore.proofs.trying.switches.Given as goal

abbrev pub invariant-loop-place : goal.invariant-loop-place
invariant-loop-place l = l.count ≤ l.place
