use Rattle.std.proofs.Common.{◌≤◌}
use Rattle.velo_delays.proofs.marks.Marks.forget.Given as goal

abbrev pub invariant-loop-at : goal.invariant-loop-at
invariant-loop-at l = l.kept ≤ l.at
