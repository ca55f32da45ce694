use Rattle.std.proofs.Common.{◌≡◌, ◌≤◌}
use Rattle.velo_laws.specs.Length.{counted}
use Rattle.velo_filter.specs.Tables.{marked}
use Rattle.velo_thinning.proofs.counting.count_marked.Given as goal

abbrev pub invariant-loop-number : goal.invariant-loop-number
invariant-loop-number l = record {
  is : l.count ≡ counted l.number (marked l.marks);
  most : l.count ≤ l.number;
}
