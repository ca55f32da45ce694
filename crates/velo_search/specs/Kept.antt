-- The summary that the marks are.
use Rattle.std.specs.Prelude.{◌≡◌}
use Rattle.velo_search.specs.declared.marks.Marks.{Marks}
use Rattle.velo_search.specs.Summary.{Summary}
use Rattle.velo_search.specs.Marks.{summary_by}

abbrev pub summary_of : Marks → Summary
summary_of m = summary_by m.bounds m.alarmed m.marks.items

-- they are of the same bounds, and say the same of each group
pub record AreSame (one other : Marks) : Type 0 where
  pub bounds : one.bounds ≡ other.bounds
  pub alarmed : one.alarmed ≡ other.alarmed
  pub marks : one.marks.items ≡ other.marks.items
