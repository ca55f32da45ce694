-- What the tables leave out.
use Rattle.std.specs.Prelude.{ℕ, Bool, false, List, slice_index_or}
use Rattle.velo_filter.specs.Left.{Omitted, is_listed}
use Rattle.velo_filter.specs.declared.labels.LabelSet.{LabelSet}
use Rattle.velo_filter.specs.declared.left.LeftOut.{LeftOut}

-- the number is marked
abbrev pub marked : List Bool → ℕ → Bool
marked marks n = slice_index_or marks n false

-- the numbers of the labels in a set, as a test
abbrev pub members : LabelSet → ℕ → Bool
members set n = is_listed set.labels.keys n

abbrev pub left_of : LeftOut → Omitted
left_of tables = record { labels = members tables.labels; locks = marked tables.locks.items; variables = marked tables.variables.items }
