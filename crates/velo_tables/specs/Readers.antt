-- Which threads have a read of a cell: one bit of a number for each. Private contracts cite these words.
use Rattle.std.specs.Prelude.{◌≡◌, ℕ, ◌≤◌, List, Option, None, length, slice_index_or}
use Rattle.std.specs.Int.{bit_at}
use Rattle.velo_events.specs.declared.limits.TheConstants.{MAX_THREADS}

-- there is at most one entry for each thread of a run, and each that is filled has its bit
pub record AreReaders {X : Type 0} (readers : ℕ) (reads : List (Option X)) : Type 0 where
  pub few : length reads ≤ MAX_THREADS
  pub covers : (t : ℕ) → bit_at readers t ≡ 0 → slice_index_or reads t None ≡ None
