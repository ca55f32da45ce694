-- Marks at the begins of the blocks that are to blame somewhere, and of those around another one that is.
use Rattle.std.specs.Prelude.{◌≡◌, ℕ, ◌+◌, ◌<◌, ◌≤◌, ◌⊎◌, ◌↔◌, Bool, false, List, length, slice_index, slice_index_or, IsTrue}
use Rattle.velo_events.specs.declared.event.Event.{Event}
use Rattle.velo_blame.specs.Blamed.{thread_at}
use Rattle.velo_audit.specs.Blame.{IsToBlameAt, IsOpenAfter, IsToBlame, IsAround}
use Rattle.velo_traces.specs.Numbers.{Rows}
use Rattle.velo_audit.specs.Reach.{ReachesUpTo}
use Rattle.velo_audit.specs.Open.{AreOpen}
use Rattle.velo_audit.specs.declared.marks.BlameMarks.{BlameMarks}

abbrev pub mark_at : List Bool → ℕ → Bool
mark_at marks b = slice_index_or marks b false

-- each position of the log has its marks
pub record AreMarks (log : List Event) (marks : BlameMarks) : Type 0 where
  pub as_many : length marks.blamed.items ≡ length log
  pub as_many_around : length marks.around.items ≡ length log
  pub blamed : (b : ℕ) → IsTrue (mark_at marks.blamed.items b) ↔ IsToBlame log b
  pub around : (b : ℕ) → IsTrue (mark_at marks.around.items b) ↔ IsAround log b

-- ---- on the way. Private contracts cite these words

-- the position is one of a thread below t, or one of t before n
abbrev pub IsPassed : List Event → ℕ → ℕ → ℕ → Type 0
IsPassed log t n p = (thread_at log p < t) ⊎ ((thread_at log p ≡ t) × (p < n))

pub record IsToBlameSoFar (log : List Event) (t n b : ℕ) : Type 0 where
  pub at : ℕ
  pub passed : IsPassed log t n at
  pub there : IsToBlameAt log at b

pub record IsAroundSoFar (log : List Event) (t n b : ℕ) : Type 0 where
  pub at : ℕ
  pub inner : ℕ
  pub passed : IsPassed log t n at
  pub later : b < inner
  pub is_open : IsOpenAfter log at b
  pub there : IsToBlameAt log at inner

-- the marks that were made at the positions so far
pub record AreMarksSoFar (log : List Event) (t n : ℕ) (marks : BlameMarks) : Type 0 where
  pub as_many : length marks.blamed.items ≡ length log
  pub as_many_around : length marks.around.items ≡ length log
  pub blamed : (b : ℕ) → IsTrue (mark_at marks.blamed.items b) ↔ IsToBlameSoFar log t n b
  pub around : (b : ℕ) → IsTrue (mark_at marks.around.items b) ↔ IsAroundSoFar log t n b

-- b is one of these numbers, and below the bound
pub record IsBelow (these : List ℕ) (bound b : ℕ) : Type 0 where
  pub place : ℕ
  pub within : place < length these
  pub there : slice_index these place ≡ b
  pub low : b < bound

-- so is the one after it
pub record IsBeforeOneBelow (these : List ℕ) (bound b : ℕ) : Type 0 where
  pub place : ℕ
  pub within : place + 1 < length these
  pub there : slice_index these place ≡ b
  pub low : slice_index these (place + 1) < bound

-- how many of these numbers, which rise, are below the bound
pub record CountsBelow (these : List ℕ) (bound count : ℕ) : Type 0 where
  pub few : count ≤ length these
  pub below : (j : ℕ) → j < count → slice_index these j < bound
  pub others : (j : ℕ) → count ≤ j → j < length these → bound ≤ slice_index these j

-- where a pass over the log for thread t stands before position n
pub record StandsAt (log : List Event) (t n : ℕ) (marks : BlameMarks) (known others : Rows) (bound : ℕ) (open_ones : List ℕ) : Type 0 where
  pub reaches : ReachesUpTo log t n known others bound
  pub are_open : AreOpen log t n open_ones
  pub are_marks : AreMarksSoFar log t n marks
