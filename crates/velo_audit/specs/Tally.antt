-- How many blocks of a label a log has, and how many of them are to blame.
use Rattle.std.specs.Prelude.{◌≡◌, ℕ, zero, suc, ◌+◌, Bool, false, ◌==◌, ◌↔◌, if◌then◌else◌, List, length, Contains, IsTrue}
use Rattle.std.specs.List.Sorted.{IsStrictlyIncreasing}
use Rattle.velo_events.specs.declared.event.Event.{Event}
use Rattle.velo_events.specs.declared.event.Kind.{Kind}
use Rattle.velo_events.specs.declared.event.Kind.TheVariants.{Begin}
use Rattle.velo_events.specs.Block.{passes_at}
use Rattle.velo_audit.specs.Blame.{IsToBlame, IsAround}
use Rattle.velo_audit.specs.declared.tally.LabelTally.{LabelTally}

-- n is how many numbers have the property
pub record IsCountOf (P : ℕ → Type 0) (n : ℕ) : Type 0 where
  pub these : List ℕ
  pub are : (b : ℕ) → Contains these b ↔ P b
  pub once : IsStrictlyIncreasing these
  pub count : n ≡ length these

abbrev pub begins_label : ℕ → Kind → Bool
begins_label l (Begin label) = label.0 == l
begins_label l _ = false

-- a block with this label begins at b
abbrev pub is_block_of : List Event → ℕ → ℕ → Bool
is_block_of log l b = passes_at log (λ e. begins_label l e.kind) b

abbrev pub IsBlamedBlockOf : List Event → ℕ → ℕ → Type 0
IsBlamedBlockOf log l b = IsTrue (is_block_of log l b) × IsToBlame log b

-- and none inside it is to blame
abbrev pub IsInnermostBlockOf : List Event → ℕ → ℕ → Type 0
IsInnermostBlockOf log l b = IsTrue (is_block_of log l b) × (IsToBlame log b × ¬ IsAround log b)

-- the blocks of the label in the log, those of them that are to blame, and those of these that have none inside that is
pub record IsTally (log : List Event) (l : ℕ) (tally : LabelTally) : Type 0 where
  pub blocks : IsCountOf (λ b. IsTrue (is_block_of log l b)) tally.blocks
  pub blamed : IsCountOf (IsBlamedBlockOf log l) tally.blamed
  pub innermost : IsCountOf (IsInnermostBlockOf log l) tally.innermost

-- ---- on the way. Private contracts cite these words

-- how many numbers below n pass the test
unfoldable pub count_below : ℕ → (ℕ → Bool) → ℕ
count_below zero test = 0
count_below (suc n) test = count_below n test + (if test n then 1 else 0)
