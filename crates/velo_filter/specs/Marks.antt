-- For each thread which of its open blocks are left out. Private contracts cite these words.
use Rattle.std.specs.Prelude.{◌≡◌, ℕ, ◌+◌, ◌*◌, ◌<◌, ◌≤◌, Bool, if◌then◌else◌, List, [], ◌∷◌, length, map, slice_index}
use Rattle.velo_events.specs.declared.limits.TheConstants.{MAX_OPEN_BLOCKS}
use Rattle.velo_events.specs.declared.event.Event.{Event}
use Rattle.velo_filter.specs.Left.{Omitted, is_dissolved}
use Rattle.velo_filter.specs.Stacks.{stack}

-- the answers as a number: the first is its last bit
unfoldable pub number_of : List Bool → ℕ
number_of [] = 0
number_of (b ∷ bs) = number_of bs * 2 + (if b then 1 else 0)

-- a row has the number of its thread's open blocks before position n, innermost first
pub record AreMarks (omitted : Omitted) (log : List Event) (n : ℕ) (rows : List ℕ) : Type 0 where
  pub each : (t : ℕ) → t < length rows → slice_index rows t ≡ number_of (map (is_dissolved omitted log) (stack log t n))

-- so few blocks are open everywhere that such a number is small
pub record IsShallow (log : List Event) : Type 0 where
  pub each : (t n : ℕ) → n ≤ length log → length (stack log t n) ≤ MAX_OPEN_BLOCKS
