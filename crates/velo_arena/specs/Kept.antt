-- What an arena keeps about its list of free slots. Private contracts cite these words.
use Rattle.std.specs.Prelude.{◌≡◌, ◌≢◌, ℕ, ◌+◌, ◌<◌, ◌≤◌, List, length, slice_index, slice_index_or, count_by, Option, None, is_some}
use Rattle.velo_arena.specs.Slots.{HasOwnStamps}
use Rattle.velo_arena.specs.declared.step.Node.{Node}

-- the list has each free slot once, and slots from the extent on have never been used
pub record TracksFree (nodes : List (Option Node)) (free : List ℕ) (room extent : ℕ) : Type 0 where
  pub each_free : (k : ℕ) → k < length free → slice_index_or nodes (slice_index free k) None ≡ None
  pub in_range : (k : ℕ) → k < length free → slice_index free k < length nodes
  pub each_once : (j k : ℕ) → j < k → k < length free → slice_index free j ≢ slice_index free k
  pub counted : count_by is_some nodes + length free ≡ length nodes
  pub has_room : length nodes ≤ room
  pub untouched : (k : ℕ) → extent ≤ k → slice_index_or nodes k None ≡ None
  pub within : extent ≤ length nodes
  pub small : length nodes < 65536

-- and the stamps of the slots in use
pub record TracksSlots (nodes : List (Option Node)) (newest : Option ℕ) (free : List ℕ) (room extent : ℕ) : Type 0 where
  pub tracks : TracksFree nodes free room extent
  pub stamps : HasOwnStamps (record { nodes = nodes; newest = newest })

-- the n greatest numbers below the limit, falling
pub record CountsDown (numbers : List ℕ) (limit n : ℕ) : Type 0 where
  pub length_is : length numbers ≡ n
  pub each : (k : ℕ) → k < n → slice_index numbers k + k + 1 ≡ limit
