-- Numbers of the positions before one, or after it, and the greatest of those whose events conflict
-- with the one there. Private contracts cite these words.
use Rattle.std.specs.Prelude.{◌≡◌, ℕ, ◌+◌, ◌<◌, ◌≤◌, cond, nat_lt, nat_le, List, IsTrue}
use Rattle.velo_events.specs.declared.event.Event.{Event}
use Rattle.velo_events.specs.Event.{access_of}
use Rattle.velo_events.specs.Graph.{conflict_at}
use Rattle.velo_traces.specs.Numbers.{Rows, HasNumbers, IsGreatest, strong_for}
use Rattle.velo_certify.specs.Owners.{event_at}

-- m is the greatest number of a position before j whose event conflicts with the one there, or 0
-- where none has one
pub record IsGreatestBefore (trace : List Event) (numbers : ℕ → ℕ) (j m : ℕ) : Type 0 where
  pub covers : (i : ℕ) → i < j → IsTrue (conflict_at trace i j) → numbers i ≤ m
  pub reached : 0 < m → (i : ℕ) × (i < j) × IsTrue (conflict_at trace i j) × (numbers i ≡ m)

-- and of those after it
pub record IsGreatestAfter (trace : List Event) (numbers : ℕ → ℕ) (j m : ℕ) : Type 0 where
  pub covers : (i : ℕ) → j < i → IsTrue (conflict_at trace j i) → numbers i ≤ m
  pub reached : 0 < m → (i : ℕ) × (j < i) × IsTrue (conflict_at trace j i) × (numbers i ≡ m)

-- the numbers of the positions before j, or from j on
abbrev pub numbers_before : (ℕ → ℕ) → ℕ → ℕ → ℕ
numbers_before numbers j i = cond (nat_lt i j) (numbers i) 0

abbrev pub numbers_from : (ℕ → ℕ) → ℕ → ℕ → ℕ
numbers_from numbers j i = cond (nat_le j i) (numbers i) 0

-- the position at hand is taken in after those before it, or after those after it
pub record TakesIn (trace : List Event) (at_hand number : ℕ) (old new : Rows) (greatest : ℕ) : Type 0 where
  pub forward : (numbers : ℕ → ℕ) → numbers at_hand ≡ number → HasNumbers trace (numbers_before numbers at_hand) old → HasNumbers trace (numbers_before numbers (at_hand + 1)) new × IsGreatestBefore trace numbers at_hand greatest
  pub backward : (numbers : ℕ → ℕ) → numbers at_hand ≡ number → HasNumbers trace (numbers_from numbers (at_hand + 1)) old → HasNumbers trace (numbers_from numbers at_hand) new × IsGreatestAfter trace numbers at_hand greatest

-- the same, with the greatest number of those whose events change what the event at hand is about
-- besides its thread
pub record TakesChanges (trace : List Event) (at_hand number : ℕ) (old new : Rows) (other : ℕ) : Type 0 where
  pub forward : (numbers : ℕ → ℕ) → numbers at_hand ≡ number → HasNumbers trace (numbers_before numbers at_hand) old → HasNumbers trace (numbers_before numbers (at_hand + 1)) new × IsGreatest trace (numbers_before numbers at_hand) (strong_for (access_of (event_at trace at_hand).kind)) other
  pub backward : (numbers : ℕ → ℕ) → numbers at_hand ≡ number → HasNumbers trace (numbers_from numbers (at_hand + 1)) old → HasNumbers trace (numbers_from numbers at_hand) new × IsGreatest trace (numbers_from numbers (at_hand + 1)) (strong_for (access_of (event_at trace at_hand).kind)) other
