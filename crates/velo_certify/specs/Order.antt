-- What is checked of a list that may be a serial reordering. Private contracts cite these words.
use Rattle.std.specs.Prelude.{◌≡◌, ℕ, ◌+◌, ◌<◌, ◌==◌, nat_lt, if◌then◌else◌, Bool, false, List, take, length, count_by, slice_index, slice_index_or, IsTrue}
use Rattle.velo_events.specs.declared.event.Event.{Event}
use Rattle.velo_events.specs.Graph.{conflict_at}

-- each number below n is in the list once, and nothing else
pub record HasEachOnce (n : ℕ) (order : List ℕ) : Type 0 where
  pub each : (i : ℕ) → count_by (λ k. k == i) order ≡ (if nat_lt i n then 1 else 0)

-- what is in the first k places has its place, counted from 1, and nothing else has one
pub record IsFilled (order : List ℕ) (k : ℕ) (places : List ℕ) : Type 0 where
  pub counts : (i : ℕ) → count_by (λ m. m == i) (take k order) ≡ (if nat_lt 0 (slice_index places i) then 1 else 0)
  pub placed : (m : ℕ) → m < k → slice_index places (slice_index order m) ≡ m + 1

-- the places in a list that has each number below n once
pub record ArePlaces (n : ℕ) (order places : List ℕ) : Type 0 where
  pub count : length places ≡ n
  pub once : HasEachOnce n order
  pub placed : (m : ℕ) → m < length order → slice_index places (slice_index order m) ≡ m + 1
  pub positive : (i : ℕ) → i < length places → 0 < slice_index places i

-- of two positions in conflict the earlier one has the lower place
pub record KeepsConflicts (trace : List Event) (places : List ℕ) : Type 0 where
  pub each : (i j : ℕ) → i < j → IsTrue (conflict_at trace i j) → slice_index places i < slice_index places j

-- the transaction of the position at a place
abbrev pub owner_at : List ℕ → List ℕ → ℕ → ℕ
owner_at owners order k = slice_index owners (slice_index order k)

-- what is between two places of one transaction is of it
pub record AreTogether (owners order : List ℕ) : Type 0 where
  pub each : (j l m : ℕ) → j < l → l < m → m < length order → owner_at owners order j ≡ owner_at owners order m → owner_at owners order l ≡ owner_at owners order m

-- the same of the first k places, of whose transactions is known that they have begun
pub record StandSoFar (owners order : List ℕ) (k : ℕ) (begun : List Bool) : Type 0 where
  pub count : length begun ≡ length owners
  pub sound : (a : ℕ) → IsTrue (slice_index_or begun a false) → (m : ℕ) × (m < k) × (owner_at owners order m ≡ a)
  pub complete : (m : ℕ) → m < k → IsTrue (slice_index_or begun (owner_at owners order m) false)
  pub together : (j l m : ℕ) → j < l → l < m → m < k → owner_at owners order j ≡ owner_at owners order m → owner_at owners order l ≡ owner_at owners order m
