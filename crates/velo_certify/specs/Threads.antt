-- The events of each thread in their order, and how far each thread's are listed. Private contracts
-- cite these words.
use Rattle.std.specs.Prelude.{◌≡◌, ◌≢◌, ℕ, ◌+◌, ◌<◌, ◌≤◌, Bool, List, length, slice_index, IsTrue, IsFalse}
use Rattle.velo_events.specs.declared.event.Event.{Event}
use Rattle.velo_events.specs.Event.{thread_of}
use Rattle.velo_events.specs.Block.{owner}
use Rattle.velo_certify.specs.declared.serial.Next.{Next}
use Rattle.velo_certify.specs.declared.serial.Next.TheVariants.{Ready, Stuck, Done}
use Rattle.velo_certify.specs.Owners.{event_at}
use Rattle.velo_certify.specs.Serial.{has, IsCandidate, IsFree}

-- the thread of the event at a position that is there
abbrev pub thread_at : List Event → ℕ → ℕ
thread_at trace i = thread_of (event_at trace i)

-- j is the first position of thread t from n on, or the number of positions where there is none
pub record IsFirstFrom (trace : List Event) (t n j : ℕ) : Type 0 where
  pub from_n : n ≤ j
  pub at_most : j ≤ length trace
  pub own : j < length trace → thread_at trace j ≡ t
  pub none : (k : ℕ) → n ≤ k → k < j → thread_at trace k ≢ t

-- each thread has its first position from n on
pub record AreFirstFrom (trace : List Event) (n : ℕ) (fronts : List ℕ) : Type 0 where
  pub each : (t : ℕ) → t < length fronts → IsFirstFrom trace t n (slice_index fronts t)

-- each position from n on has the next one of its thread
pub record AreFollowing (trace : List Event) (n : ℕ) (following : List ℕ) : Type 0 where
  pub count : length following ≡ length trace
  pub each : (i : ℕ) → n ≤ i → i < length trace → IsFirstFrom trace (thread_at trace i) (i + 1) (slice_index following i)

-- all threads have a place
pub record NamesFronts (trace : List Event) (fronts : List ℕ) : Type 0 where
  pub each : (i : ℕ) → i < length trace → thread_at trace i < length fronts

-- each thread has its first position whose transaction is not listed
pub record AreFronts (trace : List Event) (listed : List Bool) (fronts : List ℕ) : Type 0 where
  pub names : NamesFronts trace fronts
  pub passed : (i : ℕ) → i < length trace → i < slice_index fronts (thread_at trace i) → IsTrue (has listed (owner trace i))
  pub own : (t : ℕ) → t < length fronts → slice_index fronts t < length trace → thread_at trace (slice_index fronts t) ≡ t
  pub left : (t : ℕ) → t < length fronts → slice_index fronts t < length trace → IsFalse (has listed (owner trace (slice_index fronts t)))

-- of a transaction's thread all before it is listed
pub record IsFront (trace : List Event) (listed : List Bool) (a : ℕ) : Type 0 where
  pub passed : (i : ℕ) → i < a → thread_at trace i ≡ thread_at trace a → IsTrue (has listed (owner trace i))

-- k is the first position of the thread after its transaction a
pub record IsBehind (trace : List Event) (a k : ℕ) : Type 0 where
  pub after : a < k
  pub own : k < length trace → thread_at trace k ≡ thread_at trace a
  pub other : k < length trace → owner trace k ≢ a
  pub mine : (i : ℕ) → a ≤ i → i < k → i < length trace → thread_at trace i ≡ thread_at trace a → owner trace i ≡ a

-- what is listed next, by the fronts of the first n threads
abbrev pub IsNextSoFar : List Event → List Bool → List ℕ → ℕ → Next → Type 0
IsNextSoFar trace listed fronts n (Ready a) = IsCandidate trace listed a × IsFree trace listed a × ((t : ℕ) → t < n → slice_index fronts t < length trace → IsFree trace listed (slice_index fronts t) → a ≤ slice_index fronts t)
IsNextSoFar trace listed fronts n Stuck = ((b : ℕ) × IsCandidate trace listed b) × ((t : ℕ) → t < n → slice_index fronts t < length trace → ¬ IsFree trace listed (slice_index fronts t))
IsNextSoFar trace listed fronts n Done = (t : ℕ) → t < n → slice_index fronts t < length trace → ⊥

-- one more front is looked at
pub record IsWithFront (trace : List Event) (listed : List Bool) (a : ℕ) (old new : Next) : Type 0 where
  pub each : (fronts : List ℕ) (n : ℕ) → slice_index fronts n ≡ a → IsNextSoFar trace listed fronts n old → IsNextSoFar trace listed fronts (n + 1) new
