-- The rounds in which a serial order is listed.
use Rattle.std.specs.Prelude.{◌≡◌, ◌≢◌, ℕ, ◌<◌, ◌≤◌, Bool, false, not, nat_lt, List, length, count_by, slice_index_or, IsTrue, IsFalse}
use Rattle.velo_events.specs.declared.event.Event.{Event}
use Rattle.velo_events.specs.Block.{owner}
use Rattle.velo_events.specs.Graph.{conflict_at, Edge}
use Rattle.velo_events.specs.Graph.{HasCycle as TraceHasCycle}
use Rattle.velo_events.specs.Refusals.{GrowthRefused}
use Rattle.velo_certify.specs.declared.fault.CertFault.{CertFault}
use Rattle.velo_certify.specs.declared.fault.CertFault.TheVariants.{HasCycle, NoCycle, NotThere, Memory}
use Rattle.velo_certify.specs.declared.serial.Next.{Next}
use Rattle.velo_certify.specs.declared.serial.Next.TheVariants.{Ready, Stuck, Done}

-- why a trace gets no serial order
abbrev pub IsOrderFault : List Event → CertFault → Type 0
IsOrderFault trace HasCycle = TraceHasCycle trace
IsOrderFault trace NoCycle = ⊥
IsOrderFault trace NotThere = ⊥
IsOrderFault trace Memory = GrowthRefused

-- the transaction is marked as listed
abbrev pub has : List Bool → ℕ → Bool
has listed a = slice_index_or listed a false

-- with a transaction each is listed from which an edge leads to it
pub record AreClosed (trace : List Event) (listed : List Bool) : Type 0 where
  pub each : (b a : ℕ) → Edge trace b a → IsTrue (has listed a) → IsTrue (has listed b)

-- nothing holds transaction a back at position n
pub record IsFreeAt (trace : List Event) (listed : List Bool) (a n : ℕ) : Type 0 where
  pub each : owner trace n ≡ a → (i : ℕ) → i < n → IsTrue (conflict_at trace i n) → owner trace i ≢ a → IsTrue (has listed (owner trace i))

-- or at any
pub record IsFree (trace : List Event) (listed : List Bool) (a : ℕ) : Type 0 where
  pub each : (n : ℕ) → IsFreeAt trace listed a n

-- a transaction that is not listed
pub record IsCandidate (trace : List Event) (listed : List Bool) (a : ℕ) : Type 0 where
  pub within : a < length trace
  pub first : owner trace a ≡ a
  pub not_listed : IsFalse (has listed a)

-- the next one comes before transaction a
abbrev pub is_before : Next → ℕ → Bool
is_before (Ready b) a = nat_lt b a
is_before _ a = false

-- what is listed next
abbrev pub IsNext : List Event → List Bool → Next → Type 0
IsNext trace listed (Ready a) = IsCandidate trace listed a × IsFree trace listed a × ((b : ℕ) → IsCandidate trace listed b → IsFree trace listed b → a ≤ b)
IsNext trace listed Stuck = ((b : ℕ) × IsCandidate trace listed b) × ((b : ℕ) → IsCandidate trace listed b → ¬ IsFree trace listed b)
IsNext trace listed Done = (b : ℕ) → ¬ IsCandidate trace listed b

-- how many are not listed
abbrev pub left : List Bool → ℕ
left listed = count_by (λ b. not b) listed
