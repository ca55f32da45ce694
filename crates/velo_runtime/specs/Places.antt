-- Shares of which some went to the places of their threads, and the others are seats. Private
-- contracts cite these words.
use Rattle.std.specs.Prelude.{◌≡◌, ◌<◌, ℕ, List, Option, None, Some, All, count_by, if◌then◌else◌, slice_get, sum_by}
use Rattle.velo_events.specs.Heap.{status_in}
use Rattle.velo_events.specs.Meaning.{is_unborn}
use Rattle.velo_ledger.specs.Views.{Holding}
use Rattle.velo_world.specs.World.{WorldState, FitsLog}
use Rattle.velo_runtime.specs.Seats.{is_of}

-- how many seats a thread has at the end
abbrev pub seats_due : WorldState → ℕ → ℕ
seats_due w t = if is_unborn (status_in w.log t) then 0 else 1

-- the events that the shares count
abbrev pub events_of_all : List Holding → ℕ
events_of_all shares = sum_by (λ s. s.tally.events) shares

-- a thread's place is there, and either it is filled with the one share that is due, or all seats
-- that are due are left
abbrev pub PlaceAwaits : WorldState → ℕ → ℕ → Option (Option Holding) → Type 0
PlaceAwaits w t left None = ⊥
PlaceAwaits w t left (Some None) = left ≡ seats_due w t
PlaceAwaits w t left (Some (Some share)) = FitsLog w share × (share.thread.0 ≡ t) × (left ≡ 0) × (seats_due w t ≡ 1)

-- the shares at the places and those of the seats are one fitting share of each thread that was
-- born
pub record AreTogether (w : WorldState) (places : List (Option Holding)) (seats : List Holding) : Type 0 where
  pub fit : All (FitsLog w) seats
  pub each : (t : ℕ) → t < w.config.bounds.threads → PlaceAwaits w t (count_by (is_of t) seats) (slice_get places t)
