-- Shares in their places.
use Rattle.std.specs.Prelude.{◌≡◌, ◌≤◌, ◌<◌, ℕ, List, length, Option, Some, slice_get, sum_by}
use Rattle.std.specs.Option.{option_and_then, option_map_or}
use Rattle.velo_events.specs.declared.event.ThreadId.{ThreadId}
use Rattle.velo_ledger.specs.Tally.{blank}
use Rattle.velo_ledger.specs.Views.{Holding}

-- the share at the place, if the place is there and filled
abbrev pub share_in : List (Option Holding) → ℕ → Option Holding
share_in places t = option_and_then (λ place. place) (slice_get places t)

-- that at the thread's place
abbrev pub share_at : List (Option Holding) → ThreadId → Option Holding
share_at places t = share_in places t.0

-- each share is at the place of its thread
pub record AreInPlace (places : List (Option Holding)) : Type 0 where
  pub few : length places ≤ 255
  pub own : (t : ℕ) (share : Holding) → slice_get places t ≡ Some (Some share) → share.thread.0 ≡ t

-- the share that a thread begins with
abbrev pub opening_share : ℕ → ℕ → Holding
opening_share run t = record { run = run; thread = record { 0 = t }; tally = blank }

-- each of the threads has the share that it begins with
pub record AreOpening (run threads : ℕ) (places : List (Option Holding)) : Type 0 where
  pub all : length places ≡ threads
  pub each : (t : ℕ) → t < threads → slice_get places t ≡ Some (Some (opening_share run t))

-- the events that all shares count
abbrev pub events_in : Option Holding → ℕ
events_in place = option_map_or (λ share. share.tally.events) place 0

abbrev pub events_in_all : List (Option Holding) → ℕ
events_in_all places = sum_by events_in places
