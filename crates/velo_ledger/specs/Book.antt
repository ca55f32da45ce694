-- What it is for shares to fit a book.
use Rattle.std.specs.Prelude.{◌≡◌, ◌<◌, ◌≤◌, ◌⊎◌, ℕ, List, length, Option, None, Some, slice_get, slice_set, replicate}
use Rattle.velo_events.specs.declared.event.ThreadId.{ThreadId}
use Rattle.velo_ledger.specs.declared.tally.Tally.{Tally}
use Rattle.velo_events.specs.declared.event.Event.{Event}
use Rattle.velo_ledger.specs.Tally.{blank, with_event}
use Rattle.velo_ledger.specs.Views.{Accounts, Holding}

-- a book without events
abbrev pub opening_accounts : ℕ → ℕ → Accounts
opening_accounts run threads = record { run = run; rows = replicate threads blank }

-- the book with another row of the thread, and the share with another tally
abbrev pub with_row : Accounts → ThreadId → Tally → Accounts
with_row book t tally = record book { rows = slice_set book.rows t.0 tally }

abbrev pub with_tally : Holding → Tally → Holding
with_tally share tally = record share { tally = tally }

-- the share is of the book's run and of one of its threads, and has all five parts of the row
pub record FitsBook (book : Accounts) (share : Holding) : Type 0 where
  pub run : share.run ≡ book.run
  pub row : slice_get book.rows share.thread.0 ≡ Some share.tally

-- the fitting share of the event's thread is at its place, and knows of no event from the position
-- on
pub record CanEnterAt (book : Accounts) (places : List (Option Holding)) (position : ℕ) (e : Event) : Type 0 where
  pub share : Holding
  pub there : slice_get places e.thread.0 ≡ Some (Some share)
  pub fits : FitsBook book share
  pub later : share.tally.next ≤ position

-- the event was added to the row of its thread and to the share at its place
pub record EntersAt (book : Accounts) (places : List (Option Holding)) (position : ℕ) (e : Event) (book' : Accounts) (places' : List (Option Holding)) : Type 0 where
  pub row : (share : Holding) → slice_get places e.thread.0 ≡ Some (Some share) → book' ≡ with_row book e.thread (with_event share.tally position e)
  pub share : (share : Holding) → slice_get places e.thread.0 ≡ Some (Some share) → places' ≡ slice_set places e.thread.0 (Some (with_tally share (with_event share.tally position e)))

-- the event's thread has a row, which knows of no event from the position on
pub record CanCount (book : Accounts) (position : ℕ) (e : Event) : Type 0 where
  pub row : Tally
  pub there : slice_get book.rows e.thread.0 ≡ Some row
  pub later : row.next ≤ position

-- the event was added to the row of its thread
pub record CountsIn (book : Accounts) (position : ℕ) (e : Event) (book' : Accounts) : Type 0 where
  pub row : (row : Tally) → slice_get book.rows e.thread.0 ≡ Some row → book' ≡ with_row book e.thread (with_event row position e)

-- of the same place of two lists: one share is there and fits, or none, and no thread has this
-- place
abbrev pub PlacesFit : Accounts → ℕ → Option Holding → Option Holding → Type 0
PlacesFit book t None None = length book.rows ≤ t
PlacesFit book t (Some share) None = FitsBook book share
PlacesFit book t None (Some share) = FitsBook book share
PlacesFit book t (Some share) (Some other) = ⊥

-- the place has a share
abbrev pub IsFilled : List (Option Holding) → ℕ → Type 0
IsFilled places t = (share : Holding) × (slice_get places t ≡ Some (Some share))

-- the share of each thread is there, and all shares fit
pub record HasAllShares (book : Accounts) (places : List (Option Holding)) : Type 0 where
  pub there : (t : ℕ) → t < length book.rows → IsFilled places t
  pub fit : (t : ℕ) (share : Holding) → slice_get places t ≡ Some (Some share) → FitsBook book share

-- the share of each thread is in one of two lists of places, no place has a share in both, and all
-- shares fit
pub record HaveAllShares (book : Accounts) (kept given : List (Option Holding)) : Type 0 where
  pub there : (t : ℕ) → t < length book.rows → IsFilled kept t ⊎ IsFilled given t
  pub once : (t : ℕ) → IsFilled kept t → ¬ IsFilled given t
  pub kept_fit : (t : ℕ) (share : Holding) → slice_get kept t ≡ Some (Some share) → FitsBook book share
  pub given_fit : (t : ℕ) (share : Holding) → slice_get given t ≡ Some (Some share) → FitsBook book share
