-- Numbers of events, each named by its position, and the greatest of those whose events pass a
-- test.
use Rattle.std.specs.Prelude.{◌≡◌, ◌≢◌, ℕ, ◌<◌, ◌≤◌, Bool, false, List, length, Option, Some, slice_get, slice_index, IsTrue}
use Rattle.velo_events.specs.declared.event.Event.{Event}
use Rattle.velo_events.specs.declared.event.Access.{Access}
use Rattle.velo_events.specs.declared.event.Access.TheVariants.{Shared, Exclusive, Nothing}
use Rattle.velo_events.specs.About.{thread_in, forked_or_joined_in, written_in, read_in, is_about}
use Rattle.velo_events.specs.Event.{access_of}
use Rattle.velo_events.specs.Conflict.{conflict}
use Rattle.velo_events.specs.Block.{passes_at}

-- m is the greatest number of a position whose event passes the test, or 0 where none has one
pub record IsGreatest (trace : List Event) (numbers : ℕ → ℕ) (test : Event → Bool) (m : ℕ) : Type 0 where
  pub covers : (i : ℕ) → IsTrue (passes_at trace test i) → numbers i ≤ m
  pub reached : 0 < m → (i : ℕ) × IsTrue (passes_at trace test i) × (numbers i ≡ m)

-- ---- the rows

-- a table as callers see it: by number of a thread the greatest numbers of its events and of its
-- forks and joins, by number of a cell those of its writes and reads
pub record Rows : Type 0 where
  pub threads : List ℕ
  pub handles : List ℕ
  pub writes : List ℕ
  pub reads : List ℕ

-- the row has, for each thing, the greatest number of the events that are about it
pub record IsRow (trace : List Event) (numbers : ℕ → ℕ) (named : Event → Option ℕ) (row : List ℕ) : Type 0 where
  pub each : (x : ℕ) → x < length row → IsGreatest trace numbers (is_about named x) (slice_index row x)

-- the table has the numbers of the trace's positions
pub record HasNumbers (trace : List Event) (numbers : ℕ → ℕ) (table : Rows) : Type 0 where
  pub threads : IsRow trace numbers thread_in table.threads
  pub handles : IsRow trace numbers forked_or_joined_in table.handles
  pub writes : IsRow trace numbers written_in table.writes
  pub reads : IsRow trace numbers read_in table.reads

pub record IsBlank (row : List ℕ) : Type 0 where
  pub each : (x : ℕ) → x < length row → slice_index row x ≡ 0

-- the table has no number
pub record AreBlank (table : Rows) : Type 0 where
  pub threads : IsBlank table.threads
  pub handles : IsBlank table.handles
  pub writes : IsBlank table.writes
  pub reads : IsBlank table.reads

-- ---- the calls

-- the number is the greatest of the events that conflict with the given one, of whatever positions
-- the table has the numbers
pub record IsLookedUp (table : Rows) (e : Event) (m : ℕ) : Type 0 where
  pub each : (trace : List Event) (numbers : ℕ → ℕ) → HasNumbers trace numbers table → IsGreatest trace numbers (λ f. conflict f e) m

-- what an operation is about besides its thread: a cell, or the thread that it forks or joins. All
-- operations on it that pass this test conflict with one another and with this one
abbrev pub strong_for : Access → Event → Bool
strong_for (Shared c) f = is_about written_in c.0 f
strong_for (Exclusive c) f = is_about written_in c.0 f
strong_for (Access.Fork u) f = is_about thread_in u.0 f
strong_for (Access.Join u) f = is_about thread_in u.0 f
strong_for Nothing f = false

-- the same of the events that change what the given one is about besides its thread
pub record IsChangeLookedUp (table : Rows) (e : Event) (m : ℕ) : Type 0 where
  pub each : (trace : List Event) (numbers : ℕ → ℕ) → HasNumbers trace numbers table → IsGreatest trace numbers (strong_for (access_of e.kind)) m

-- position n, which had no number, has this one now
pub record IsNumbered (old new : ℕ → ℕ) (n number : ℕ) : Type 0 where
  pub before : old n ≡ 0
  pub after : new n ≡ number
  pub others : (i : ℕ) → i ≢ n → new i ≡ old i

-- the event has its number, whatever its position
pub record IsRecorded (old : Rows) (e : Event) (number : ℕ) (new : Rows) : Type 0 where
  pub each : (trace : List Event) (n : ℕ) (before after : ℕ → ℕ) → slice_get trace n ≡ Some e → IsNumbered before after n number → HasNumbers trace before old → HasNumbers trace after new
