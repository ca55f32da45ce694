-- What a search for deadlocks returns: predictions of a log after which threads wait in a circle.
use Rattle.std.specs.Prelude.{◌≡◌, ◌⊎◌, ◌≤◌, ℕ, Bool, ◌||◌, List, [], ◌∷◌, ◌++◌, Option, Some, None, filter_map, length, map, take, slice_get}
use Rattle.std.specs.List.{flat_map}
use Rattle.velo_events.specs.declared.config.Bounds.{Bounds}
use Rattle.velo_events.specs.declared.event.Event.{Event}
use Rattle.velo_events.specs.declared.event.Kind.{Kind}
use Rattle.velo_events.specs.declared.event.Kind.TheVariants.{Acquire, AcquireShared}
use Rattle.velo_events.specs.declared.limits.TheConstants.{MAX_EVENTS}
use Rattle.velo_certify.specs.Owners.{event_at}
use Rattle.velo_filter.specs.Left.{Omitted, is_listed, place_of, rest_of}
use Rattle.velo_predict.specs.declared.waits.Waiting.{Waiting}
use Rattle.velo_predict.specs.Deadlocks.{PredictsDeadlock}
use Rattle.velo_predict.specs.Waits.{IsCircle}
use Rattle.velo_delays.specs.declared.stuck.Awaited.{Awaited}
use Rattle.velo_delays.specs.declared.stuck.Deadlock.{Deadlock}
use Rattle.velo_delays.specs.Differing.{AreDiffering}
use Rattle.velo_delays.specs.Found.{HasNew}
use Rattle.velo_delays.specs.Sources.{AreSourcesAsRead}

-- what the thread waits to do, and the place of this event in the log as read
abbrev pub awaited : List Event → (ℕ → ℕ) → Waiting → Awaited
awaited log place w = record { event = event_at log w.next; position = place w.next }

-- A trace that the log foretells, after which threads wait in a circle. The log is what is left of one that was read, in which its
-- events have these places
pub record IsDeadlock (bounds : Bounds) (log : List Event) (place : ℕ → ℕ) (deadlock : Deadlock) : Type 0 where
  pub foretold : PredictsDeadlock bounds log deadlock.trace.events
  pub short : length deadlock.trace.events ≤ MAX_EVENTS
  -- each of them waits to do this for the next one, and the last for the first
  pub circle : List Waiting
  pub is_circle : IsCircle log deadlock.trace.events circle
  pub waiting : deadlock.waiting.items ≡ map (awaited log place) circle
  -- and these reads have another value than in the log
  pub differing : AreDiffering log deadlock.trace.events deadlock.differing.items
  -- and here its events stand in the log as read
  pub sources : AreSourcesAsRead log place deadlock.trace.events deadlock.sources.items

-- ---- one after another

-- the lock that the operation acquires, alone or shared
abbrev pub lock_acquired : Kind → Option ℕ
lock_acquired (Acquire m) = Some m.0
lock_acquired (AcquireShared m) = Some m.0
lock_acquired _ = None

abbrev pub locks_of : List Awaited → List ℕ
locks_of waiting = filter_map (λ (a : Awaited). lock_acquired a.event.kind) waiting

-- the locks that the threads wait for
abbrev pub locks_waited_for : Deadlock → List ℕ
locks_waited_for deadlock = locks_of deadlock.waiting.items

-- its threads wait for a lock that none waits for in those before it
pub record IsDeadlockAfter (bounds : Bounds) (log : List Event) (place : ℕ → ℕ) (before : List Deadlock) (deadlock : Deadlock) : Type 0 where
  pub is_deadlock : IsDeadlock bounds log place deadlock
  pub waits_anew : HasNew (is_listed (flat_map locks_waited_for before)) (locks_waited_for deadlock)

-- these are such, each after those before it, so none is told twice
pub record AreDeadlocks (bounds : Bounds) (log : List Event) (place : ℕ → ℕ) (deadlocks : List Deadlock) : Type 0 where
  pub each : (i : ℕ) (deadlock : Deadlock) → slice_get deadlocks i ≡ Some deadlock → IsDeadlockAfter bounds log place (take i deadlocks) deadlock

-- the same of what is left of a log
abbrev pub AreDeadlocksIn : Bounds → List Event → Omitted → List Deadlock → Type 0
AreDeadlocksIn bounds log omitted deadlocks = AreDeadlocks bounds (rest_of omitted log) (place_of omitted log) deadlocks

-- ---- on the way. Private contracts cite these words

-- these numbers pass it as well
abbrev pub with_numbers : (ℕ → Bool) → List ℕ → ℕ → Bool
with_numbers test numbers = λ n. test n || is_listed numbers n

-- Nothing is taken in, or what was found, if its threads wait for a lock that none found before waits for. Then its locks count as found
abbrev pub TakesIn : (ℕ → Bool) → (ℕ → Bool) → List Deadlock → List Deadlock → Option Deadlock → Type 0
TakesIn old new before after None = (new ≡ old) × (after ≡ before)
TakesIn old new before after (Some found) =
    ((new ≡ old) × (after ≡ before))
    ⊎ (HasNew old (locks_waited_for found) × (new ≡ with_numbers old (locks_waited_for found)) × (after ≡ before ++ found ∷ []))
