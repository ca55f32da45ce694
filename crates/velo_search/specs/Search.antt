-- What a search of states finds out about the runs of some scripts, of which each is judged by what is left of it.
use Rattle.std.specs.Prelude.{◌≡◌, ◌⊎◌, ℕ, zero, suc, ◌+◌, ◌*◌, ◌<◌, ◌≤◌, ◌^◌, Bool, true, false, List, [], ◌∷◌, ◌++◌, length, slice_get, Some, Contains, All}
use Rattle.velo_events.specs.declared.config.Bounds.{Bounds}
use Rattle.velo_events.specs.declared.event.Event.{Event}
use Rattle.velo_events.specs.declared.event.Kind.{Kind}
use Rattle.velo_events.specs.Event.{thread_of}
use Rattle.velo_heap.specs.Contents.{bounds_of}
use Rattle.velo_search.specs.declared.found.Found.{Found}
use Rattle.velo_search.specs.declared.seen.ThreadsSeen.{ThreadsSeen}
use Rattle.velo_search.specs.declared.state.State.{State}
use Rattle.velo_search.specs.Faults.{IsIdle, IsWaiting, IsRefused, Fault, Cycle, Stuck, Refusing, IsFault}
use Rattle.velo_search.specs.Plain.{plain_kind}
use Rattle.velo_search.specs.Runs.{script_of, IsRunOf, IsNext, NeverWithin}
use Rattle.velo_search.specs.States.{AreSameStates, IsStateOf}
use Rattle.velo_search.specs.Told.{has_ended}

-- no script has a value
abbrev pub ArePlain : List (List Kind) → Type 0
ArePlain scripts = (t i : ℕ) (k : Kind) → slice_get (script_of scripts t) i ≡ Some k → plain_kind k ≡ k

-- each script can be counted
abbrev pub AreShort : List (List Kind) → Type 0
AreShort scripts = (t : ℕ) → length (script_of scripts t) < 2 ^ 32

-- ---- one state

-- the state stands for a run
pub record IsReached (bounds : Bounds) (scripts : List (List Kind)) (rest : List Event → List Event)
    (state : State) : Type 0 where
  pub log : List Event
  pub run : IsRunOf bounds scripts log
  pub stands : IsStateOf rest log state
  pub same : bounds_of state.heap ≡ bounds

-- no run that goes on from one for which the state stands, by fewer than n events, has the fault
pub record IsClean (bounds : Bounds) (scripts : List (List Kind)) (rest : List Event → List Event)
    (n : ℕ) (fault : Fault) (state : State) : Type 0 where
  pub each : (log : List Event) → IsRunOf bounds scripts log → IsStateOf rest log state →
      NeverWithin n (IsFault bounds scripts rest fault) bounds scripts log

-- the event is next after each run for which the state stands
abbrev pub IsNextAt : Bounds → List (List Kind) → (List Event → List Event) → State → Event → Type 0
IsNextAt bounds scripts rest state e =
    (log : List Event) → IsRunOf bounds scripts log → IsStateOf rest log state → IsNext bounds scripts log e

-- none that goes on with an event of thread t, and then by fewer than n events, has it
pub record IsCleanBy (bounds : Bounds) (scripts : List (List Kind)) (rest : List Event → List Event)
    (n : ℕ) (fault : Fault) (state : State) (t : ℕ) : Type 0 where
  pub each : (log : List Event) (e : Event) → IsRunOf bounds scripts log → IsStateOf rest log state → thread_of e ≡ t →
      IsNext bounds scripts log e → NeverWithin n (IsFault bounds scripts rest fault) bounds scripts (log ++ e ∷ [])

-- the state at the place is the same
pub record IsAt (states : List State) (place : ℕ) (state : State) : Type 0 where
  pub member : State
  pub there : slice_get states place ≡ Some member
  pub same : AreSameStates member state

-- some state of the list stands for each log that the state stands for
pub record StandsAmong (states : List State) (state : State) : Type 0 where
  pub member : State
  pub there : Contains states member
  pub logs : (rest : List Event → List Event) (log : List Event) → IsStateOf rest log state → IsStateOf rest log member

-- the second state is reached where the first is, and where it is clean the first is
pub record Settles (bounds : Bounds) (scripts : List (List Kind)) (rest : List Event → List Event)
    (before after : State) : Type 0 where
  pub reached : IsReached bounds scripts rest before → IsReached bounds scripts rest after
  pub clean : (n : ℕ) (fault : Fault) → IsClean bounds scripts rest n fault after → IsClean bounds scripts rest n fault before

-- ---- what was seen of the threads before t

pub record IsSeen (bounds : Bounds) (scripts : List (List Kind)) (log : List Event) (seen : ThreadsSeen) (t : ℕ) : Type 0 where
  -- one that can go on
  pub acts : seen.acts ≡ true → (e : Event) × IsNext bounds scripts log e
  -- one that waits, or none
  pub waits : seen.waits ≡ true → (u : ℕ) × (u < t) × IsWaiting bounds scripts log u
  pub none_waits : seen.waits ≡ false → (u : ℕ) → u < t → ¬ IsWaiting bounds scripts log u
  -- one that is refused, or none
  pub refused : seen.refused ≡ true → (u : ℕ) × (u < t) × IsRefused bounds scripts log u
  pub none_refused : seen.refused ≡ false → (u : ℕ) → u < t → ¬ IsRefused bounds scripts log u
  -- and no other
  pub others : seen.acts ≡ false → seen.refused ≡ false → (u : ℕ) → u < t → IsIdle scripts log u ⊎ IsWaiting bounds scripts log u

-- the states after the next events of the threads before t were kept
pub record IsTried (bounds : Bounds) (scripts : List (List Kind)) (rest : List Event → List Event)
    (state : State) (start now : List State) (seen : ThreadsSeen) (t : ℕ) : Type 0 where
  pub reached : All (IsReached bounds scripts rest) now
  pub leads : (n : ℕ) (fault : Fault) → All (IsClean bounds scripts rest n fault) now →
      (All (IsClean bounds scripts rest n fault) start × ((u : ℕ) → u < t → IsCleanBy bounds scripts rest n fault state u))
  pub threads : (log : List Event) → IsRunOf bounds scripts log → IsStateOf rest log state → IsSeen bounds scripts log seen t

-- ---- what was found

abbrev pub has_fault : Found → Fault → Bool
has_fault found Cycle = found.alarm
has_fault found Stuck = found.stuck
has_fault found Refusing = found.refused

-- some run has the fault
pub record SomeRun (bounds : Bounds) (scripts : List (List Kind)) (rest : List Event → List Event)
    (fault : Fault) : Type 0 where
  pub log : List Event
  pub run : IsRunOf bounds scripts log
  pub bad : IsFault bounds scripts rest fault log

-- what was found is there
abbrev pub IsTrueOf : Bounds → List (List Kind) → (List Event → List Event) → Found → Type 0
IsTrueOf bounds scripts rest found = (fault : Fault) → has_fault found fault ≡ true → SomeRun bounds scripts rest fault

-- ---- where not everything was tried

-- in how many ways so many threads can take fewer than n turns
unfoldable pub ways : ℕ → ℕ → ℕ
ways threads zero = 0
ways threads (suc n) = 1 + ways threads n * threads

-- all runs of fewer than n events were tried: none has what was not found, and the states are no more than such runs can have
pub record IsTriedBelow (bounds : Bounds) (scripts : List (List Kind)) (rest : List Event → List Event)
    (found : Found) (states : ℕ) (n : ℕ) : Type 0 where
  pub none : (fault : Fault) → has_fault found fault ≡ false → NeverWithin n (IsFault bounds scripts rest fault) bounds scripts []
  pub few : states ≤ ways bounds.threads n

-- The states next to those that were looked at, one a thread, are as many as may be looked at
pub record AreStatesSpent (bounds : Bounds) (scripts : List (List Kind)) (rest : List Event → List Event)
    (most : ℕ) (found : Found) (states : ℕ) : Type 0 where
  pub all : most ≤ states * bounds.threads
  pub events : ℕ
  pub tried : IsTriedBelow bounds scripts rest found states events

-- the search was to end at the first finding, and has one; or the caller said that it is over; or
-- its states are spent
abbrev pub IsSearchCut : Bounds → List (List Kind) → (List Event → List Event) → ℕ → Bool → Bool → Found → ℕ → Type 0
IsSearchCut bounds scripts rest most first over found states =
    (has_ended first found ≡ true) ⊎ (over ≡ true) ⊎ AreStatesSpent bounds scripts rest most found states
