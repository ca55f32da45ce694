-- The runs that lead to the states of a search, by its trail.
use Rattle.std.specs.Prelude.{◌≡◌, ◌⊎◌, ◌<◌, ◌≤◌, ◌∷◌, ◌++◌, ℕ, Bool, true, false, List, [], length, map, All, Option, is_some, IfSome, IsTrue}
use Rattle.std.specs.Option.{option_map}
use Rattle.velo_events.specs.declared.config.Bounds.{Bounds}
use Rattle.velo_events.specs.declared.event.Event.{Event}
use Rattle.velo_events.specs.declared.event.Kind.{Kind}
use Rattle.velo_events.specs.declared.event.ThreadId.{ThreadId}
use Rattle.velo_heap.specs.Contents.{bounds_of}
use Rattle.velo_search.specs.declared.found.Found.{Found}
use Rattle.velo_search.specs.declared.schedules.Schedules.{Schedules}
use Rattle.velo_search.specs.declared.schedules.TheConstants.{MAX_ALARMS}
use Rattle.velo_search.specs.declared.state.State.{State}
use Rattle.velo_search.specs.declared.step.Step.{Step}
use Rattle.velo_search.specs.declared.trail.Trail.{Trail}
use Rattle.velo_search.specs.Faults.{Fault, Cycle, Stuck, Refusing, IsFault}
use Rattle.velo_search.specs.Runs.{IsRunOf}
use Rattle.velo_search.specs.States.{IsStateOf}
use Rattle.velo_search.specs.Steps.{IsWay, IsLonger}
use Rattle.velo_search.specs.Search.{Settles, has_fault}
use Rattle.velo_search.specs.Told.{shown_of}

-- the turns of a run
abbrev pub turns_of : List Event → List ThreadId
turns_of log = map (λ (e : Event). e.thread) log

-- the state stands for a run whose turns lead to its place
pub record IsReachedBy (bounds : Bounds) (scripts : List (List Kind)) (rest : List Event → List Event)
    (steps : List Step) (state : State) : Type 0 where
  pub log : List Event
  pub run : IsRunOf bounds scripts log
  pub stands : IsStateOf rest log state
  pub same : bounds_of state.heap ≡ bounds
  pub way : IsWay steps state.place (turns_of log)

-- by these turns some run comes to the fault
pub record LeadsTo (bounds : Bounds) (scripts : List (List Kind)) (rest : List Event → List Event)
    (fault : Fault) (turns : List ThreadId) : Type 0 where
  pub log : List Event
  pub run : IsRunOf bounds scripts log
  pub by : turns_of log ≡ turns
  pub bad : IsFault bounds scripts rest fault log

-- the turns that are kept for a fault
abbrev pub turns_for : Schedules → Fault → Option (List ThreadId)
turns_for shown Cycle = option_map (λ v. v.items) shown.alarm
turns_for shown Stuck = option_map (λ v. v.items) shown.stuck
turns_for shown Refusing = option_map (λ v. v.items) shown.refused

-- the turns that are kept for each alarm
abbrev pub alarms_of : Schedules → List (List ThreadId)
alarms_of shown = map (λ v. v.items) shown.alarms.items

-- By each of them some run comes to a cycle. With `first` there is none; else there is one where turns are kept for an alarm
pub record LeadToCycles (bounds : Bounds) (scripts : List (List Kind)) (rest : List Event → List Event)
    (first : Bool) (shown : Schedules) : Type 0 where
  pub lead : All (LeadsTo bounds scripts rest Cycle) (alarms_of shown)
  pub few : length (alarms_of shown) ≤ MAX_ALARMS
  pub none : first ≡ true → alarms_of shown ≡ []
  pub some : first ≡ false → IsTrue (is_some (turns_for shown Cycle)) → 0 < length (alarms_of shown)

-- where the state has a cycle, an alarm is kept
pub record IsNoted (trail : Trail) (state : State) : Type 0 where
  pub some : trail.first ≡ false → state.marks.alarmed ≡ true → 0 < length (alarms_of trail.shown)

-- the turns to the place are kept for one alarm more, or all is as it was
pub record NotesAlarm (old : Trail) (place : ℕ) (now : Trail) : Type 0 where
  pub steps : now.steps.items ≡ old.steps.items
  pub first : now.first ≡ old.first
  pub shown : (fault : Fault) → turns_for now.shown fault ≡ turns_for old.shown fault
  pub alarms : (alarms_of now.shown ≡ alarms_of old.shown)
      ⊎ ((turns : List ThreadId) × (alarms_of now.shown ≡ alarms_of old.shown ++ turns ∷ []) × IsWay old.steps.items place turns)
  pub few : length (alarms_of old.shown) ≤ MAX_ALARMS → length (alarms_of now.shown) ≤ MAX_ALARMS
  pub none : old.first ≡ true → alarms_of now.shown ≡ alarms_of old.shown
  pub some : old.first ≡ false → 0 < length (alarms_of now.shown)

-- the alarms that are kept stay, and those that come to them lead to a cycle
pub record AlarmsGoOn (bounds : Bounds) (scripts : List (List Kind)) (rest : List Event → List Event)
    (old now : Trail) : Type 0 where
  pub lead : All (LeadsTo bounds scripts rest Cycle) (alarms_of old.shown) →
      All (LeadsTo bounds scripts rest Cycle) (alarms_of now.shown)
  pub more : length (alarms_of old.shown) ≤ length (alarms_of now.shown)
  pub few : length (alarms_of old.shown) ≤ MAX_ALARMS → length (alarms_of now.shown) ≤ MAX_ALARMS
  pub none : old.first ≡ true → alarms_of now.shown ≡ alarms_of old.shown

-- the trail shows the same, and is as long or longer
pub record GoesOn (old now : Trail) : Type 0 where
  pub longer : IsLonger old.steps.items now.steps.items
  pub shown : (fault : Fault) → turns_for now.shown fault ≡ turns_for old.shown fault
  pub first : now.first ≡ old.first

-- the second state comes behind the first, is reached as the trail says, and where it is clean the first is
pub record SettlesBy (bounds : Bounds) (scripts : List (List Kind)) (rest : List Event → List Event)
    (old : Trail) (before : State) (now : Trail) (after : State) : Type 0 where
  pub settles : Settles bounds scripts rest before after
  pub reached : IsReachedBy bounds scripts rest now.steps.items after
  pub goes_on : GoesOn old now
  pub alarms : alarms_of now.shown ≡ alarms_of old.shown

-- the turns to the place are kept for faults that were not found before; for each that is shown
pub record NotesTurns (old : Trail) (place : ℕ) (before after : Found) (now : Trail) : Type 0 where
  pub steps : now.steps.items ≡ old.steps.items
  pub first : now.first ≡ old.first
  pub alarms : alarms_of now.shown ≡ alarms_of old.shown
  pub turns : (fault : Fault) → (turns_for now.shown fault ≡ turns_for old.shown fault)
      ⊎ ((has_fault before fault ≡ false) × (has_fault after fault ≡ true)
      × IfSome (turns_for now.shown fault) (IsWay now.steps.items place))
  pub each : (fault : Fault) → has_fault before fault ≡ false → has_fault (shown_of old.first after) fault ≡ true →
      IsTrue (is_some (turns_for now.shown fault))

-- what the trail shows leads to what was found; and each that was found is shown, or the foremost with `first`
pub record AreShown (bounds : Bounds) (scripts : List (List Kind)) (rest : List Event → List Event)
    (first : Bool) (found : Found) (trail : Trail) : Type 0 where
  pub same : trail.first ≡ first
  pub leads : (fault : Fault) → IfSome (turns_for trail.shown fault) (LeadsTo bounds scripts rest fault)
  pub each : (fault : Fault) → has_fault (shown_of first found) fault ≡ true → IsTrue (is_some (turns_for trail.shown fault))
  pub alarms : LeadToCycles bounds scripts rest first trail.shown
