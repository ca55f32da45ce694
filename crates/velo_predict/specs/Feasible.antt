-- A program is what each thread wants after what it did. What one of its runs foretells, another of its runs shows.
use Rattle.std.specs.Prelude.{◌≡◌, ℕ, List, [], ◌∷◌, ◌++◌, Option, Some, None, take, slice_get, Contains, IsTrue, IsFalse}
use Rattle.velo_events.specs.declared.config.Bounds.{Bounds}
use Rattle.velo_events.specs.declared.event.Action.{Action}
use Rattle.velo_events.specs.declared.event.Event.{Event}
use Rattle.velo_events.specs.Event.{thread_of, is_read, thread_forked_or_joined}
use Rattle.velo_events.specs.Graph.{HasCycle}
use Rattle.velo_events.specs.Meaning.{holds}
use Rattle.velo_events.specs.Reordering.{IsSelfSerializable, AreBlamed}
use Rattle.velo_movers.specs.Programs.{own, IsLog}
use Rattle.velo_movers.specs.Wants.{Does}
use Rattle.velo_predict.specs.Deadlocks.{HasDeadlock, PredictsDeadlock}
use Rattle.velo_predict.specs.Predictions.{IsUnsure, IsPrediction, PredictsCycle}

-- a trace that the program can have: each thread did what it wanted after what it had done, its reads included
abbrev pub IsRun : Bounds → (ℕ → List Event → Option Action) → List Event → Type 0
IsRun bounds wants run = IsLog bounds (Does wants) run

-- alone, without forking or joining, thread t comes to where it has no lock
pub record GivesBack (bounds : Bounds) (wants : ℕ → List Event → Option Action) (run : List Event) (t : ℕ) : Type 0 where
  pub more : List Event
  pub alone : (i : ℕ) (e : Event) → slice_get more i ≡ Some e → (thread_of e ≡ t) × (thread_forked_or_joined e.kind ≡ None)
  pub goes_on : IsRun bounds wants (run ++ more)
  pub nothing_held : (m : ℕ) → IsFalse (holds (run ++ more) t m)

-- critical sections end: a thread that has a lock, and whose last operation was a read, gives all locks back
pub record SectionsEnd (bounds : Bounds) (wants : ℕ → List Event → Option Action) : Type 0 where
  pub each : (run : List Event) (t m : ℕ) (before : List Event) (e : Event) → IsRun bounds wants run → IsTrue (holds run t m) → own t run ≡ before ++ e ∷ [] → IsTrue (is_read e.kind) → GivesBack bounds wants run t

-- a run of the program with a cycle
pub record CanCycle (bounds : Bounds) (wants : ℕ → List Event → Option Action) : Type 0 where
  pub run : List Event
  pub is_run : IsRun bounds wants run
  pub cyclic : HasCycle run

-- a run of the program in which the block that begins with this event is not self-serializable
pub record CanBreak (bounds : Bounds) (wants : ℕ → List Event → Option Action) (begin : Event) : Type 0 where
  pub run : List Event
  pub is_run : IsRun bounds wants run
  pub block : ℕ
  pub begins : slice_get run block ≡ Some begin
  pub broken : ¬ IsSelfSerializable run block

-- a run of the program after which threads wait in a circle
pub record CanDeadlock (bounds : Bounds) (wants : ℕ → List Event → Option Action) : Type 0 where
  pub run : List Event
  pub is_run : IsRun bounds wants run
  pub deadlock : HasDeadlock (λ t action. wants t (own t run) ≡ Some action) run

-- no thread goes on whose next action is unknown: so nothing is given up behind a read of another value
pub record IsKept (log trace : List Event) : Type 0 where
  pub each : (i : ℕ) (e : Event) → slice_get trace i ≡ Some e → ¬ IsUnsure log (take i trace) (thread_of e)

-- such a prediction is itself a run, of every program that the log is a run of, whether its critical sections end or not
abbrev pub KeptAreRuns : Type 0
KeptAreRuns =
    (bounds : Bounds) (wants : ℕ → List Event → Option Action) (log trace : List Event) →
    IsRun bounds wants log → IsPrediction bounds log trace → IsKept log trace → IsRun bounds wants trace

-- and where the threads wait in a circle after it, they do so in the program
abbrev pub KeptDeadlocksAreFeasible : Type 0
KeptDeadlocksAreFeasible =
    (bounds : Bounds) (wants : ℕ → List Event → Option Action) (log trace : List Event) →
    IsRun bounds wants log → PredictsDeadlock bounds log trace → IsKept log trace →
    IsRun bounds wants trace × HasDeadlock (λ t action. wants t (own t trace) ≡ Some action) trace

-- no false alarm: what a run of a program foretells, the program can do, if its critical sections end
abbrev pub CyclesAreFeasible : Type 0
CyclesAreFeasible =
    (bounds : Bounds) (wants : ℕ → List Event → Option Action) (log trace : List Event) →
    IsRun bounds wants log → SectionsEnd bounds wants → PredictsCycle bounds log trace → CanCycle bounds wants

-- nor a false blame: what a prediction blames at its last event, a block of the same thread and label, a run of the program breaks
abbrev pub BlameIsFeasible : Type 0
BlameIsFeasible =
    (bounds : Bounds) (wants : ℕ → List Event → Option Action) (log earlier : List Event) (last : Event) (blamed : List ℕ) (b : ℕ) (begin : Event) →
    IsRun bounds wants log → SectionsEnd bounds wants → IsPrediction bounds log (earlier ++ last ∷ []) →
    AreBlamed (earlier ++ last ∷ []) (thread_of last) blamed → Contains blamed b → slice_get (earlier ++ last ∷ []) b ≡ Some begin →
    CanBreak bounds wants begin

abbrev pub DeadlocksAreFeasible : Type 0
DeadlocksAreFeasible =
    (bounds : Bounds) (wants : ℕ → List Event → Option Action) (log trace : List Event) →
    IsRun bounds wants log → SectionsEnd bounds wants → PredictsDeadlock bounds log trace → CanDeadlock bounds wants
