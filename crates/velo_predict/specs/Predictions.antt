-- Which other traces one log foretells, whatever program it is of: its threads go on as recorded while they read what they read there.
use Rattle.std.specs.Prelude.{◌≡◌, ◌⊎◌, ℕ, ◌<◌, List, ◌∷◌, ◌++◌, take, Some, slice_get, IsTrue}
use Rattle.velo_events.specs.declared.config.Bounds.{Bounds}
use Rattle.velo_events.specs.declared.event.Event.{Event}
use Rattle.velo_events.specs.Event.{thread_of, is_read}
use Rattle.velo_events.specs.Graph.{HasCycle}
use Rattle.velo_events.specs.Meaning.{action_of}
use Rattle.velo_events.specs.WellFormed.{IsWellFormed}
use Rattle.velo_movers.specs.Free.{gives_up}
use Rattle.velo_movers.specs.Programs.{own}

-- ---- how far a thread's next action is known from the log

-- the second list begins with the first
abbrev pub IsBeginning : List Event → List Event → Type 0
IsBeginning first whole = (rest : List Event) × (whole ≡ first ++ rest)

-- What thread t did is not what it began with in the log. In a prediction it has then read another value
abbrev pub HasTurned : List Event → List Event → ℕ → Type 0
HasTurned log trace t = ¬ IsBeginning (own t trace) (own t log)

-- at this position a thread that has turned gives up a lock
pub record IsLoose (log trace : List Event) (i : ℕ) : Type 0 where
  pub event : Event
  pub here : slice_get trace i ≡ Some event
  pub release : IsTrue (gives_up event.kind)
  pub turned : HasTurned log (take i trace) (thread_of event)

-- thread t read behind such a release: what it reads then is unknown, since the other thread may have written
pub record HasReadBehind (log trace : List Event) (t : ℕ) : Type 0 where
  pub release : ℕ
  pub read : ℕ
  pub event : Event
  pub loose : IsLoose log trace release
  pub behind : release < read
  pub here : slice_get trace read ≡ Some event
  pub by : thread_of event ≡ t
  pub is_read : IsTrue (is_read event.kind)

-- so what thread t does next is unknown
abbrev pub IsUnsure : List Event → List Event → ℕ → Type 0
IsUnsure log trace t = HasTurned log trace t ⊎ HasReadBehind log trace t

-- thread t is sure, and the event is the next that it did in the log
pub record IsNextOf (log trace : List Event) (t : ℕ) (next : Event) : Type 0 where
  pub sure : ¬ HasReadBehind log trace t
  pub rest : List Event
  pub along : own t log ≡ own t trace ++ next ∷ rest

-- ---- predictions

-- A thread whose next action is known does it, and a read may give another value. One whose next is unknown gives up a lock
pub data IsForetold (log trace : List Event) (e : Event) : Type 0 where
  Known : (next : Event) → IsNextOf log trace (thread_of e) next → action_of e.kind ≡ action_of next.kind → IsForetold log trace e
  Unknown : IsUnsure log trace (thread_of e) → IsTrue (gives_up e.kind) → IsForetold log trace e

-- the trace can come about, and each event is foretold after those before it
pub record IsPrediction (bounds : Bounds) (log trace : List Event) : Type 0 where
  pub well_formed : IsWellFormed bounds trace
  pub each : (i : ℕ) (e : Event) → slice_get trace i ≡ Some e → IsForetold log (take i trace) e

-- a prediction with a cycle
pub record PredictsCycle (bounds : Bounds) (log trace : List Event) : Type 0 where
  pub prediction : IsPrediction bounds log trace
  pub cyclic : HasCycle trace
