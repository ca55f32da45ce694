-- Which event of a log an event of another trace is.
use Rattle.std.specs.Prelude.{◌≡◌, ℕ, ◌≤◌, ◌++◌, List, drop, length, take, Option, Some, None, slice_get, IsTrue, IsFalse}
use Rattle.velo_events.specs.declared.event.Event.{Event}
use Rattle.velo_events.specs.Event.{thread_of}
use Rattle.velo_events.specs.Meaning.{action_of}
use Rattle.velo_movers.specs.Programs.{own}
use Rattle.velo_predict.specs.Predictions.{HasTurned}
use Rattle.velo_predict.specs.declared.sources.Trail.{Trail}

-- The event, after the trace, is that one at this position of the log: their thread did the same before, and the action is the same.
-- So a read may have another value
pub record IsSource (log trace : List Event) (event : Event) (at : ℕ) : Type 0 where
  pub recorded : Event
  pub there : slice_get log at ≡ Some recorded
  pub by : thread_of recorded ≡ thread_of event
  pub same_past : own (thread_of event) trace ≡ own (thread_of event) (take at log)
  pub same_action : action_of event.kind ≡ action_of recorded.kind

-- at which position of the log it is, if it is one of the log
abbrev pub TellsSource : List Event → List Event → Event → Option ℕ → Type 0
TellsSource log trace e (Some at) = IsSource log trace e at
TellsSource log trace e None = (at : ℕ) → ¬ IsSource log trace e at

-- for each event of the trace
pub record AreSources (log trace : List Event) (sources : List (Option ℕ)) : Type 0 where
  pub as_many : length sources ≡ length trace
  pub each : (i : ℕ) (e : Event) (source : Option ℕ) → slice_get trace i ≡ Some e → slice_get sources i ≡ Some source → TellsSource log (take i trace) e source

-- ---- on the way. Private contracts cite these words

-- whether thread t did something else than in the log, and if not, from where on it goes on there
pub record IsTrail (log trace : List Event) (t : ℕ) (trail : Trail) : Type 0 where
  pub within : trail.place ≤ length log
  pub along : IsFalse trail.is_lost → own t log ≡ own t trace ++ own t (drop trail.place log)
  pub lost : IsTrue trail.is_lost → HasTurned log trace t

-- for each number of a thread
pub record AreTrails (log trace : List Event) (trails : List Trail) : Type 0 where
  pub as_many : length trails ≡ 256
  pub each : (t : ℕ) (trail : Trail) → slice_get trails t ≡ Some trail → IsTrail log trace t trail
