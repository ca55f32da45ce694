-- Who waits for whom after a prediction.
use Rattle.std.specs.Prelude.{◌≡◌, ◌↔◌, ℕ, Bool, false, not, ◌&&◌, ◌==◌, List, map, length, take, Option, Some, None, slice_get}
use Rattle.velo_events.specs.declared.config.Bounds.{Bounds}
use Rattle.velo_events.specs.declared.event.Action.{Action}
use Rattle.velo_events.specs.declared.event.Event.{Event}
use Rattle.velo_events.specs.declared.event.Kind.{Kind}
use Rattle.velo_events.specs.declared.event.Kind.TheVariants.{Acquire, AcquireShared, Join}
use Rattle.velo_events.specs.declared.thread_set.ThreadSet.{ThreadSet}
use Rattle.velo_events.specs.Event.{thread_of, are_same}
use Rattle.velo_events.specs.Heap.{holder_in, status_in}
use Rattle.velo_events.specs.Meaning.{holds, is_live}
use Rattle.velo_movers.specs.Programs.{own}
use Rattle.velo_predict.specs.Circles.{IsRing, IsInRow}
use Rattle.velo_predict.specs.Courses.{IsCourse}
use Rattle.velo_predict.specs.Deadlocks.{WaitsFor, IsNextAction}
use Rattle.velo_predict.specs.Predictions.{HasReadBehind}
use Rattle.velo_predict.specs.declared.judge.Course.{Course}
use Rattle.velo_predict.specs.declared.judge.Judged.{Judged}
use Rattle.velo_predict.specs.declared.waits.Waiting.{Waiting}

-- the thread's next action is known after the trace: that of its event at this position of the log
pub record IsDue (log trace : List Event) (t at : ℕ) : Type 0 where
  pub next : Event
  pub there : slice_get log at ≡ Some next
  pub by : thread_of next ≡ t
  pub same_past : own t trace ≡ own t (take at log)
  pub sure : ¬ HasReadBehind log trace t

-- each with its next event
pub record AreDue (log trace : List Event) (circle : List Waiting) : Type 0 where
  pub each : (i : ℕ) (w : Waiting) → slice_get circle i ≡ Some w → IsDue log trace w.thread.0 w.next

-- each of the threads waits for the next of them, and the last for the first
pub record IsCircle (log trace : List Event) (circle : List Waiting) : Type 0 where
  pub ring : IsRing (WaitsFor (IsNextAction log trace) trace) (map (λ w. w.thread.0) circle)
  pub due : AreDue log trace circle

-- ---- for private contracts

-- where the thread's next event is, if it is known
abbrev pub TellsDue : List Event → List Event → ℕ → Option ℕ → Type 0
TellsDue log trace t (Some at) = IsDue log trace t at
TellsDue log trace t None = (action : Action) → ¬ IsNextAction log trace t action

-- thread u stands in the way of what thread t does next
abbrev pub hinders : List Event → Kind → ℕ → ℕ → Bool
hinders trace (Acquire m) t u = not (t == u) && holds trace u m.0
hinders trace (AcquireShared m) t u = not (t == u) && are_same (holder_in trace m.0) (Some u)
hinders trace (Join v) t u = (v.0 == u) && is_live (status_in trace u)
hinders trace _ t u = false

-- the rows say who waits for whom
pub record AreRows (bounds : Bounds) (log trace : List Event) (rows : List ThreadSet) : Type 0 where
  pub count : length rows ≡ bounds.threads
  pub each : (t u : ℕ) → IsInRow rows t u ↔ WaitsFor (IsNextAction log trace) trace t u

-- by how the judge stands it can tell what the thread does next
pub record HasNext (log trace : List Event) (judged : Judged) (t : ℕ) : Type 0 where
  pub courses : (course : Course) → slice_get judged.courses.items t ≡ Some course → IsCourse log trace t course
  pub next : (action : Action) × IsNextAction log trace t action
