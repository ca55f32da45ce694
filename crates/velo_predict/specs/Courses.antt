-- How far a trace is judged beside a log. Private contracts cite these words.
use Rattle.std.specs.Prelude.{◌≡◌, ℕ, ◌≤◌, Bool, List, ◌++◌, drop, length, slice_get, Some, IsTrue, IsFalse}
use Rattle.velo_events.specs.declared.config.Bounds.{Bounds}
use Rattle.velo_events.specs.declared.event.Event.{Event}
use Rattle.velo_heap.specs.Contents.{bounds_of, IsHeapOf}
use Rattle.velo_movers.specs.Programs.{own}
use Rattle.velo_predict.specs.Differences.{AreDifferences}
use Rattle.velo_predict.specs.Predictions.{IsLoose, HasReadBehind, IsUnsure, IsPrediction}
use Rattle.velo_predict.specs.declared.judge.Course.{Course}
use Rattle.velo_predict.specs.declared.judge.Judged.{Judged}

-- whether the thread is sure, and then from where on it goes on in the log
pub record IsCourse (log trace : List Event) (t : ℕ) (course : Course) : Type 0 where
  pub within : course.place ≤ length log
  pub not_behind : IsFalse course.is_unsure → ¬ HasReadBehind log trace t
  pub along : IsFalse course.is_unsure → own t log ≡ own t trace ++ own t (drop course.place log)
  pub unsure : IsTrue course.is_unsure → IsUnsure log trace t

-- whether a thread that has turned has given up a lock
pub record TellsLoose (log trace : List Event) (is_loose : Bool) : Type 0 where
  pub some : IsTrue is_loose → (i : ℕ) × IsLoose log trace i
  pub none : IsFalse is_loose → (i : ℕ) → ¬ IsLoose log trace i

-- the trace is a prediction, and the rest tells how it stands
pub record IsJudged (bounds : Bounds) (log trace : List Event) (judged : Judged) : Type 0 where
  pub heap : IsHeapOf judged.heap trace
  pub same_bounds : bounds_of judged.heap ≡ bounds
  pub count : length judged.courses.items ≡ bounds.threads
  pub courses : (t : ℕ) (course : Course) → slice_get judged.courses.items t ≡ Some course → IsCourse log trace t course
  pub loose : TellsLoose log trace judged.is_loose
  pub differing : AreDifferences log trace judged.differing.items
  pub prediction : IsPrediction bounds log trace
