-- Which reads of a trace get another value than in the log.
use Rattle.std.specs.Prelude.{◌≡◌, ◌≢◌, ◌↔◌, ℕ, List, [], ◌∷◌, map, take, Option, Some, None, slice_get, Contains, IsTrue}
use Rattle.std.specs.List.Sorted.{IsStrictlyIncreasing}
use Rattle.velo_events.specs.declared.event.Event.{Event}
use Rattle.velo_events.specs.Event.{thread_of, is_read}
use Rattle.velo_movers.specs.Programs.{own}
use Rattle.velo_predict.specs.declared.difference.Difference.{Difference}

-- The event, after the trace, reads what the event at this position of the log does not. Their thread did the same before
pub record DiffersFrom (log trace : List Event) (read : Event) (at : ℕ) : Type 0 where
  pub next : Event
  pub there : slice_get log at ≡ Some next
  pub by : thread_of next ≡ thread_of read
  pub same_past : own (thread_of read) trace ≡ own (thread_of read) (take at log)
  pub is_read : IsTrue (is_read read.kind)
  pub differ : read.kind ≢ next.kind

-- the event at the one position of the trace reads what the event at the other position of the log does not
pub record IsDifference (log trace : List Event) (d : Difference) : Type 0 where
  pub read : Event
  pub here : slice_get trace d.position ≡ Some read
  pub differs : DiffersFrom log (take d.position trace) read d.recorded

-- these and no others, in the order of the trace
pub record AreDifferences (log trace : List Event) (differences : List Difference) : Type 0 where
  pub each : (d : Difference) → Contains differences d ↔ IsDifference log trace d
  pub rising : IsStrictlyIncreasing (map (λ d. d.position) differences)

-- from which position of the log the event differs, if from one
abbrev pub TellsDifference : List Event → List Event → Event → Option ℕ → Type 0
TellsDifference log trace e (Some at) = DiffersFrom log trace e at
TellsDifference log trace e None = (at : ℕ) → ¬ DiffersFrom log trace e at

abbrev pub difference_at : ℕ → Option ℕ → List Difference
difference_at position (Some at) = record { position = position; recorded = at } ∷ []
difference_at position None = []
