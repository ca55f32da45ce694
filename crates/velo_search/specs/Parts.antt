-- What is left of the runs of some scripts: of each operation it is known beforehand whether it stays.
use Rattle.std.specs.Prelude.{◌≡◌, ℕ, Bool, true, false, not, ◌||◌, if◌then◌else◌, List, [], ◌∷◌, ◌++◌, take, slice_get, slice_index_or, Some, unwrap_or}
use Rattle.std.specs.List.{list_any}
use Rattle.velo_events.specs.declared.config.Bounds.{Bounds}
use Rattle.velo_events.specs.declared.event.Event.{Event}
use Rattle.velo_events.specs.declared.event.Kind.{Kind}
use Rattle.velo_events.specs.declared.event.Kind.TheVariants.{Begin, End}
use Rattle.velo_events.specs.Event.{thread_of, lock_of, variable_of}
use Rattle.velo_events.specs.Tally.{events_of}
use Rattle.velo_events.specs.WellFormed.{IsWellFormed, MayFollow}
use Rattle.velo_filter.specs.Left.{Omitted, is_among}
pub use Rattle.velo_search.specs.declared.part.Part.{Part}
pub use Rattle.velo_search.specs.declared.part.Part.TheVariants.{LeftOut, Outside, Inside}
use Rattle.velo_search.specs.Runs.{script_of, IsRunOf}
use Rattle.velo_search.specs.Summary.{is_inside}

-- all of a log, where nothing is left out
abbrev pub whole_log : List Event → List Event
whole_log log = log

-- ---- what is left of a log, by the parts of the operations

abbrev pub does_stay : Part → Bool
does_stay LeftOut = false
does_stay Outside = true
does_stay Inside = true

-- the event alone, if it stays behind the earlier ones; thread t's operation i has the part `parts t i`
abbrev pub kept_by : (ℕ → ℕ → Part) → List Event → Event → List Event
kept_by parts earlier e = if does_stay (parts (thread_of e) (events_of earlier (thread_of e))) then e ∷ [] else []

-- what is left of the events that come behind the earlier ones
unfoldable pub rest_behind : (ℕ → ℕ → Part) → List Event → List Event → List Event
rest_behind parts earlier [] = []
rest_behind parts earlier (e ∷ es) = kept_by parts earlier e ++ rest_behind parts (earlier ++ e ∷ []) es

abbrev pub rest_by : (ℕ → ℕ → Part) → List Event → List Event
rest_by parts log = rest_behind parts [] log

-- ---- the part of an event

-- it follows what is left of the log, and behind it its thread has a block open or not
pub record Stays (rest : List Event → List Event) (bounds : Bounds) (log : List Event) (e : Event)
    (inside : Bool) : Type 0 where
  pub longer : rest (log ++ e ∷ []) ≡ rest log ++ e ∷ []
  pub well_formed : IsWellFormed bounds (rest log)
  pub follows : MayFollow bounds (rest log) e
  pub opens : inside ≡ is_inside (rest log) e

-- behind the log the event has this part in what is left
abbrev pub IsPart : (List Event → List Event) → Bounds → List Event → Event → Part → Type 0
IsPart rest bounds log e LeftOut = rest (log ++ e ∷ []) ≡ rest log
IsPart rest bounds log e Outside = Stays rest bounds log e false
IsPart rest bounds log e Inside = Stays rest bounds log e true

-- What is left of a run is well-formed, and each event of a run has the part of its operation
pub record AreParts (bounds : Bounds) (scripts : List (List Kind)) (parts : ℕ → ℕ → Part) : Type 0 where
  pub well_formed : (log : List Event) → IsRunOf bounds scripts log → IsWellFormed bounds (rest_by parts log)
  pub each : (log : List Event) (e : Event) → IsRunOf bounds scripts (log ++ e ∷ []) →
      IsPart (rest_by parts) bounds log e (parts (thread_of e) (events_of log (thread_of e)))

-- ---- the parts by what is left out

abbrev pub innermost : List Bool → Bool
innermost [] = false
innermost (out ∷ outs) = out

abbrev pub without_innermost : List Bool → List Bool
without_innermost [] = []
without_innermost (out ∷ outs) = outs

-- of the blocks that a thread has open, innermost first, whether each is left out: after one more operation
abbrev pub open_after : Omitted → List Bool → Kind → List Bool
open_after omitted outs (Begin l) = omitted.labels l.0 ∷ outs
open_after omitted outs End = without_innermost outs
open_after omitted outs _ = outs

-- and after these operations more
unfoldable pub open_from : Omitted → List Bool → List Kind → List Bool
open_from omitted outs [] = outs
open_from omitted outs (k ∷ ks) = open_from omitted (open_after omitted outs k) ks

abbrev pub open_behind : Omitted → List Kind → List Bool
open_behind omitted ks = open_from omitted [] ks

-- an operation is left out, where these blocks are open before it
abbrev pub is_out : Omitted → List Bool → Kind → Bool
is_out omitted outs (Begin l) = omitted.labels l.0
is_out omitted outs End = innermost outs
is_out omitted outs k = is_among omitted.locks (lock_of k) || is_among omitted.variables (variable_of k)

-- its part
abbrev pub part_of : Omitted → List Bool → Kind → Part
part_of omitted outs k =
    if is_out omitted outs k then LeftOut
    else (if list_any not (open_after omitted outs k) then Inside else Outside)

-- each operation of the scripts has its part
pub record ArePartsOf (omitted : Omitted) (scripts : List (List Kind)) (parts : ℕ → ℕ → Part) : Type 0 where
  pub each : (t i : ℕ) (k : Kind) → slice_get (script_of scripts t) i ≡ Some k →
      parts t i ≡ part_of omitted (open_behind omitted (take i (script_of scripts t))) k

-- ---- as a table

abbrev pub part_at : List (List Part) → ℕ → ℕ → Part
part_at parts t i = unwrap_or (slice_get (slice_index_or parts t []) i) LeftOut
