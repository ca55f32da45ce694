-- A place in the log from which a round may go on: what is left before it is judged already. Private contracts cite these words.
use Rattle.std.specs.Prelude.{◌≡◌, ℕ, ◌<◌, ◌≤◌, ◌++◌, Bool, List, length, IsTrue, Some, slice_get}
use Rattle.velo_events.specs.declared.event.Event.{Event}
use Rattle.velo_events.specs.Graph.{HasCycle}
use Rattle.velo_filter.specs.Left.{Omitted, label_begun}
use Rattle.velo_filter.specs.Marks.{AreMarks}
use Rattle.velo_filter.specs.Tables.{members}
use Rattle.velo_filter.specs.Thinned.{first_of_rest, first_places}
use Rattle.velo_laws.specs.Cut.{IsQuiet}
use Rattle.velo_laws.specs.Restart.{HasNoBegin}
use Rattle.velo_audit.specs.declared.cut.Cut.{Cut}
use Rattle.velo_audit.specs.declared.piece.Piece.{Piece}

-- each label that is begun before position n is one of these
pub record AreBegun (begun : ℕ → Bool) (log : List Event) (n : ℕ) : Type 0 where
  pub each : (b : ℕ) (e : Event) (l : ℕ) → b < n → slice_get log b ≡ Some e → label_begun e.kind ≡ Some l → IsTrue (begun l)

-- at the cut no block of what is left is open, and what is left before it has no cycle
pub record IsCut (omitted : Omitted) (log : List Event) (cut : Cut) : Type 0 where
  pub within : cut.place ≤ length log
  pub quiet : IsQuiet (first_of_rest omitted log cut.place)
  pub no_cycle : ¬ HasCycle (first_of_rest omitted log cut.place)
  pub as_many : length cut.marks.items ≡ 256
  pub marks : AreMarks omitted log cut.place cut.marks.items
  pub no_begin : HasNoBegin cut.prologue.events
  pub begun : AreBegun (members cut.begun) log cut.place

-- The trace is the prologue, and then what is left between a place and position n. Each of these events has its place in the log
pub record GoesTo (omitted : Omitted) (log : List Event) (place n : ℕ) (prologue trace : List Event) (places : List ℕ) : Type 0 where
  pub blanks : List ℕ
  pub events : List Event
  pub own : List ℕ
  pub as_many : length blanks ≡ length prologue
  pub trace_is : trace ≡ prologue ++ events
  pub places_are : places ≡ blanks ++ own
  pub events_are : first_of_rest omitted log n ≡ first_of_rest omitted log place ++ events
  pub own_are : first_places omitted log n ≡ first_places omitted log place ++ own

-- The trace so goes from a cut to a later end, where these are the marks
pub record EndsAt (omitted : Omitted) (log : List Event) (cut : Cut) (end : ℕ) (marks : List ℕ) (trace : List Event) (places : List ℕ) : Type 0 where
  pub goes : GoesTo omitted log cut.place end cut.prologue.events trace places
  pub as_many : length marks ≡ 256
  pub marks_are : AreMarks omitted log end marks
  pub later : cut.place < end
  pub within : end ≤ length log

abbrev pub IsPiece : Omitted → List Event → Cut → Piece → Type 0
IsPiece omitted log cut piece = EndsAt omitted log cut piece.end.place piece.end.marks.items piece.thinned.trace.events piece.thinned.places.items
