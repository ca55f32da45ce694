-- The witness of a round: the evidence of the rest's first alarm, by the positions of the log as read.
use Rattle.std.specs.Prelude.{◌≡◌, ⊤, ℕ, Bool, true, false, List, length, map, slice_index, Option, Some, None}
use Rattle.velo_events.specs.declared.event.Event.{Event}
use Rattle.velo_events.specs.Graph.{HasCycle, IsClosing}
use Rattle.velo_traces.specs.declared.block.Block.{Block}
use Rattle.velo_certify.specs.declared.edges.EdgeEvents.{EdgeEvents}
use Rattle.velo_blame.specs.Blamed.{AreBlamedAt, begins_of}
use Rattle.velo_explain.specs.declared.spans.Span.{Span}
use Rattle.velo_explain.specs.declared.evidence.Blame.{Blame}
use Rattle.velo_explain.specs.declared.evidence.Evidence.{Evidence}
use Rattle.velo_explain.specs.Evidence.{IsEvidence, HaveReasons, IsWithin}
use Rattle.velo_world.specs.declared.analysis.Alarm.{Alarm}
use Rattle.velo_filter.specs.Left.{Omitted, rest_of, place_of}
use Rattle.velo_audit.specs.declared.first.FirstAlarm.{FirstAlarm}

-- ---- each position as that for which it stands

abbrev pub span_as_read : (ℕ → ℕ) → Span → Span
span_as_read place span = record { first = place span.first; last = place span.last }

abbrev pub edge_as_read : (ℕ → ℕ) → EdgeEvents → EdgeEvents
edge_as_read place edge = record { from = place edge.from; to = place edge.to }

abbrev pub block_as_read : (ℕ → ℕ) → Block → Block
block_as_read place block = record { first = place block.first; label = block.label }

abbrev pub blame_as_read : (ℕ → ℕ) → Blame → Blame
blame_as_read place blame = record { block = block_as_read place blame.block; witness = place blame.witness }

-- the same evidence, by the positions for which its own stand
pub record IsAsRead (place : ℕ → ℕ) (inside evidence : Evidence) : Type 0 where
  pub spans : evidence.spans.items ≡ map (span_as_read place) inside.spans.items
  pub edges : evidence.edges.items ≡ map (edge_as_read place) inside.edges.items
  pub blames : evidence.blames.items ≡ map (blame_as_read place) inside.blames.items

-- ---- the witness of a round

-- The event at place `closing` of the log as read closes the first cycle of the rest. The evidence is what explains this there: a
-- shortest cycle through its transaction, the events behind its edges, and for each block to blame an event of another thread that must be inside it.
pub record IsWitness (log : List Event) (omitted : Omitted) (closing : ℕ) (evidence : Evidence) : Type 0 where
  -- in the rest
  pub position : ℕ
  pub blamed : List Block
  pub inside : Evidence
  pub closes : IsClosing (rest_of omitted log) position
  pub are_blamed : AreBlamedAt (rest_of omitted log) position (begins_of blamed)
  pub is_evidence : IsEvidence (rest_of omitted log) position blamed inside
  pub reasons : HaveReasons (rest_of omitted log) position blamed inside
  -- and in the log as read
  pub there : closing ≡ place_of omitted log position
  pub reads : IsAsRead (place_of omitted log) inside evidence

-- the rest has no cycle; or this is its first alarm, whose positions are those of the log as read
abbrev pub IsFirstAlarm : List Event → Omitted → Option FirstAlarm → Type 0
IsFirstAlarm log omitted None = ¬ HasCycle (rest_of omitted log)
IsFirstAlarm log omitted (Some first) =
    IsWitness log omitted first.position first.evidence × IsWithin (length log) first.position first.evidence

-- one is there exactly where it was asked for
abbrev pub HasWitness : Bool → List Event → Omitted → ℕ → Option Evidence → Type 0
HasWitness with_witness log omitted closing None = with_witness ≡ false
HasWitness with_witness log omitted closing (Some evidence) = (with_witness ≡ true) × IsWitness log omitted closing evidence

-- the closing position and those of the evidence, if there is one, are below n
abbrev pub IsWitnessWithin : ℕ → ℕ → Option Evidence → Type 0
IsWitnessWithin n closing None = ⊤
IsWitnessWithin n closing (Some evidence) = IsWithin n closing evidence

-- ---- the same for a trace whose positions stand for these places. Private contracts cite these words

pub record IsEvidenceOf (what : List Event) (places : List ℕ) (alarm : Alarm) (evidence : Evidence) : Type 0 where
  pub inside : Evidence
  pub is_evidence : IsEvidence what alarm.position alarm.blamed.items inside
  pub reasons : HaveReasons what alarm.position alarm.blamed.items inside
  pub reads : IsAsRead (slice_index places) inside evidence

-- where one was asked for, the evidence is there
abbrev pub WitnessTells : Bool → List Event → List ℕ → Alarm → Option Evidence → Type 0
WitnessTells with_witness what places alarm None = with_witness ≡ false
WitnessTells with_witness what places alarm (Some evidence) = (with_witness ≡ true) × IsEvidenceOf what places alarm evidence
