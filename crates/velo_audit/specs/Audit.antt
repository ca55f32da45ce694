-- What an audit answers.
use Rattle.std.specs.Prelude.{◌≡◌, ⊤, ℕ, Bool, List, [], ◌∷◌, length, map, Option, Some, None, slice_index, All}
use Rattle.velo_events.specs.declared.config.Config.{Config}
use Rattle.velo_events.specs.declared.event.Event.{Event}
use Rattle.velo_events.specs.Graph.{HasCycle}
use Rattle.velo_events.specs.Refusals.{GrowthRefused}
use Rattle.velo_traces.specs.Blocks.{block_at}
use Rattle.velo_blame.specs.Blamed.{begins_of}
use Rattle.velo_world.specs.Faults.{FindsNoNodeAt}
use Rattle.velo_world.specs.World.{IsAlarm}
use Rattle.velo_world.specs.declared.analysis.Alarm.{Alarm}
use Rattle.velo_filter.specs.Left.{Omitted, rest_of, place_of, with_labels}
use Rattle.velo_audit.specs.Rounds.{IsRound, BlamesAsRead, FirstRounds, labels_told, left_after}
use Rattle.velo_audit.specs.Rounds as round
use Rattle.velo_audit.specs.Tells.{numbers_of, Tells}
use Rattle.velo_audit.specs.Witness.{HasWitness, IsWitnessWithin}
use Rattle.velo_audit.specs.declared.told.Told.{Told}
use Rattle.velo_audit.specs.declared.round.AuditFault.{AuditFault}
use Rattle.velo_audit.specs.declared.round.AuditFault.TheVariants.{Memory, GraphFull}

abbrev pub out_of_memory : AuditFault
out_of_memory = Memory

-- each block has the label of its begin
abbrev pub HasItsLabels : List Event → Told → Type 0
HasItsLabels log told = told.blocks.items ≡ map (block_at log) (begins_of told.blocks.items)

-- the rest has no cycle, or this is told of its first alarm
abbrev pub RoundTells : Bool → List Event → Omitted → Option Told → Type 0
RoundTells with_witness log omitted None = ¬ HasCycle (rest_of omitted log)
RoundTells with_witness log omitted (Some told) =
    IsRound log omitted (numbers_of told) × HasItsLabels log told × HasWitness with_witness log omitted told.closing told.witness

-- the event of the rest that stands at this position of the log as read finds no node
pub record IsFullAt (config : Config) (log : List Event) (omitted : Omitted) (place : ℕ) : Type 0 where
  pub position : ℕ
  pub there : place ≡ place_of omitted log position
  pub finds_none : FindsNoNodeAt config.bounds.threads config.nodes (rest_of omitted log) position

-- why a round could not be checked to its end
abbrev pub IsRoundFault : Config → List Event → Omitted → AuditFault → Type 0
IsRoundFault config log omitted Memory = GrowthRefused
IsRoundFault config log omitted (GraphFull place) = IsFullAt config log omitted place

-- what is told of a round as blamed is so in the log as read, and its witness stands there
abbrev pub TellsTruly : List Event → Told → Type 0
TellsTruly log told =
    HasItsLabels log told × BlamesAsRead log (numbers_of told) × IsWitnessWithin (length log) told.closing told.witness

-- where witnesses were asked for, each round has its own
unfoldable pub AreWitnessed : Bool → List Event → Omitted → List Told → Type 0
AreWitnessed with_witness log omitted [] = ⊤
AreWitnessed with_witness log omitted (told ∷ later) =
    HasWitness with_witness log omitted told.closing told.witness × AreWitnessed with_witness log (with_labels omitted (labels_told log (numbers_of told))) later

-- what is left out behind the round
abbrev pub left_behind : List Event → Omitted → Option Told → Omitted
left_behind log omitted None = omitted
left_behind log omitted (Some told) = with_labels omitted (labels_told log (numbers_of told))

-- some first rounds came to their end, and in the next one the graph is full
pub record IsFullAfter (config : Config) (log : List Event) (omitted : Omitted) (place : ℕ) : Type 0 where
  pub rounds : List round.RoundNumbers
  pub are_first : FirstRounds log omitted rounds
  pub is_full : IsFullAt config log (left_after log omitted rounds) place

-- why the audit could not come to its end
abbrev pub IsAuditFault : Config → List Event → Omitted → AuditFault → Type 0
IsAuditFault config log omitted Memory = GrowthRefused
IsAuditFault config log omitted (GraphFull place) = IsFullAfter config log omitted place

-- ---- on the way. Private contracts cite these words

-- these are the first rounds, and behind them this is left out
pub record StandsAt (with_witness : Bool) (log : List Event) (start : Omitted) (rounds : List Told) (omitted : Omitted) : Type 0 where
  pub first : FirstRounds log start (map numbers_of rounds)
  pub behind : omitted ≡ left_after log start (map numbers_of rounds)
  pub truly : All (TellsTruly log) rounds
  pub witnessed : AreWitnessed with_witness log start rounds

-- ---- the same for a trace whose positions stand for these places. Private contracts cite these words

pub record IsToldOf (with_witness : Bool) (what : List Event) (places : List ℕ) (told : Told) : Type 0 where
  pub alarm : Alarm
  pub is_alarm : IsAlarm what alarm
  pub tells : Tells with_witness what places alarm told

abbrev pub CheckTells : Bool → List Event → List ℕ → Option Told → Type 0
CheckTells with_witness what places None = ¬ HasCycle what
CheckTells with_witness what places (Some told) = IsToldOf with_witness what places told

pub record IsFullIn (config : Config) (what : List Event) (places : List ℕ) (place : ℕ) : Type 0 where
  pub position : ℕ
  pub there : place ≡ slice_index places position
  pub finds_none : FindsNoNodeAt config.bounds.threads config.nodes what position

abbrev pub IsCheckFault : Config → List Event → List ℕ → AuditFault → Type 0
IsCheckFault config what places Memory = GrowthRefused
IsCheckFault config what places (GraphFull place) = IsFullIn config what places place
