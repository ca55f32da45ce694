-- Why an event of a recorded log can't come about again, and with it the log.
use Rattle.std.specs.Prelude.{◌≡◌, ℕ, ◌+◌, ◌<◌, ◌≤◌, ◌⊎◌, false, List, slice_get, take, length, Some, None}
use Rattle.velo_events.specs.declared.config.Bounds.{Bounds}
use Rattle.velo_events.specs.declared.config.Config.{Config}
use Rattle.velo_events.specs.declared.event.Event.{Event}
use Rattle.velo_events.specs.declared.refusal.Refusal.{Refusal}
use Rattle.velo_events.specs.declared.refusal.Refusal.TheVariants.{LogFull, GraphFull}
use Rattle.velo_events.specs.Refusals.{GrowthRefused}
use Rattle.velo_events.specs.WellFormed.{IsWellFormed}
use Rattle.velo_traces.specs.declared.judge.Flaw.{Flaw}
use Rattle.velo_traces.specs.declared.judge.Flaw.TheVariants as flaw
use Rattle.velo_traces.specs.Flaws.{flaw_of, IsFirstFlaw}
use Rattle.velo_world.specs.World.{WorldState, FindsNoNode}
use Rattle.velo_world.specs.declared.log_replay.LogReplayFault.{LogReplayFault}
use Rattle.velo_world.specs.declared.log_replay.LogReplayFault.TheVariants.{Refused, WrongValue, Memory}

-- the world of a log, which nobody has halted
abbrev pub world_of : Config → List Event → WorldState
world_of config log = record { config = config; halted = false; log = log }

-- the log is full, or it is not and the event finds no node
abbrev pub IsLimit : Config → List Event → Event → Refusal → Type 0
IsLimit config log e refusal = ((refusal ≡ LogFull) × (config.events ≤ length log))
    ⊎ ((refusal ≡ GraphFull) × (length log < config.events) × FindsNoNode config.bounds.threads log e config.nodes)

-- why the event does not come next: a refusal, a wrong value, or a limit, in this order; or a growth was refused
abbrev pub IsFaultAtEvent : Config → List Event → Event → LogReplayFault → Type 0
IsFaultAtEvent config log e (Refused p refusal) = (p ≡ length log)
    × ((flaw_of config.bounds log e ≡ Some (flaw.Refused refusal))
    ⊎ ((flaw_of config.bounds log e ≡ None) × IsLimit config log e refusal))
IsFaultAtEvent config log e (WrongValue p) = (p ≡ length log) × (flaw_of config.bounds log e ≡ Some flaw.WrongValue)
IsFaultAtEvent config log e Memory = GrowthRefused

-- the event at position p finds no node
pub record FindsNoNodeAt (threads nodes : ℕ) (log : List Event) (p : ℕ) : Type 0 where
  pub event : Event
  pub here : slice_get log p ≡ Some event
  pub finds_none : FindsNoNode threads (take p log) event nodes

-- the first event that can't come about is at position p within the limit, and this is its flaw
pub record IsFlawAt (limit : ℕ) (bounds : Bounds) (log : List Event) (p : ℕ) (flaw : Flaw) : Type 0 where
  pub first : IsFirstFlaw bounds log p flaw
  pub within : p ≤ limit

-- the events up to position p can come about, and p is the limit of events
pub record IsAtEventLimit (limit : ℕ) (bounds : Bounds) (log : List Event) (p : ℕ) : Type 0 where
  pub within : p < length log
  pub well_formed : IsWellFormed bounds (take (p + 1) log)
  pub full : p ≡ limit

-- they can, p is below the limit of events, and the event there finds no node
pub record IsAtNodeLimit (limit nodes : ℕ) (bounds : Bounds) (log : List Event) (p : ℕ) : Type 0 where
  pub within : p < length log
  pub well_formed : IsWellFormed bounds (take (p + 1) log)
  pub room : p < limit
  pub no_node : FindsNoNodeAt bounds.threads nodes log p

-- the event at position p is refused for this reason
abbrev pub IsRefusedAt : ℕ → ℕ → Bounds → List Event → ℕ → Refusal → Type 0
IsRefusedAt limit nodes bounds log p refusal =
    IsFlawAt limit bounds log p (flaw.Refused refusal)
    ⊎ ((refusal ≡ LogFull) × IsAtEventLimit limit bounds log p)
    ⊎ ((refusal ≡ GraphFull) × IsAtNodeLimit limit nodes bounds log p)

-- it reads a value that its variable does not have
abbrev pub IsWrongValueAt : ℕ → Bounds → List Event → ℕ → Type 0
IsWrongValueAt limit bounds log p = IsFlawAt limit bounds log p flaw.WrongValue

-- why the log can't be replayed to its end
abbrev pub IsFaultOfLog : Config → List Event → LogReplayFault → Type 0
IsFaultOfLog config log (Refused p refusal) = IsRefusedAt config.events config.nodes config.bounds log p refusal
IsFaultOfLog config log (WrongValue p) = IsWrongValueAt config.events config.bounds log p
IsFaultOfLog config log Memory = GrowthRefused
