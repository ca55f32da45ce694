-- Why the next event of a log cannot happen where something is left out: the whole log decides whether it is
-- refused or reads a wrong value, and with it the limit of events; what is left decides the limit of nodes.
use Rattle.std.specs.Prelude.{◌≡◌, ◌⊎◌, ◌≤◌, ◌<◌, ℕ, false, List, ◌∷◌, ◌++◌, [], length, slice_get, take, None, Some}
use Rattle.velo_events.specs.declared.config.Bounds.{Bounds}
use Rattle.velo_events.specs.declared.config.Config.{Config}
use Rattle.velo_events.specs.declared.event.Event.{Event}
use Rattle.velo_events.specs.declared.refusal.Refusal.{Refusal}
use Rattle.velo_events.specs.declared.refusal.Refusal.TheVariants.{GraphFull, LogFull}
use Rattle.velo_events.specs.Refusals.{GrowthRefused}
use Rattle.velo_filter.specs.Left.{Omitted, is_left_out, rest_of}
use Rattle.velo_traces.specs.Flaws.{flaw_of}
use Rattle.velo_traces.specs.declared.judge.Flaw.TheVariants as flaw
use Rattle.velo_world.specs.Faults.{IsFaultAtEvent}
use Rattle.velo_world.specs.World.{FindsNoNode}
use Rattle.velo_world.specs.declared.log_replay.LogReplayFault.{LogReplayFault}
use Rattle.velo_world.specs.declared.log_replay.LogReplayFault.TheVariants.{Memory, Refused, WrongValue}

-- the event is not left out, and finds no node after what is left of these events
pub record FindsNoNodeInRest (omitted : Omitted) (config : Config) (log : List Event) (e : Event)
    : Type 0 where
  pub stays : is_left_out omitted (log ++ e ∷ []) (length log) ≡ false
  pub finds_none : FindsNoNode config.bounds.threads (rest_of omitted log) e config.nodes

-- the whole log is full, or it is not and the event finds no node
abbrev pub IsLimitOfRest : Omitted → Config → List Event → Event → Refusal → Type 0
IsLimitOfRest omitted config log e refusal =
    ((refusal ≡ LogFull) × (config.events ≤ length log))
    ⊎ ((refusal ≡ GraphFull) × (length log < config.events)
    × FindsNoNodeInRest omitted config log e)

-- Why the event does not come next, at its position in the whole log: a refusal, a wrong value, or a
-- limit, in this order; or a growth was refused.
abbrev pub IsFaultOfRest : Omitted → Config → List Event → Event → LogReplayFault → Type 0
IsFaultOfRest omitted config log e (Refused p refusal) =
    (p ≡ length log)
    × ((flaw_of config.bounds log e ≡ Some (flaw.Refused refusal))
    ⊎ ((flaw_of config.bounds log e ≡ None) × IsLimitOfRest omitted config log e refusal))
IsFaultOfRest omitted config log e (WrongValue p) =
    (p ≡ length log) × (flaw_of config.bounds log e ≡ Some flaw.WrongValue)
IsFaultOfRest omitted config log e Memory = GrowthRefused

-- ---- on the way. Private contracts cite these words

-- why it does not come next in the whole log, of which there may be so many events
abbrev pub IsFaultOfWhole : ℕ → Bounds → List Event → Event → LogReplayFault → Type 0
IsFaultOfWhole limit bounds log e (Refused p refusal) =
    (p ≡ length log)
    × ((flaw_of bounds log e ≡ Some (flaw.Refused refusal))
    ⊎ ((flaw_of bounds log e ≡ None) × (refusal ≡ LogFull) × (limit ≤ length log)))
IsFaultOfWhole limit bounds log e (WrongValue p) =
    (p ≡ length log) × (flaw_of bounds log e ≡ Some flaw.WrongValue)
IsFaultOfWhole limit bounds log e Memory = GrowthRefused

-- why the event at position n, the last of the log, does not come next
pub record IsFaultOfLast (omitted : Omitted) (config : Config) (log : List Event) (n : ℕ)
    (fault : LogReplayFault) : Type 0 where
  pub event : Event
  pub here : slice_get log n ≡ Some event
  pub is_fault : IsFaultOfRest omitted config (take n log) event fault

-- the same fault at this position
abbrev pub fault_at : ℕ → LogReplayFault → LogReplayFault
fault_at p (Refused q refusal) = Refused p refusal
fault_at p (WrongValue q) = WrongValue p
fault_at p Memory = Memory

-- what keeps the event from coming next after what is left, told at this position of the whole log
pub record IsMovedFault (config : Config) (rest : List Event) (e : Event) (p : ℕ)
    (fault : LogReplayFault) : Type 0 where
  pub own : LogReplayFault
  pub is_fault : IsFaultAtEvent config rest e own
  pub moved : fault ≡ fault_at p own
