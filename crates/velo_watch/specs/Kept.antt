-- What is kept of a log without end, and how long it may be.
use Rattle.std.specs.Prelude.{◌≡◌, ◌≢◌, ℕ, ◌+◌, ◌≤◌, ◌⊎◌, List, [], ◌∷◌, ◌++◌, length, take, Some, None}
use Rattle.velo_events.specs.declared.config.Bounds.{Bounds}
use Rattle.velo_events.specs.declared.config.Config.{Config}
use Rattle.velo_events.specs.declared.event.Event.{Event}
use Rattle.velo_events.specs.declared.refusal.Refusal.{Refusal}
use Rattle.velo_events.specs.declared.refusal.Refusal.TheVariants.{LogFull, GraphFull}
use Rattle.velo_events.specs.Graph.{HasCycle}
use Rattle.velo_events.specs.Heap.{depth_in}
use Rattle.velo_events.specs.Refusals.{GrowthRefused}
use Rattle.velo_events.specs.WellFormed.{IsWellFormed}
use Rattle.velo_traces.specs.declared.judge.Flaw.TheVariants as flaw
use Rattle.velo_traces.specs.Flaws.{flaw_of}
use Rattle.velo_laws.specs.Cut.{NoBlockOpen}
use Rattle.velo_laws.specs.Length.{events_to_leave}
use Rattle.velo_laws.specs.Restart.{IsPrologueOf}
use Rattle.velo_world.specs.World.{FindsNoNode}
use Rattle.velo_world.specs.declared.log_replay.LogReplayFault.{LogReplayFault}
use Rattle.velo_world.specs.declared.log_replay.LogReplayFault.TheVariants.{Refused, WrongValue, Memory}

-- The whole log was cut where no block was open and no cycle was. What is kept are the events after the cut, behind a prologue
-- that stands for those before it
pub record IsKept (bounds : Bounds) (whole kept : List Event) (before_length prologue_length : ℕ) : Type 0 where
  pub before : List Event
  pub prologue : List Event
  pub after : List Event
  pub whole_is : whole ≡ before ++ after
  pub kept_is : kept ≡ prologue ++ after
  pub well_formed : IsWellFormed bounds before
  pub ended : NoBlockOpen before
  pub no_cycle : ¬ HasCycle before
  pub stands : IsPrologueOf bounds before prologue
  -- so many events were before the cut, and so long is the prologue
  pub counted : before_length ≡ length before
  pub measured : prologue_length ≡ length prologue
  -- it has no more events than it takes to say what those before the cut leave
  pub short : prologue_length ≤ events_to_leave bounds before

-- The log can't be cut at its end: a block is open, or what the events leave takes as many events as may be kept
abbrev pub CannotBeCut : Config → List Event → Type 0
CannotBeCut config whole =
    ((t : ℕ) × (depth_in whole t ≢ 0)) ⊎ (config.events ≤ events_to_leave config.bounds whole)

-- so many events after a cut, at least half the room behind the prologue is used
abbrev pub IsHalfUsed : Config → ℕ → ℕ → Type 0
IsHalfUsed config prologue_length n = config.events ≤ prologue_length + n + n

-- The log was cut so many events after its begin, and in time: since then, whenever half the room was used, it could not be cut
pub record WasCutInTime (config : Config) (whole : List Event) (before_length prologue_length : ℕ) : Type 0 where
  pub since : (n : ℕ) → before_length + n ≤ length whole → IsHalfUsed config prologue_length n → CannotBeCut config (take (before_length + n) whole)

-- this is what is kept of the log, which was cut in time
pub record IsKeptInTime (config : Config) (whole kept : List Event) : Type 0 where
  pub before_length : ℕ
  pub prologue_length : ℕ
  pub is_kept : IsKept config.bounds whole kept before_length prologue_length
  pub in_time : WasCutInTime config whole before_length prologue_length

-- as many events are kept as may be, and no cut is possible
pub record FillsLogBehind (config : Config) (whole : List Event) : Type 0 where
  pub kept : List Event
  pub is_kept : IsKeptInTime config whole kept
  pub full : config.events ≤ length kept
  pub no_cut : CannotBeCut config whole

-- the event finds no node after the kept ones
pub record FindsNoNodeBehind (config : Config) (whole : List Event) (e : Event) : Type 0 where
  pub kept : List Event
  pub is_kept : IsKeptInTime config whole kept
  pub no_node : FindsNoNode config.bounds.threads kept e config.nodes

-- the event can't be kept, while there is no alarm: for want of room in the log, or of a node in the graph
abbrev pub IsLimitBehind : Config → List Event → Event → Refusal → Type 0
IsLimitBehind config whole e refusal = (¬ HasCycle whole) ×
    (((refusal ≡ LogFull) × FillsLogBehind config whole)
    ⊎ ((refusal ≡ GraphFull) × FindsNoNodeBehind config whole e))

-- Why the event does not come next in the whole log: a refusal, a wrong value, or a limit, in this order, at its position; or
-- a growth was refused
abbrev pub IsFaultBehind : Config → List Event → Event → LogReplayFault → Type 0
IsFaultBehind config whole e (Refused p refusal) = (p ≡ length whole)
    × ((flaw_of config.bounds whole e ≡ Some (flaw.Refused refusal))
    ⊎ ((flaw_of config.bounds whole e ≡ None) × IsLimitBehind config whole e refusal))
IsFaultBehind config whole e (WrongValue p) =
    (p ≡ length whole) × (flaw_of config.bounds whole e ≡ Some flaw.WrongValue)
IsFaultBehind config whole e Memory = GrowthRefused
