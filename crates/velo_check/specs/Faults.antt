-- Why the events of a log cannot happen.
use Rattle.std.specs.Prelude.{List}
use Rattle.velo_events.specs.declared.config.Config.{Config}
use Rattle.velo_events.specs.declared.event.Event.{Event}
use Rattle.velo_events.specs.Refusals.{GrowthRefused}
use Rattle.velo_world.specs.declared.log_replay.LogReplayFault.{LogReplayFault}
use Rattle.velo_world.specs.declared.log_replay.LogReplayFault.TheVariants as replay
use Rattle.velo_world.specs.Faults.{IsRefusedAt, IsWrongValueAt}
use Rattle.velo_check.specs.declared.fault.CheckFault.{CheckFault}
use Rattle.velo_check.specs.declared.fault.CheckFault.TheVariants.{Log, Refused, WrongValue, Write, Memory}

-- the fault of a check if the log cannot happen again
abbrev pub check_fault_of : LogReplayFault → CheckFault
check_fault_of (replay.Refused p refusal) = Refused p refusal
check_fault_of (replay.WrongValue p) = WrongValue p
check_fault_of replay.Memory = Memory

-- why its events cannot all happen
abbrev pub IsFaultOfLog : Config → List Event → CheckFault → Type 0
IsFaultOfLog config log (Refused p refusal) =
    IsRefusedAt config.events config.nodes config.bounds log p refusal
IsFaultOfLog config log (WrongValue p) = IsWrongValueAt config.events config.bounds log p
IsFaultOfLog config log Memory = GrowthRefused
IsFaultOfLog config log (Log fault) = ⊥
IsFaultOfLog config log Write = ⊥
