-- The alarm of what is left of a log, by the positions of the whole log, and the line that tells it.
use Rattle.std.specs.Prelude.{◌≡◌, ◌<◌, ℕ, List, [], All, map, Option, Some, option_map, Result, Ok, Err}
use Rattle.std.specs.Io.KnownBytes.{Appends}
use Rattle.velo_audit.specs.Witness.{block_as_read}
use Rattle.velo_bytes.specs.Device.{AppendsBeginning}
use Rattle.velo_events.specs.declared.event.Event.{Event}
use Rattle.velo_events.specs.Refusals.{GrowthRefused}
use Rattle.velo_filter.specs.Left.{Omitted, place_of, rest_of}
use Rattle.velo_report.specs.Alarm.{alarm_line}
use Rattle.velo_watch.specs.Watch.{told_text}
use Rattle.velo_watch.specs.declared.fault.WatchFault.{WatchFault}
use Rattle.velo_watch.specs.declared.fault.WatchFault.TheVariants.{Replay, Write}
use Rattle.velo_world.specs.World.{AlarmOf}
use Rattle.velo_world.specs.declared.analysis.Alarm.{Alarm}
use Rattle.velo_world.specs.declared.log_replay.LogReplayFault.TheVariants.{Memory}

-- the same alarm, by the positions of the whole log; `place` gives that of each position of the rest
abbrev pub alarm_as_read : (ℕ → ℕ) → Alarm → Alarm
alarm_as_read place alarm =
    record {
      position = place alarm.position;
      transaction = place alarm.transaction;
      blamed = record alarm.blamed { items = map (block_as_read place) alarm.blamed.items };
    }

-- this is the alarm of the rest, if it has one, by the positions of the whole log
pub record IsAlarmAsRead (rest : List Event) (place : ℕ → ℕ) (alarm : Option Alarm) : Type 0 where
  pub own : Option Alarm
  pub exact : AlarmOf rest own
  pub moved : alarm ≡ option_map (alarm_as_read place) own

-- this is the alarm of what is left of the log, if that has one, by the positions of the log
abbrev pub IsAlarmOfRest : Omitted → List Event → Option Alarm → Type 0
IsAlarmOfRest omitted log = IsAlarmAsRead (rest_of omitted log) (place_of omitted log)

-- ---- what is told

-- the output grew by the line of that alarm, without one by nothing
pub record Tells (rest : List Event) (place : ℕ → ℕ) (old new : Option (List ℕ)) : Type 0 where
  pub alarm : Option Alarm
  pub exact : IsAlarmAsRead rest place alarm
  pub appends : Appends old new (told_text alarm)

-- a beginning of the line went out
pub record TellsPart (rest : List Event) (place : ℕ → ℕ) (old new : Option (List ℕ)) : Type 0 where
  pub alarm : Alarm
  pub exact : IsAlarmAsRead rest place (Some alarm)
  pub begins : AppendsBeginning old new (alarm_line alarm)

-- the same of what is left of a log
abbrev pub TellsRest : Omitted → List Event → Option (List ℕ) → Option (List ℕ) → Type 0
TellsRest omitted log = Tells (rest_of omitted log) (place_of omitted log)

abbrev pub TellsPartOfRest : Omitted → List Event → Option (List ℕ) → Option (List ℕ) → Type 0
TellsPartOfRest omitted log = TellsPart (rest_of omitted log) (place_of omitted log)

-- ---- on the way. Private contracts cite these words

-- the positions of the alarm, and those of the blocks to blame, are below n
pub record IsAlarmWithin (n : ℕ) (alarm : Alarm) : Type 0 where
  pub position : alarm.position < n
  pub transaction : alarm.transaction < n
  pub blamed : All (λ block. block.first < n) alarm.blamed.items

-- so the one alarm reads as the other
pub record IsMoved (place : ℕ → ℕ) (alarm moved : Alarm) : Type 0 where
  pub position : moved.position ≡ place alarm.position
  pub transaction : moved.transaction ≡ place alarm.transaction
  pub blamed : moved.blamed.items ≡ map (block_as_read place) alarm.blamed.items

-- the line went out; or the sink failed within it; or a growth for it was refused, and nothing went out
abbrev pub TellsOrFails : List Event → (ℕ → ℕ) → Option (List ℕ) → Option (List ℕ) → {X : Type 0}
    → Result X WatchFault → Type 0
TellsOrFails rest place old new (Ok x) = Tells rest place old new
TellsOrFails rest place old new (Err Write) = TellsPart rest place old new
TellsOrFails rest place old new (Err (Replay Memory)) = GrowthRefused × Appends old new []
TellsOrFails rest place old new (Err fault) = ⊥
