-- A recorded log whose events come one by one. Private contracts cite these words.
use Rattle.std.specs.Prelude.{◌≡◌, Option, None}
use Rattle.velo_world.specs.declared.analysis.Alarm.{Alarm}
use Rattle.velo_world.specs.declared.recorded_world.RecordedRun.{RecordedRun}
use Rattle.velo_world.specs.World.{WorldState, AlarmOf}
use Rattle.velo_world.specs.Faults.{world_of}
use Rattle.velo_world.specs.LogReplay.{IsLogReplayOf}
use Rattle.velo_world.specs.NodeRoom.{IsLimitedMonitorOf}

abbrev pub recorded_state : RecordedRun → WorldState
recorded_state run = world_of run.config run.log.events

-- heap, book and alarm follow from the events, and before the alarm so does the monitor
pub record FollowsFromItsEvents (run : RecordedRun) : Type 0 where
  pub entered : IsLogReplayOf run.config run.parts run.log.events 0
  pub alarm : AlarmOf run.log.events run.alarm
  pub watched : run.alarm ≡ None → IsLimitedMonitorOf run.config run.parts.monitor run.log.events
