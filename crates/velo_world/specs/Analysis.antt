-- How heap, monitor, clocks and alarm of a run follow from its events. Private contracts cite these words.
use Rattle.std.specs.Prelude.{◌≡◌, ◌<◌, ℕ, List, length, Some, None}
use Rattle.velo_events.specs.declared.config.Bounds.{Bounds}
use Rattle.velo_events.specs.declared.event.Event.{Event}
use Rattle.velo_events.specs.declared.limits.TheConstants.{MAX_EVENTS}
use Rattle.velo_events.specs.WellFormed.{MayFollow}
use Rattle.velo_heap.specs.Contents.{bounds_of, IsHeapOf}
use Rattle.velo_tables.specs.Clocks.{AreClocksOf, HasRoomToNote}
use Rattle.velo_tables.specs.LastAccesses.{HasRoomFor}
use Rattle.velo_monitor.specs.Watched.{IsMonitorOf}
use Rattle.velo_world.specs.FirstCycle.{events_watched}
use Rattle.velo_world.specs.NodeRoom.{HasSlot}
use Rattle.velo_world.specs.World.{AlarmOf, IsAlarm}
use Rattle.velo_world.specs.declared.analysis.Alarm.{Alarm}
use Rattle.velo_world.specs.declared.analysis.Analysis.{Analysis}

-- the alarm is that of the events, and monitor and clocks are those of the events before it
pub record IsWatched (analysis : Analysis) (bounds : Bounds) (trace : List Event) : Type 0 where
  pub alarm : AlarmOf trace analysis.alarm
  pub monitor : IsMonitorOf bounds analysis.monitor (events_watched trace analysis.alarm)
  pub clocks : AreClocksOf analysis.clocks.state (events_watched trace analysis.alarm)
  pub bounds_are : analysis.clocks.bounds ≡ bounds

-- the alarm of the event at the position came to the analysis, and nothing else changed
pub record Raises (analysis : Analysis) (trace : List Event) (position : ℕ) (analysis' : Analysis) : Type 0 where
  pub alarm : Alarm
  pub is : IsAlarm trace alarm
  pub here : alarm.position ≡ position
  pub same : analysis' ≡ record analysis { alarm = Some alarm }

-- and the heap is that of all events
pub record IsAnalysisOf (analysis : Analysis) (trace : List Event) : Type 0 where
  pub heap : IsHeapOf analysis.heap trace
  pub watched : IsWatched analysis (bounds_of analysis.heap) trace

-- the event finds a slot for its node, if it needs one. After an alarm it needs none
pub record HasSlotFor (analysis : Analysis) (trace : List Event) (e : Event) : Type 0 where
  pub slot : analysis.alarm ≡ None → HasSlot analysis.monitor trace e

-- monitor and clocks can take in the event without memory
pub record HasRoomForNext (analysis : Analysis) (trace : List Event) (e : Event) : Type 0 where
  pub monitor : analysis.alarm ≡ None → HasRoomFor analysis.monitor.kept e
  pub slot : HasSlotFor analysis trace e
  pub clocks : analysis.alarm ≡ None → HasRoomToNote analysis.clocks.bounds.threads analysis.clocks.state e

-- after the change there is room for the event, where it may come next and finds a slot
abbrev pub FindsRoom : Analysis → Analysis → Event → Type 0
FindsRoom old new e = (trace : List Event) → IsAnalysisOf old trace → MayFollow (bounds_of old.heap) trace e → HasSlotFor old trace e
    → HasRoomForNext new trace e

-- the event may follow those of the run
pub record ComesNext (analysis : Analysis) (trace : List Event) (e : Event) : Type 0 where
  pub stands : IsAnalysisOf analysis trace
  pub follows : MayFollow (bounds_of analysis.heap) trace e
  pub short : length trace < MAX_EVENTS
