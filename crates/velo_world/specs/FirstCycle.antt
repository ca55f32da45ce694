-- The event that closes the first cycle of a log, and what its alarm is found by. Private contracts cite these words.
use Rattle.std.specs.Prelude.{◌≡◌, List, take, Option, Some, None}
use Rattle.velo_events.specs.declared.config.Bounds.{Bounds}
use Rattle.velo_events.specs.declared.event.Event.{Event}
use Rattle.velo_events.specs.Block.{owner}
use Rattle.velo_events.specs.Graph.{HasCycle, IsClosing}
use Rattle.velo_blame.specs.Clocks.{RunClocks}
use Rattle.velo_tables.specs.Clocks.{AreClocksOf}
use Rattle.velo_world.specs.declared.analysis.Alarm.{Alarm}
use Rattle.velo_world.specs.declared.first_cycle.Closing.{Closing}
use Rattle.velo_world.specs.World.{AlarmOf}

-- the event closes the first cycle, and this is its transaction
pub record ClosesFirst (log : List Event) (closing : Closing) : Type 0 where
  pub closes : IsClosing log closing.position
  pub transaction : closing.transaction ≡ owner log closing.position

-- the event that closes the first cycle, if one does
abbrev pub IsFirstClosing : List Event → Option Closing → Type 0
IsFirstClosing log None = ¬ HasCycle log
IsFirstClosing log (Some closing) = ClosesFirst log closing

-- the events whose graph is kept: all, or those before it
abbrev pub events_before : List Event → Option Closing → List Event
events_before log None = log
events_before log (Some closing) = take closing.position log

-- the events that monitor and clocks took in: all, or with an alarm those before it
abbrev pub events_watched : List Event → Option Alarm → List Event
events_watched log None = log
events_watched log (Some alarm) = take alarm.position log

-- the clocks are those of the events before the alarm, which is the log's
pub record AreNoted (bounds : Bounds) (log : List Event) (noted : RunClocks × Option Alarm) : Type 0 where
  pub alarm : AlarmOf log noted.1
  pub clocks : AreClocksOf noted.0.state (events_watched log noted.1)
  pub bounds_are : noted.0.bounds ≡ bounds
