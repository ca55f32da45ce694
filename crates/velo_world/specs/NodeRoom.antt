-- A monitor within the limit of nodes, and whether it has a slot for the next event. Private contracts cite these words.
use Rattle.std.specs.Prelude.{◌≡◌, ◌<◌, List}
use Rattle.velo_events.specs.declared.config.Config.{Config}
use Rattle.velo_events.specs.declared.event.Event.{Event}
use Rattle.velo_arena.specs.Slots.{used_in, limit_of}
use Rattle.velo_monitor.specs.Answers.{NeedsNode}
use Rattle.velo_monitor.specs.Watched.{Watched, IsMonitorOf}

-- the monitor is that of the trace, and has as many nodes as there may be
pub record IsLimitedMonitorOf (config : Config) (monitor : Watched) (trace : List Event) : Type 0 where
  pub stands : IsMonitorOf config.bounds monitor trace
  pub nodes : limit_of monitor.nodes.slots ≡ config.nodes

-- the event finds a slot for its node, if it needs one
pub record HasSlot (monitor : Watched) (trace : List Event) (e : Event) : Type 0 where
  pub slot : NeedsNode monitor trace e → used_in monitor.nodes.slots < limit_of monitor.nodes.slots
