-- What the fields of a closed world keep. Words of what the type keeps.
use Rattle.std.specs.Prelude.{◌≡◌, ◌≤◌, length}
use Rattle.velo_heap.specs.Contents.{bounds_of, IsHeapOf}
use Rattle.velo_world.specs.World.{WorldState, AlarmOf, IsBookOf}
use Rattle.velo_world.specs.declared.closed.Closed.TheInside.{Inside}

abbrev pub closed_state : Inside → WorldState
closed_state c = record { config = c.config; halted = c.halted; log = c.log.events }

-- the log is within its limit and the run within its bounds, and heap, alarm and book follow from the log
pub record FollowsFromItsEvents (c : Inside) : Type 0 where
  pub short : length c.log.events ≤ c.config.events
  pub bounds : bounds_of c.heap ≡ c.config.bounds
  pub heap : IsHeapOf c.heap c.log.events
  pub alarm : AlarmOf c.log.events c.alarm
  pub book : IsBookOf (closed_state c) c.book
