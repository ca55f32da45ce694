-- What the fields of a recorded world keep. Words of what the type keeps.
use Rattle.velo_world.specs.World.{WorldState}
use Rattle.velo_world.specs.RecordedRun.{recorded_state, FollowsFromItsEvents}
use Rattle.velo_world.specs.declared.recorded_world.RecordedWorld.TheInside.{Inside}

abbrev pub state_in : Inside → WorldState
state_in w = recorded_state w.run

pub record KeepsRun (w : Inside) : Type 0 where
  pub run : FollowsFromItsEvents w.run
