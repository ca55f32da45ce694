-- What the fields of a world keep. Words of what the type keeps.
use Rattle.velo_world.specs.World.{WorldState, IsBookOf}
use Rattle.velo_world.specs.LoggedRun.{logged_state, FollowsFromItsLog}
use Rattle.velo_world.specs.Kept.{KeepsUnborn}
use Rattle.velo_world.specs.declared.world.World.TheInside.{Inside}

abbrev pub state_of : Inside → WorldState
state_of w = logged_state w.logged

-- the run follows from its log, and so do book and kept shares
pub record IsWorldOfItsLog (w : Inside) : Type 0 where
  pub logged : FollowsFromItsLog w.logged
  pub book : IsBookOf (state_of w) w.book
  pub keeps : KeepsUnborn (state_of w) w.kept
