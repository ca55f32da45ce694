-- What the fields of a replay keep. Words of what the type keeps.
use Rattle.std.specs.Prelude.{◌≡◌, length}
use Rattle.velo_world.specs.World.{HoldsLiveShares, CompletesShares}
use Rattle.velo_worker.specs.Schedule.{ReplayState}
use Rattle.velo_worker.specs.declared.replay_state.ReplayState.TheInside.{Inside}

abbrev pub replay_state_of : Inside → ReplayState
replay_state_of c = record { world = c.world; threads = c.threads.items }

-- each thread has its place and its share
pub record IsReplayState (c : Inside) : Type 0 where
  pub live : HoldsLiveShares c.world c.shares
  pub complete : CompletesShares c.world c.shares
  pub count : length c.threads.items ≡ c.world.config.bounds.threads
