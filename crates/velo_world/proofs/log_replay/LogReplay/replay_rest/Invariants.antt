use Rattle.std.proofs.Common.{◌≡◌, take}
use Rattle.velo_world.specs.LogReplay.{IsLogReplayOf}
use Rattle.velo_world.proofs.log_replay.LogReplay.replay_rest.Given as goal

abbrev pub invariant-loop-position : goal.invariant-loop-position
invariant-loop-position l = record {
  stands : IsLogReplayOf l.config l.self (take l.position l.events) 0;
  monitor : l.self.monitor ≡ l.fn.self.monitor;
}
