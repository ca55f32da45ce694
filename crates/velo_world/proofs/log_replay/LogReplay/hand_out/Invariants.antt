use Rattle.std.proofs.Common.{◌≡◌, List}
use Rattle.velo_events.specs.declared.event.Event.{Event}
use Rattle.velo_world.specs.LogReplay.{IsLogReplayOf}
use Rattle.velo_world.proofs.log_replay.LogReplay.hand_out.Given as goal

abbrev pub invariant-loop-thread : goal.invariant-loop-thread
invariant-loop-thread l = record {
  handed : (trace : List Event) → IsLogReplayOf l.config l.fn.self trace 0 → IsLogReplayOf l.config l.self trace l.thread;
  monitor : l.self.monitor ≡ l.fn.self.monitor;
}
