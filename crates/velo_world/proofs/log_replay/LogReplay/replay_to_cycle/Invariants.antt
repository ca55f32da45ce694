use Rattle.std.proofs.Common.{take}
use Rattle.velo_world.specs.LogReplay.{IsQuiet}
use Rattle.velo_world.proofs.log_replay.LogReplay.replay_to_cycle.Given as goal

abbrev pub invariant-loop-position : goal.invariant-loop-position
invariant-loop-position l = record { stands : IsQuiet l.config l.self (take l.position l.events) }
