use Rattle.std.proofs.Common.{ℕ, ◌<◌}
use Rattle.std.specs.Prelude.{slice_get}
use Rattle.velo_worker.specs.Schedule.{IsIdle}
use Rattle.velo_worker.proofs.replay_state.ReplayState.are_all_idle.Given as goal

abbrev pub invariant-loop-thread : goal.invariant-loop-thread
invariant-loop-thread l = (t : ℕ) → t < l.thread → IsIdle l.self.world.log t (slice_get l.self.threads t)
