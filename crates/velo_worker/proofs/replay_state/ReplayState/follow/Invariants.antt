use Rattle.std.proofs.Common.{drop}
use Rattle.velo_worker.proofs.OnTurns.{LeadsOn}
use Rattle.velo_worker.proofs.replay_state.ReplayState.follow.Given as goal

abbrev pub invariant-loop-thread : goal.invariant-loop-thread
invariant-loop-thread l = LeadsOn l.fn.self l.schedule l.self (drop l.thread-index l.schedule)
