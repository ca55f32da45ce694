use Rattle.std.proofs.Common.{◌-◌, length}
use Rattle.velo_worker.specs.Schedule.{all_threads, threads_from}
use Rattle.velo_worker.proofs.OnTurns.{LeadsOn}
use Rattle.velo_worker.proofs.replay_state.ReplayState.take_round.Given as goal

abbrev pub invariant-loop-thread : goal.invariant-loop-thread
invariant-loop-thread l = LeadsOn l.fn.self (all_threads l.fn.self) l.self (threads_from l.thread (length l.fn.self.threads - l.thread))
