use Rattle.std.proofs.Common.{◌-◌, length}
use Rattle.velo_worker.proofs.OnTurns.{LeadsRounds}
use Rattle.velo_worker.proofs.replay_state.ReplayState.take_rounds.Given as goal

abbrev pub invariant-loop-self : goal.invariant-loop-self
invariant-loop-self l = LeadsRounds l.fn.self l.self

abbrev pub decreases-loop-self : goal.decreases-loop-self
decreases-loop-self l = l.self.world.config.events - length l.self.world.log
