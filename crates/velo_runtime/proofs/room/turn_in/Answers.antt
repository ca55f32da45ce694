use Rattle.velo_runtime.proofs.OnTurns.{turn-foreign, turn-memory, turn-runtime}
use Rattle.velo_runtime.proofs.room.turn_in.Goals as goal

pub returns-clause-foreign : goal.returns-clause-foreign
returns-clause-foreign c = turn-foreign _ _ _ _ _ _ c.turn.ensures

pub returns-clause-memory : goal.returns-clause-memory
returns-clause-memory c = turn-memory _ _ _ _ _ _ c.turn.ensures

pub returns-clause-runtime : goal.returns-clause-runtime
returns-clause-runtime c = turn-runtime _ _ _ _ _ _ c.turn.ensures
