use Rattle.velo_runtime.proofs.OnRefusals.{forks-foreign, forks-memory, forks-runtime}
use Rattle.velo_runtime.proofs.room.fork_in.Goals as goal

pub returns-clause-foreign : goal.returns-clause-foreign
returns-clause-foreign c = forks-foreign _ _ _ _ _ _ c.fork.ensures

pub returns-clause-memory : goal.returns-clause-memory
returns-clause-memory c = forks-memory _ _ _ _ _ _ c.fork.ensures

pub returns-clause-runtime : goal.returns-clause-runtime
returns-clause-runtime c = forks-runtime _ _ _ _ _ _ c.fork.ensures
