use Rattle.velo_runtime.proofs.OnRefusals.{acts-foreign, acts-memory, acts-runtime}
use Rattle.std.proofs.Common.{rules}
use Rattle.velo_runtime.proofs.room.step_in.Goals as goal

pub returns-clause-foreign : goal.returns-clause-foreign
returns-clause-foreign c = acts-foreign _ _ _ _ _ _ c.act.ensures

pub returns-clause-memory : goal.returns-clause-memory
returns-clause-memory c = acts-memory _ _ _ _ _ _ c.act.ensures

pub returns-clause-runtime : goal.returns-clause-runtime
returns-clause-runtime c = acts-runtime _ _ _ _ _ _ c.act.ensures

pub returns-clause-step : goal.returns-clause-step
returns-clause-step c = search rules
