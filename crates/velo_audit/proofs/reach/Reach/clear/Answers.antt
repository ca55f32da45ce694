use Rattle.velo_audit.proofs.OnReach.{ReachesUpTo-start}
use Rattle.velo_audit.proofs.reach.Reach.clear.Goals as goal

pub returns-clause-start : goal.returns-clause-start
returns-clause-start c = λ log t. ReachesUpTo-start log t _ _ c.clear.ensures.blank c.clear-2.ensures.blank
