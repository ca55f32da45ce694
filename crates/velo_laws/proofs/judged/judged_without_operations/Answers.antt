use Rattle.velo_laws.proofs.OnJudgedOperations.{judged_operations_law}
use Rattle.velo_laws.proofs.judged.judged_without_operations.Goals as goal

pub returns : goal.returns
returns c = judged_operations_law
