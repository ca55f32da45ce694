use Rattle.velo_predict.proofs.OnKept.{kept_deadlocks}
use Rattle.velo_predict.proofs.feasible.kept_deadlocks.Goals as goal

pub returns : goal.returns
returns c = λ bounds wants log trace run predicts kept. kept_deadlocks bounds wants log trace run predicts kept
