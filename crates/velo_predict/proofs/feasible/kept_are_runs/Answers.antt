use Rattle.velo_predict.proofs.OnKept.{kept_are_runs}
use Rattle.velo_predict.proofs.feasible.kept_are_runs.Goals as goal

pub returns : goal.returns
returns c = λ bounds wants log trace run prediction kept. kept_are_runs bounds wants log trace run prediction kept
