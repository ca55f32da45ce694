use Rattle.velo_predict.proofs.OnShadows.{cycles_are_feasible}
use Rattle.velo_predict.proofs.feasible.cycles_are_feasible.Goals as goal

pub returns : goal.returns
returns c = λ bounds wants log trace run sections predicts. cycles_are_feasible bounds wants log trace run sections predicts
