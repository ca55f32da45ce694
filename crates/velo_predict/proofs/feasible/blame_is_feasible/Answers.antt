use Rattle.velo_predict.proofs.OnShadows.{blame_is_feasible}
use Rattle.velo_predict.proofs.feasible.blame_is_feasible.Goals as goal

pub returns : goal.returns
returns c = λ bounds wants log earlier last blamed b begin run sections prediction are contains here. blame_is_feasible bounds wants log earlier last blamed b begin run sections prediction are contains here
