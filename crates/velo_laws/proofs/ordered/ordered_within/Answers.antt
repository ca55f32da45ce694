use Rattle.velo_laws.proofs.OnOrderedLabels.{ordered-rest}
use Rattle.velo_laws.proofs.ordered.ordered_within.Goals as goal

pub returns : goal.returns
returns c = λ labels locks variables log. ordered-rest labels locks variables log
