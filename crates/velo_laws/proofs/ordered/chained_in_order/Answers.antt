use Rattle.velo_laws.proofs.OnOrderedLabels.{chained-within}
use Rattle.velo_laws.proofs.ordered.chained_in_order.Goals as goal

pub returns : goal.returns
returns c = λ locks variables log. chained-within locks variables log
