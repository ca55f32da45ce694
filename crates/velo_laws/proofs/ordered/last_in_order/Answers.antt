use Rattle.velo_laws.proofs.OnOrderedLast.{last-within}
use Rattle.velo_laws.proofs.ordered.last_in_order.Goals as goal

pub returns : goal.returns
returns c = λ locks variables log. last-within locks variables log
