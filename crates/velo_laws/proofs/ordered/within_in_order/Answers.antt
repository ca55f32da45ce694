use Rattle.velo_laws.proofs.OnOrderedLast.{within-ordered}
use Rattle.velo_laws.proofs.ordered.within_in_order.Goals as goal

pub returns : goal.returns
returns c = λ locks variables log. within-ordered locks variables log
