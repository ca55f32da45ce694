use Rattle.velo_laws.proofs.OnOrderedBlame.{blame_law}
use Rattle.velo_laws.proofs.ordered.same_blame.Goals as goal

pub returns : goal.returns
returns c = λ locks variables bounds log well ordered. blame_law locks variables log bounds well ordered
