use Rattle.velo_laws.proofs.OnOrderedClosing.{closing_law}
use Rattle.velo_laws.proofs.ordered.same_closing.Goals as goal

pub returns : goal.returns
returns c = λ locks variables bounds log well ordered. closing_law locks variables log bounds well ordered
