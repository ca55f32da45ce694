use Rattle.velo_laws.proofs.OnOrderedCycles.{cycle_law}
use Rattle.velo_laws.proofs.ordered.same_cycles.Goals as goal

pub returns : goal.returns
returns c = λ locks variables bounds log well ordered. cycle_law locks variables log bounds well ordered
