use Rattle.velo_laws.proofs.OnOrderedLabels.{cycle_law-labels}
use Rattle.velo_laws.proofs.ordered.same_cycles_without_labels.Goals as goal

pub returns : goal.returns
returns c = λ labels locks variables bounds log. cycle_law-labels labels locks variables bounds log
