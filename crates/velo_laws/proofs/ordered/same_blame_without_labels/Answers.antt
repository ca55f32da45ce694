use Rattle.velo_laws.specs.Ordered.{dissolving}
use Rattle.velo_laws.proofs.OnOrderedBlame.{blame_law}
use Rattle.velo_laws.proofs.OnOrderedLabels.{ordered-rest}
use Rattle.velo_laws.proofs.ordered.same_blame_without_labels.Goals as goal
use Rattle.velo_filter.specs.Left.{rest_of}
use Rattle.velo_filter.proofs.OnTurns.{IsWellFormed-rest}

pub returns : goal.returns
returns c = λ labels locks variables bounds log well ordered.
    blame_law locks variables (rest_of (dissolving labels) log) bounds (IsWellFormed-rest (dissolving labels) bounds log well) (ordered-rest labels locks variables log ordered)
