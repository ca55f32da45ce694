use Rattle.velo_filter.specs.Left.{is_listed}
use Rattle.velo_filter.proofs.labels.LabelSet.contains.Goals as goal

pub returns : goal.returns
unfolding is_listed
returns c = c.contains.ensures
