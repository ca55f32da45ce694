use Rattle.std.proofs.Common.{ap, ◌∙◌}
use Rattle.velo_filter.specs.Left.{is_listed}
use Rattle.velo_filter.proofs.OnTables.{is_listed-nil}
use Rattle.velo_filter.proofs.labels.LabelSet.new.Goals as goal

pub returns : goal.returns
returns c = λ i n. (ap (λ xs. is_listed xs n) c.new.ensures.empty ∙ is_listed-nil n) i
