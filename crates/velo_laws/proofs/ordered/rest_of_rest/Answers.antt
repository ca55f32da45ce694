use Rattle.velo_laws.proofs.OnOrderedLabels.{rests}
use Rattle.velo_laws.proofs.ordered.rest_of_rest.Goals as goal

pub returns : goal.returns
returns c = λ labels locks variables log. rests labels locks variables log
