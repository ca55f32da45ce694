use Rattle.velo_laws.proofs.OnOrderedPlacesOfRests.{closing_law-labels}
use Rattle.velo_laws.proofs.ordered.same_closing_without_labels.Goals as goal

pub returns : goal.returns
returns c = λ labels locks variables bounds log well ordered. closing_law-labels labels locks variables log bounds well ordered
