use Rattle.velo_laws.specs.Ordered.{only}
use Rattle.velo_filter.proofs.OnTurns.{IsWellFormed-rest}
use Rattle.velo_laws.proofs.ordered.well_formed.Goals as goal

pub returns : goal.returns
returns c = λ locks variables bounds log. IsWellFormed-rest (only locks variables) bounds log
