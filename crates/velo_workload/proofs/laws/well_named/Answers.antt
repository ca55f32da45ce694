use Rattle.velo_workload.proofs.OnNaming.{meant_names}
use Rattle.velo_workload.proofs.laws.well_named.Goals as goal

pub returns : goal.returns
returns c = meant_names
