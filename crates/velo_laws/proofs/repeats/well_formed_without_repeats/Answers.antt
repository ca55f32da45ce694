use Rattle.velo_laws.proofs.OnRepeatsRuns.{repeat_run_law}
use Rattle.velo_laws.proofs.repeats.well_formed_without_repeats.Goals as goal

pub returns : goal.returns
returns c = repeat_run_law
