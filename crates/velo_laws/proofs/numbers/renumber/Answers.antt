use Rattle.velo_laws.proofs.OnRenumbered.{renumber_law}
use Rattle.velo_laws.proofs.OnRenumberedRuns.{renumbered_run_law}
use Rattle.velo_laws.proofs.numbers.renumber.Goals as goal

pub returns : goal.returns
returns c = record { judged = renumber_law; run = renumbered_run_law }
