use Rattle.velo_laws.proofs.OnRestart.{restart_law}
use Rattle.velo_laws.proofs.restarts.judged_the_same.Goals as goal

pub returns : goal.returns
returns c = restart_law
