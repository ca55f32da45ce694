use Rattle.velo_laws.proofs.OnRestart.{goes_on_law}
use Rattle.velo_laws.proofs.restarts.goes_on.Goals as goal

pub returns : goal.returns
returns c = goes_on_law
