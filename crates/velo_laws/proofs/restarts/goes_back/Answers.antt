use Rattle.velo_laws.proofs.OnRestart.{goes_back_law}
use Rattle.velo_laws.proofs.restarts.goes_back.Goals as goal

pub returns : goal.returns
returns c = goes_back_law
