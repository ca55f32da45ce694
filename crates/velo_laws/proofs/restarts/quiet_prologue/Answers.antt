use Rattle.velo_laws.proofs.OnRestart.{prologue_law}
use Rattle.velo_laws.proofs.restarts.quiet_prologue.Goals as goal

pub returns : goal.returns
returns c = prologue_law
