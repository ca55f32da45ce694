use Rattle.velo_laws.proofs.OnSomePrologue.{has_prologue_law}
use Rattle.velo_laws.proofs.restarts.has_prologue.Goals as goal

pub returns : goal.returns
returns c = has_prologue_law
