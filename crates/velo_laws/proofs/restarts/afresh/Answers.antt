use Rattle.velo_laws.proofs.OnFresh.{fresh_law}
use Rattle.velo_laws.proofs.restarts.afresh.Goals as goal

pub returns : goal.returns
returns c = fresh_law
