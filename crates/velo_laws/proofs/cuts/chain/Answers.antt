use Rattle.velo_laws.proofs.OnCut.{chain_law}
use Rattle.velo_laws.proofs.cuts.chain.Goals as goal

pub returns : goal.returns
returns c = chain_law
