use Rattle.velo_laws.proofs.OnCut.{cut_law}
use Rattle.velo_laws.proofs.cuts.cut.Goals as goal

pub returns : goal.returns
returns c = cut_law
