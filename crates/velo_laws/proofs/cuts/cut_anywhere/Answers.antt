use Rattle.velo_laws.proofs.OnCut.{IsJudgedApart-quiet}
use Rattle.velo_laws.proofs.cuts.cut_anywhere.Goals as goal

pub returns : goal.returns
returns c = IsJudgedApart-quiet
