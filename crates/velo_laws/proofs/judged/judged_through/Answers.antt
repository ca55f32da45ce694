use Rattle.velo_laws.proofs.OnJudged.{judged_through_law}
use Rattle.velo_laws.proofs.judged.judged_through.Goals as goal

pub returns : goal.returns
returns c = judged_through_law
