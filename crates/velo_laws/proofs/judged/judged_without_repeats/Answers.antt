use Rattle.velo_laws.proofs.OnJudgedRepeats.{judged_repeats_law}
use Rattle.velo_laws.proofs.judged.judged_without_repeats.Goals as goal

pub returns : goal.returns
returns c = judged_repeats_law
