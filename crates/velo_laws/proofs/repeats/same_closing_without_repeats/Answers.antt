use Rattle.velo_laws.proofs.OnRepeatsClosing.{repeat_closing_law}
use Rattle.velo_laws.proofs.repeats.same_closing_without_repeats.Goals as goal

pub returns : goal.returns
returns c = λ goes log repeats. repeat_closing_law goes log repeats
