use Rattle.velo_laws.proofs.OnRepeats.{repeat_law}
use Rattle.velo_laws.proofs.repeats.same_cycles_without_repeats.Goals as goal

pub returns : goal.returns
returns c = λ goes log repeats. repeat_law goes log repeats
