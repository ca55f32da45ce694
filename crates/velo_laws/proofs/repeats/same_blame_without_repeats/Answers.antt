use Rattle.velo_laws.proofs.OnRepeatsBlame.{repeat_blame_law}
use Rattle.velo_laws.proofs.repeats.same_blame_without_repeats.Goals as goal

pub returns : goal.returns
returns c = repeat_blame_law
