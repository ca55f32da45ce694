use Rattle.velo_names.proofs.OnTexts.{reads_back}
use Rattle.velo_names.proofs.laws.read_back.Goals as goal

pub returns : goal.returns
returns c = reads_back
