use Rattle.velo_logtext.proofs.OnLaws.{one_pair}
use Rattle.velo_logtext.proofs.laws.one_text.Goals as goal

pub returns-clause-pair : goal.returns-clause-pair
returns-clause-pair c bytes b d es fs p q = one_pair bytes b d es fs p q
