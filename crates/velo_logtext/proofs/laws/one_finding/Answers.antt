use Rattle.velo_logtext.proofs.OnLaws.{one_finding_is}
use Rattle.velo_logtext.proofs.laws.one_finding.Goals as goal

pub returns : goal.returns
returns c limit bytes f g p q = one_finding_is limit bytes f g p q
