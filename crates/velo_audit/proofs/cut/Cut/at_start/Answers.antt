use Rattle.std.proofs.Common.{refl}
use Rattle.velo_audit.proofs.OnCuts.{IsCut-start}
use Rattle.velo_audit.proofs.cut.Cut.at_start.Goals as goal

pub returns : goal.returns
returns c left log = IsCut-start left log _ refl c.in_ok-marks.ensures c.new.ensures
