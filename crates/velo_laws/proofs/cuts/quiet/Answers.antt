use Rattle.velo_laws.proofs.OnCut.{IsQuiet-from}
use Rattle.velo_laws.proofs.cuts.quiet.Goals as goal

pub returns : goal.returns
returns c = IsQuiet-from
