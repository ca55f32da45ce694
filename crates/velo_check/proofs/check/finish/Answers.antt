use Rattle.std.proofs.Common.{rules}
use Rattle.velo_check.proofs.check.finish.Goals as goal

pub returns : goal.returns
returns g c = search rules
