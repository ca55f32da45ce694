use Rattle.std.proofs.Common.{rules}
use Rattle.velo_runtime.proofs.shared.close.Goals as goal

pub returns-in-Err-clause-back : goal.returns-in-Err-clause-back
returns-in-Err-clause-back c = search rules
