use Rattle.std.proofs.Common.{rules}
use Rattle.velo_runtime.proofs.shared.Shared.open.Goals as goal

pub returns-in_default-clause-cause : goal.returns-in_default-clause-cause
returns-in_default-clause-cause c = search rules
