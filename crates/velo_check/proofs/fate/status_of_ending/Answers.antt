use Rattle.std.proofs.Common.{rules}
use Rattle.velo_check.proofs.fate.status_of_ending.Goals as goal

pub returns-in-Stuck : goal.returns-in-Stuck
returns-in-Stuck c = search rules

pub returns-in-Stuck-2 : goal.returns-in-Stuck-2
returns-in-Stuck-2 c = search rules
