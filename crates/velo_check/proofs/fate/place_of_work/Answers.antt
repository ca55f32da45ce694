use Rattle.std.proofs.Common.{rules}
use Rattle.velo_check.proofs.fate.place_of_work.Goals as goal

pub returns-in-Unmatched : goal.returns-in-Unmatched
returns-in-Unmatched c = search rules
