use Rattle.std.proofs.Common.{rules}
use Rattle.velo_tables.proofs.cells.but_for.Goals as goal

pub returns-in-Some-Some : goal.returns-in-Some-Some
returns-in-Some-Some c = search rules

pub returns-in_default : goal.returns-in_default
returns-in_default c = search rules
