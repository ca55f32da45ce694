use Rattle.std.proofs.Common.{rules}
use Rattle.velo_tables.proofs.tables.Tables.predecessors_into.Goals as goal

pub returns-in_default : goal.returns-in_default
returns-in_default c = search rules
