use Rattle.std.proofs.Common.{rules}
use Rattle.velo_tables.proofs.tables.Tables.record_beside.Goals as goal

pub returns-in-Fork : goal.returns-in-Fork
returns-in-Fork c = search rules
