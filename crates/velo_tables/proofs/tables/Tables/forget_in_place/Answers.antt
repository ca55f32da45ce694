use Rattle.std.proofs.Common.{rules}
use Rattle.velo_tables.proofs.tables.Tables.forget_in_place.Goals as goal

pub returns : goal.returns
returns c = search rules
