use Rattle.std.proofs.Common.{rules}
use Rattle.velo_rows.proofs.set_row.SetRowAncestors.clear.Goals as goal

pub returns-clause-members : goal.returns-clause-members
returns-clause-members c = search rules
