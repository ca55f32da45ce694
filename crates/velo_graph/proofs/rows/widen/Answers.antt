use Rattle.std.proofs.Common.{rules}
use Rattle.velo_graph.proofs.rows.widen.Goals as goal

pub returns-then-contains-clause-members : goal.returns-then-contains-clause-members
returns-then-contains-clause-members g c = search rules
