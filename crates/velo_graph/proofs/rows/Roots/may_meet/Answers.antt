use Rattle.std.proofs.Common.{rules}
use Rattle.velo_graph.proofs.rows.Roots.may_meet.Goals as goal

pub returns-in-Many : goal.returns-in-Many
returns-in-Many g c = search rules
