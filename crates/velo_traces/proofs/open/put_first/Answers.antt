use Rattle.std.proofs.Common.{rules}
use Rattle.velo_traces.proofs.open.put_first.Goals as goal

pub returns-clause-items : goal.returns-clause-items
returns-clause-items c = search rules
