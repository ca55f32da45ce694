use Rattle.std.proofs.Common.{rules}
use Rattle.velo_logtext.proofs.write.put_kind.Goals as goal

pub returns-in-Release-clause-text : goal.returns-in-Release-clause-text
returns-in-Release-clause-text c = search rules
