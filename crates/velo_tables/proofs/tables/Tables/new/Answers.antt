use Rattle.std.proofs.Common.{arith}
use Rattle.std.proofs.lemmas.Grind.{common_steps}
use Rattle.velo_tables.proofs.tables.Tables.new.Goals as goal

pub returns-clause-blank : goal.returns-clause-blank
returns-clause-blank c = grind (arith, common_steps)
