use Rattle.velo_tables.proofs.OnClocks.{opens}
use Rattle.velo_blame.proofs.clocks.Clocks.new.Goals as goal

pub returns-clause-start : goal.returns-clause-start
returns-clause-start c = λ trace. opens c.in_ok-tables.tables trace c.in_ok-tables.ensures.blank
