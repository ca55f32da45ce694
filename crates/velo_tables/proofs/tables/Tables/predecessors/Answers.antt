use Rattle.std.proofs.Common.{◌∙◌, ap}
use Rattle.velo_tables.specs.LastAccesses.{steps_looked_up}
use Rattle.velo_tables.proofs.tables.Tables.predecessors.Goals as goal

pub returns : goal.returns
returns c = c.predecessors_into.ensures.items ∙ ap (steps_looked_up c.args.self.now) c.of.ensures
