use Rattle.std.proofs.Common.{sym, subst, ap, ◌∙◌}
use Rattle.velo_traces.specs.Numbers.{IsRecorded}
use Rattle.velo_traces.specs.Places.{sizes}
use Rattle.velo_traces.proofs.OnRows.{IsRecorded-in, sizes-recorded_in}
use Rattle.velo_traces.proofs.table.ConflictTable.record.Goals as goal

pub returns-clause-recorded : goal.returns-clause-recorded
returns-clause-recorded c = subst (IsRecorded c.args.self.now c.args.event c.args.number) (sym c.raise.ensures) (IsRecorded-in c.args.self.now c.args.event c.args.number c.requires)

pub returns-clause-sizes : goal.returns-clause-sizes
returns-clause-sizes c = ap sizes c.raise.ensures ∙ sizes-recorded_in c.args.self.now c.args.event c.args.number
