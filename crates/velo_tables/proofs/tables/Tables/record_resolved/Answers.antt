use Rattle.std.proofs.Common.{sym, subst}
use Rattle.velo_tables.specs.LastAccesses.{IsRecorded}
use Rattle.velo_tables.proofs.OnLastAccesses.{IsRecorded-kept_after}
use Rattle.velo_tables.proofs.tables.Tables.record_resolved.Goals as goal

pub returns-clause-recorded : goal.returns-clause-recorded
returns-clause-recorded c =
    let before = c.args.self.now in
    subst (IsRecorded before c.args.event.now c.args.step) (sym c.record_in_place.ensures) (IsRecorded-kept_after before c.args.event.now c.args.step c.requires)
