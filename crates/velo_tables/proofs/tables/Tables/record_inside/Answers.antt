use Rattle.std.proofs.Common.{Some, sym, subst}
use Rattle.velo_tables.specs.LastAccesses.{IsRecorded}
use Rattle.velo_tables.proofs.OnLastAccesses.{IsRecorded-inside}
use Rattle.velo_tables.proofs.tables.Tables.record_inside.Goals as goal

pub returns-clause-recorded : goal.returns-clause-recorded
returns-clause-recorded c =
    let before = c.args.self.now in
    subst (IsRecorded before c.args.event.now (Some c.args.step)) (sym c.record_beside.ensures) (IsRecorded-inside before c.args.event.now c.args.step c.requires.room c.requires.current)
