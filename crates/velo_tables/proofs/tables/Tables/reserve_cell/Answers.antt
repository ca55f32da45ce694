use Rattle.std.proofs.Common.{subst}
use Rattle.velo_tables.specs.LastAccesses.{LastAccesses, no_accesses, IsUnchanged}
use Rattle.velo_tables.proofs.OnLastAccesses.{cells_grown, entries_room}
use Rattle.velo_tables.proofs.tables.Tables.reserve_cell.Goals as goal

pub returns-clause-same : goal.returns-clause-same
returns-clause-same c =
    let kept : LastAccesses = record { threads = c.self.inside.threads.items; cells = c.self.inside.cells } in
    subst (λ old. IsUnchanged old (record { threads = c.self.inside.threads.items; cells = c.reserve.new.self })) c.self.view_is
    (cells_grown c.reserve.result kept c.args.c.0 c.reserve.new.self c.reserve.ensures.ok c.reserve.ensures.err)

pub returns-clause-ok : goal.returns-clause-ok
returns-clause-ok c = entries_room c.reserve.result c.args.self.now no_accesses c.args.c.0 c.self.inside.cells c.reserve.new.self c.reserve.ensures.ok
