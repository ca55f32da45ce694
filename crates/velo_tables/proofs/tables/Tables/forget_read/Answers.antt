use Rattle.std.proofs.Common.{sym, subst}
use Rattle.velo_tables.specs.LastAccesses.{IsReadForgotten}
use Rattle.velo_tables.proofs.OnForgotten.{IsReadForgotten-after}
use Rattle.velo_tables.proofs.tables.Tables.forget_read.Goals as goal

pub returns-clause-forgotten : goal.returns-clause-forgotten
returns-clause-forgotten c =
    let before = c.args.self.now in
    subst (IsReadForgotten before c.args.c.0 c.args.t.0) (sym c.forget_in_place.ensures) (IsReadForgotten-after before c.args.c.0 c.args.t.0)
