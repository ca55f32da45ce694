use Rattle.std.proofs.Common.{sym, subst}
use Rattle.velo_tables.specs.LastAccesses.{IsRenamed}
use Rattle.velo_tables.proofs.OnRenamed.{IsRenamed-by}
use Rattle.velo_tables.proofs.tables.Tables.rename.Goals as goal

pub returns-clause-renamed : goal.returns-clause-renamed
returns-clause-renamed c =
    let before = c.args.self.now in
    subst (IsRenamed before c.args.heirs.now) (sym c.rename_in_place.ensures) (IsRenamed-by c.args.heirs.now before)
