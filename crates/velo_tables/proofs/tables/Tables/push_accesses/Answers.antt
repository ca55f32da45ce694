use Rattle.std.proofs.Common.{◌++◌, sym, ◌∙◌, ap}
use Rattle.velo_tables.specs.LastAccesses.{LastAccesses, accesses_of}
use Rattle.velo_tables.specs.Others.{steps_of}
use Rattle.velo_tables.proofs.OnOthers.{steps_of_accesses}
use Rattle.velo_tables.proofs.tables.Tables.push_accesses.Goals as goal

pub returns-clause-items : goal.returns-clause-items
returns-clause-items c =
    let x = c.args.c.0 in
    c.push_accesses.ensures.items
    ∙ ap (λ rest. c.args.list.now.items ++ rest)
    (ap (λ (k : LastAccesses). steps_of c.args.slot (accesses_of k x)) c.self.view_is ∙ sym (steps_of_accesses c.args.slot c.args.self.now x))
