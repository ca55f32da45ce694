use Rattle.std.proofs.Common.{◌≡◌, Some, sym, ◌∙◌, subst}
use Rattle.std.specs.Option.{option_to_list}
use Rattle.velo_tables.specs.LastAccesses.{LastAccesses, accesses_of}
use Rattle.velo_tables.specs.Others.{accesses_but_for, but_for, steps_of}
use Rattle.velo_tables.proofs.OnOthers.{steps_of_accesses}
use Rattle.velo_tables.proofs.tables.Tables.reads_are_of.Goals as goal

pub returns : goal.returns
unfolding accesses_but_for
returns c =
    let x = c.args.c.0 in
    let slot = Some c.args.slot in
    let steps = steps_of_accesses slot c.args.self.now x in
    let AreOf = λ (k : LastAccesses). steps_of slot (accesses_of k x) ≡ option_to_list (but_for slot (accesses_of k x).write) in (
      λ all. steps ∙ subst AreOf c.self.view_is (c.reads_are_of.ensures.0 all),
      λ none. c.reads_are_of.ensures.1 (subst AreOf (sym c.self.view_is) (sym steps ∙ none)),
    )
