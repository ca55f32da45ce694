use Rattle.std.proofs.Common.{◌≡◌, ◌++◌, ◌∷◌, [], sym, ap, ◌∙◌, subst}
use Rattle.velo_finding.specs.declared.entries.Entry.{Entry}
use Rattle.velo_finding.specs.Entries.{AreEntries, found_by}
use Rattle.velo_finding.proofs.OnEntries.{AreEntries-push}
use Rattle.velo_finding.proofs.entries.add_entry.Goals as goal

pub returns : goal.returns
returns c = λ found w.
    let entry : Entry = record { label = c.args.label; round = c.args.round; tally = c.tally_of-tally.result } in
    subst (AreEntries c.args.log.now.events (found ++ found_by entry ∷ [])) (sym (c.push_reserved.ensures.items ∙ ap (λ xs. xs ++ entry ∷ []) c.reserve.ensures.items))
    (AreEntries-push c.args.log.now.events found c.args.entries.now.items entry c.tally_of-tally.ensures w)
