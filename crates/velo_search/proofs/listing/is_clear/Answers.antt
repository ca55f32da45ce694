use Rattle.std.proofs.Common.{◌<◌, length, sym, ◌∙◌, ap, arith, rules}
use Rattle.std.specs.Prelude.{IsTrue}
use Rattle.std.proofs.lemmas.List.Folds.{list_all_at}
use Rattle.std.proofs.lemmas.List.Sums.{list_all-from_AllPass}
use Rattle.velo_search.specs.declared.note.Note.{Note}
use Rattle.velo_search.specs.Notes.{is_harmless}
use Rattle.velo_search.proofs.OnKept.{AllBelow-next}
use Rattle.velo_search.proofs.listing.is_clear.Goals as goal

pub loop-place-preserved : goal.loop-place-preserved
loop-place-preserved c =
    let within : c.loop-place.place < length c.args.list.now = search rules in
    AllBelow-next (λ (note : Note). IsTrue (is_harmless c.args.held.now.locks.items c.args.thread c.args.kind note))
    c.args.list.now c.loop-place.place c.index-list-place.result within c.index-list-place.is c.loop-place.invariant (sym c.is_harmless.ensures ∙ c.if-not-is_harmless.false)

pub returns-then-not-is_harmless : goal.returns-then-not-is_harmless
returns-then-not-is_harmless c =
    let within : c.loop-place.place < length c.args.list.now = search rules in
    let p = is_harmless c.args.held.now.locks.items c.args.thread c.args.kind in
    sym (list_all_at p c.args.list.now c.loop-place.place c.index-list-place.result within (ap p (sym c.index-list-place.is) ∙ (sym c.is_harmless.ensures ∙ c.if-not-is_harmless.true)))

pub returns : goal.returns
returns c =
    sym (list_all-from_AllPass (is_harmless c.args.held.now.locks.items c.args.thread c.args.kind) c.args.list.now
    (λ k d l. c.loop-place.invariant k d (omega (arith, l, c.loop-place-test.false))))
