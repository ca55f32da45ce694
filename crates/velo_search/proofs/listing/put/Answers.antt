use Rattle.std.proofs.Common.{[], ◌∷◌, ◌++◌, inl, inr, ⊎_elim, refl, sym, ap, ◌∙◌, subst}
use Rattle.std.specs.Prelude.{Contains}
use Rattle.std.proofs.lemmas.List.Elements.{Contains-push, Contains-push_cases}
use Rattle.velo_search.specs.declared.note.Note.{Note}
use Rattle.velo_search.specs.Notes.{IsNoteOf}
use Rattle.velo_search.proofs.listing.put.Goals as goal

pub returns-clause-there : goal.returns-clause-there
returns-clause-there c =
    let note : Note = record { thread = c.args.thread; kind = c.args.kind; held = c.in_ok-held.held } in
    let items = c.push_reserved.ensures.items ∙ ap (λ xs. xs ++ note ∷ []) c.reserve.ensures.items in
    record {
      note = note;
      there = subst (λ xs. Contains xs note) (sym items) (Contains-push c.args.list.now.items note);
      is = record { thread = refl; kind = refl; locks = c.in_ok-held.ensures };
    }

pub returns-clause-only : goal.returns-clause-only
returns-clause-only c = λ note there.
    let own : Note = record { thread = c.args.thread; kind = c.args.kind; held = c.in_ok-held.held } in
    let items = c.push_reserved.ensures.items ∙ ap (λ xs. xs ++ own ∷ []) c.reserve.ensures.items in
    ⊎_elim
    (λ before. inl before)
    (λ is. inr (subst (IsNoteOf c.args.thread c.args.kind c.args.held.now.locks.items) is
    (record { thread = refl; kind = refl; locks = c.in_ok-held.ensures })))
    (Contains-push_cases c.args.list.now.items own note (subst (λ xs. Contains xs note) items there))
