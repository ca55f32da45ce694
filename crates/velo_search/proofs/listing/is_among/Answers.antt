use Rattle.std.proofs.Common.{◌<◌, length, refl, sym, ◌∙◌, arith, rules}
use Rattle.std.proofs.lemmas.Bool.{false≢true}
use Rattle.std.proofs.lemmas.List.Elements.{All-contains}
use Rattle.velo_search.specs.declared.note.Note.{Note}
use Rattle.velo_search.specs.Notes.{IsNoteOf}
use Rattle.velo_search.proofs.OnKept.{AllBelow-next}
use Rattle.velo_search.proofs.listing.is_among.Goals as goal

pub loop-place-preserved : goal.loop-place-preserved
loop-place-preserved c =
    let within : c.loop-place.place < length c.args.list.now = search rules in
    AllBelow-next (λ (note : Note). ¬ IsNoteOf c.args.thread c.args.kind c.args.held.now.locks.items note)
    c.args.list.now c.loop-place.place c.index-list-place.result within c.index-list-place.is c.loop-place.invariant
    (λ is. false≢true (sym c.if-is_note_of.false ∙ c.is_note_of.ensures.1 is))

pub returns-then-is_note_of : goal.returns-then-is_note_of
returns-then-is_note_of c = (
  λ _.
      let within : c.loop-place.place < length c.args.list.now = search rules in
      record {
        note = c.index-list-place.result;
        there = (c.loop-place.place, within, sym c.index-list-place.is);
        is = c.is_note_of.ensures.0 c.if-is_note_of.true;
      },
  λ _. refl,
)

pub returns : goal.returns
returns c = (
  λ h. absurd (false≢true h),
  λ w. absurd (All-contains (λ (other : Note). ¬ IsNoteOf c.args.thread c.args.kind c.args.held.now.locks.items other) c.args.list.now w.note
      (λ k d l. c.loop-place.invariant k d (omega (arith, l, c.loop-place-test.false))) w.there w.is),
)
