use Rattle.std.proofs.Common.{◌≡◌, ◌<◌, ◌∙◌, ⊎_elim, inr, false, length, take, Some, sym, ap, subst, arith, rules}
use Rattle.std.specs.Prelude.{slice_index_or}
use Rattle.std.proofs.lemmas.Option.{slice_get-get_or, slice_get_within}
use Rattle.std.proofs.lemmas.List.{get_or_default}
use Rattle.velo_movers.specs.Free.{is_private}
use Rattle.velo_search.specs.Free.{AreHeld}
use Rattle.velo_search.specs.Notes.{list_at, list_of, IsNoted}
use Rattle.velo_search.proofs.OnNoting.{blank_kind, noted-among, noted-before, of_script, at_or_before, take-next_kind}
use Rattle.velo_search.proofs.notes.Notes.note_script.Goals as goal

pub loop-place-preserved : goal.loop-place-preserved
loop-place-preserved c =
    let script = c.args.script.now in
    let t = c.args.thread in
    let locks = c.args.locks in
    let i = c.loop-place.place in
    let k = slice_index_or script i blank_kind in
    let old = c.loop-place.self in
    let new = c.note.new.self in
    let inv = c.loop-place.invariant in
    let within : i < length script = search rules in
    let is : k ≡ slice_index_or script i k = get_or_default script i blank_kind k within in
    record {
      before = λ n note there. c.in_ok-note.ensures.before n note (inv.before n note there);
      there = at_or_before {P = λ j l. is_private l ≡ false → IsNoted (list_at new (list_of l)) locks t (take j script) l} script i k within is
          (λ j l below here may. noted-before (list_at old (list_of l)) (list_at new (list_of l)) locks t (take j script) l (c.in_ok-note.ensures.before (list_of l)) (inv.there j l below here may))
          (λ may. noted-among (list_at new (list_of k)) locks t (take i script) k c.loop-place.held.locks.items inv.held (c.in_ok-note.ensures.there may));
      only = λ n note there. ⊎_elim
          (λ before. inv.only n note before)
          (λ own. inr (of_script script locks t i k c.loop-place.held.locks.items note (slice_get-get_or script i k within ∙ ap Some (sym is)) inv.held own))
          (c.in_ok-note.ensures.only n note there);
      held = subst (λ ks. AreHeld locks ks c.take_in.new.self.locks.items) (sym (take-next_kind script i k within is)) (c.take_in.ensures locks (take i script) inv.held);
    }

pub returns-clause-there : goal.returns-clause-there
returns-clause-there c = λ i k here may.
    let within = slice_get_within c.args.script.now i k here in
    c.loop-place.invariant.there i k (omega (arith, within, c.loop-place-test.false)) here may
