use Rattle.std.proofs.Common.{◌≡◌, ◌<◌, [], ⊎_elim, false, length, map, take, sym, ap, ◌∙◌, subst, arith, rules}
use Rattle.std.specs.Prelude.{slice_get, Contains}
use Rattle.std.proofs.lemmas.List.{length-map}
use Rattle.velo_movers.specs.Free.{is_private}
use Rattle.velo_search.specs.declared.note.Note.{Note}
use Rattle.velo_search.specs.Notes.{list_at, list_of, IsNoted, IsOfScript}
use Rattle.velo_search.specs.Runs.{script_of}
use Rattle.velo_search.proofs.OnNotes.{of_those}
use Rattle.velo_search.proofs.OnNoting.{list-here, noted-before, of_or_before}
use Rattle.velo_search.proofs.notes.Notes.of_scripts.Goals as goal

pub loop-thread-preserved : goal.loop-thread-preserved
loop-thread-preserved c =
    let scripts = map (λ v. v.items) c.args.scripts.now in
    let t = c.loop-thread.thread in
    let locks = c.args.locks in
    let inv = c.loop-thread.invariant in
    let own = c.index-scripts-thread.result in
    let old = c.loop-thread.notes in
    let new = c.note_script.new.self in
    let within : t < length c.args.scripts.now = search rules in
    let script : script_of scripts t ≡ c.deref.result.now = list-here (λ v. v.items) c.args.scripts.now t own within c.index-scripts-thread.is ∙ sym c.deref.ensures.value in
    record {
      each = of_or_before {P = λ u j l. is_private l ≡ false → IsNoted (list_at new (list_of l)) locks u (take j (script_of scripts u)) l} scripts t
          (λ u j l below here may. noted-before (list_at old (list_of l)) (list_at new (list_of l)) locks u (take j (script_of scripts u)) l (c.in_ok-note_script.ensures.before (list_of l)) (inv.each u j l below here may))
          (λ j l here may. subst (λ ks. IsNoted (list_at new (list_of l)) locks t (take j ks) l) (sym script) (c.in_ok-note_script.ensures.there j l (ap (λ ks. slice_get ks j) (sym script) ∙ here) may));
      only = λ n note there. ⊎_elim
          (λ before. inv.only n note before)
          (λ own. (t, subst (λ ks. IsOfScript locks t ks note) (sym script) own))
          (c.in_ok-note_script.ensures.only n note there);
    }

pub loop-thread-init : goal.loop-thread-init
loop-thread-init c = record {
  each = λ u j k below here may. absurd (omega (arith, below));
  only = λ n note there. absurd (none_there note (subst (λ xs. Contains xs note) (c.in_ok-notes.ensures n) there));
}
  where
    none_there : (note : Note) → Contains [] note → ⊥
    none_there note there = omega (arith, there.1)

pub returns : goal.returns
returns c = record {
  each = λ u j k here may.
      let below = of_those (map (λ v. v.items) c.args.scripts.now) u j k here in
      let long = length-map c.args.scripts.now (λ v. v.items) in
      c.loop-thread.invariant.each u j k (omega (arith, below, long, c.loop-thread-test.false)) here may;
  only = c.loop-thread.invariant.only;
}
