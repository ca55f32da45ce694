use Rattle.std.proofs.Common.{◌≡◌, ℕ, ◌+◌, ◌++◌, Bool, List, length, length-set, set, take, drop, sym, ap, ◌∙◌, subst, arith}
use Rattle.std.proofs.Math.Seq.{take-length}
use Rattle.std.proofs.lemmas.List.{take-append-le}
use Rattle.velo_filter.specs.Tables.{marked}
use Rattle.velo_thinning.specs.Repeating.{AreExactly}
use Rattle.velo_thinning.specs.Finding.{AreFound}
use Rattle.velo_thinning.proofs.OnFinding.{marks-start, marks-next, marks-all}
use Rattle.velo_thinning.proofs.OnRepeating.{repeats_of}
use Rattle.velo_thinning.proofs.finder.repeats.Goals as goal

-- what is written back to a list through a slice of all of it
written_back : (new old : List Bool) (n : ℕ) → length new ≡ n → take n (new ++ drop (length new) old) ≡ new
written_back new old n size =
    ap (λ k. take k (new ++ drop (length new) old)) (sym size) ∙ (take-append-le (length new) new (drop (length new) old) (omega arith) ∙ take-length new)

pub loop-position-init : goal.loop-position-init
loop-position-init c = record {
  found = c.in_ok-finder.ensures c.as_slice-events.result.now;
  marks = marks-start c.as_slice-events.result.now _ (c.in_ok-marks.ensures.items_if_clones_equal (λ y same. same));
}

pub loop-position-preserved : goal.loop-position-preserved
loop-position-preserved c =
    let events = c.as_slice-events.result.now in
    let n = c.loop-position.position in
    let old = c.loop-position.marks in
    let next = marks-next events n old.items c.is_repeat.result c.loop-position-test.true c.loop-position.invariant.marks c.is_repeat.ensures in
    let new : c.mark.new.marks ≡ set old.items n c.is_repeat.result = c.mark.ensures ∙ ap (λ xs. set xs n c.is_repeat.result) c.deref_mut.ensures.value in
    let size : length c.mark.new.marks ≡ old.len = ap length new ∙ (length-set old.items n c.is_repeat.result ∙ (sym (ap length c.deref_mut.ensures.value) ∙ c.deref_mut.ensures.len)) in
    record {
      found = c.take_in.ensures;
      marks = subst (AreFound events (n + 1)) (sym (written_back c.mark.new.marks old.items old.len size ∙ new)) next;
    }

pub returns-clause-exact : goal.returns-clause-exact
returns-clause-exact c =
    let events = c.as_slice-events.result.now in
    let at : c.loop-position.position ≡ length events = omega (arith, c.loop-position.auto.position-end, c.loop-position-test.false) in
    subst (AreExactly (marked c.loop-position.marks.items)) c.as_slice-events.ensures
    (marks-all events c.loop-position.marks.items (subst (λ n. AreFound events n c.loop-position.marks.items) at c.loop-position.invariant.marks))

pub returns-clause-repeats : goal.returns-clause-repeats
returns-clause-repeats c = repeats_of (marked c.loop-position.marks.items) c.args.log.now.events (returns-clause-exact c)
