use Rattle.std.proofs.Common.{◌≡◌, ◌+◌, length, get_or, take, refl, sym, ap, ◌∙◌, subst, arith}
use Rattle.std.proofs.Math.Seq.{take-length}
use Rattle.std.proofs.lemmas.List.{take_more}
use Rattle.velo_laws.specs.Length.{counted}
use Rattle.velo_laws.proofs.OnDropped.{take-none}
use Rattle.velo_traces.proofs.Past.{past}
use Rattle.velo_filter.specs.Tables.{marked}
use Rattle.velo_thinning.specs.Counting.{AreMarked, marked_after}
use Rattle.velo_thinning.proofs.OnCounting.{marked-start, marked-next, variables-marked, written_back, length-marked}
use Rattle.velo_thinning.proofs.counting.count_variables.Goals as goal

pub loop-event-init : goal.loop-event-init
loop-event-init c = record {
  marks = subst (λ es. AreMarked es c.in_ok-marks.marks.items) (sym (take-none c.args.events.now))
      (marked-start 65536 refl c.in_ok-marks.marks.items (c.in_ok-marks.ensures.items_if_clones_equal (λ y same. same)));
}

pub loop-event-preserved : goal.loop-event-preserved
loop-event-preserved c =
    let events = c.args.events.now in
    let i = c.loop-event.event-index in
    let old = c.loop-event.marks in
    let k = (get_or events i past).kind in
    let next = marked-next (take i events) (get_or events i past) old.items c.loop-event.invariant.marks in
    let new : c.mark.new.marks ≡ marked_after old.items k = c.mark.ensures ∙ ap (λ xs. marked_after xs k) c.deref_mut.ensures.value in
    let size : length c.mark.new.marks ≡ old.len = ap length new ∙ (length-marked k old.items ∙ (sym (ap length c.deref_mut.ensures.value) ∙ c.deref_mut.ensures.len)) in
    record {
      marks = subst (AreMarked (take (i + 1) events)) (sym (written_back c.mark.new.marks old.items old.len size ∙ new))
          (subst (λ es. AreMarked es (marked_after old.items k)) (sym (take_more events i past c.loop-event-test.true)) next);
    }

pub returns : goal.returns
returns c =
    let events = c.args.events.now in
    let at : c.loop-event.event-index ≡ length events = omega (arith, c.loop-event.auto.event-index-end, c.loop-event-test.false) in
    c.count_marked.ensures
    ∙ (ap (λ marks. counted 65536 (marked marks)) c.deref.ensures.value
    ∙ variables-marked events c.loop-event.marks.items
    (subst (λ es. AreMarked es c.loop-event.marks.items) (ap (λ n. take n events) at ∙ take-length events) c.loop-event.invariant.marks))
