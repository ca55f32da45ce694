use Rattle.std.proofs.Common.{length, sym, subst}
use Rattle.velo_events.specs.WellFormed.{IsWellFormed}
use Rattle.velo_traces.specs.Places.{AllHavePlaces}
use Rattle.velo_blame.proofs.OnAnswers.{AllHavePlaces-well_formed}
use Rattle.velo_audit.specs.Marks.{AreMarks}
use Rattle.velo_audit.proofs.OnMarks.{AreMarksSoFar-start, AreMarks-end}
use Rattle.velo_audit.proofs.marks.marks_of.Goals as goal

pub loop-thread-init : goal.loop-thread-init
loop-thread-init c =
    let events = c.as_slice-events.result.now in
    let well = subst (IsWellFormed c.args.bounds) (sym c.as_slice-events.ensures) c.requires in
    let places = AllHavePlaces-well_formed c.args.bounds events (length events) well in
    record {
      known = subst (λ s. AllHavePlaces s events (length events)) (sym c.in_ok-reach.ensures.known) places;
      others = subst (λ s. AllHavePlaces s events (length events)) (sym c.in_ok-reach.ensures.others) places;
      marks = AreMarksSoFar-start events (record { blamed = c.in_ok-blamed.blamed; around = c.in_ok-around.around }) (c.in_ok-blamed.ensures.items_if_clones_equal (λ y e. e)) (c.in_ok-around.ensures.items_if_clones_equal (λ y e. e));
    }

pub loop-thread-preserved : goal.loop-thread-preserved
loop-thread-preserved c =
    let events = c.as_slice-events.result.now in
    record {
      known = subst (λ s. AllHavePlaces s events (length events)) (sym c.in_ok-mark_thread.ensures.known) c.loop-thread.invariant.known;
      others = subst (λ s. AllHavePlaces s events (length events)) (sym c.in_ok-mark_thread.ensures.others) c.loop-thread.invariant.others;
      marks = c.in_ok-mark_thread.ensures.marks;
    }

pub returns : goal.returns
returns c =
    let events = c.as_slice-events.result.now in
    let well = subst (IsWellFormed c.args.bounds) (sym c.as_slice-events.ensures) c.requires in
    subst (λ es. AreMarks es c.loop-thread.marks) c.as_slice-events.ensures
    (AreMarks-end c.args.bounds events c.loop-thread.thread c.loop-thread.marks c.loop-thread-test.false well c.loop-thread.invariant.marks)
