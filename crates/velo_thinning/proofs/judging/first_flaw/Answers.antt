use Rattle.std.proofs.Common.{◌≡◌, length, get_or, take, sym, ap, ◌∙◌, subst, arith}
use Rattle.std.proofs.Math.Seq.{take-length}
use Rattle.std.proofs.lemmas.List.{take_more}
use Rattle.std.proofs.lemmas.Option.{slice_get-get_or}
use Rattle.velo_events.specs.WellFormed.{IsWellFormed}
use Rattle.velo_traces.specs.Flaws.{IsFirstFlaw}
use Rattle.velo_traces.proofs.Past.{past}
use Rattle.velo_traces.proofs.OnFlaws.{MayFollow-from_no_flaw, flaw-not_MayFollow}
use Rattle.velo_heap.specs.Contents.{bounds_of, IsHeapOf}
use Rattle.velo_thinning.proofs.judging.first_flaw.Goals as goal

pub apply-requires : goal.apply-requires
apply-requires c =
    let log = c.as_slice-events.result.now in
    let n = c.loop-position.position in
    let stands = c.loop-position.invariant.stands in
    let none = sym (c.flaw_in.ensures (take n log) stands) ∙ c.in_default.is in
    record {
      trace = take n log;
      stands = stands;
      follows = MayFollow-from_no_flaw (bounds_of c.loop-position.heap) (take n log) (get_or log n past) stands.well_formed none;
    }

pub returns-in-Some-clause-flaw : goal.returns-in-Some-clause-flaw
returns-in-Some-clause-flaw c =
    let log = c.as_slice-events.result.now in
    let n = c.loop-position.position in
    let bounds = bounds_of c.loop-position.heap in
    let stands = c.loop-position.invariant.stands in
    let reason = sym (c.flaw_in.ensures (take n log) stands) ∙ c.in-Some.is in
    let found : IsFirstFlaw bounds log n c.in-Some.flaw = record {
      before = stands.well_formed;
      event = get_or log n past;
      here = slice_get-get_or log n past c.loop-position-test.true;
      does_not_follow = flaw-not_MayFollow bounds (take n log) (get_or log n past) c.in-Some.flaw stands.well_formed reason;
      reason = reason;
    } in
    subst (λ events. IsFirstFlaw c.args.config.now.bounds events n c.in-Some.flaw) c.as_slice-events.ensures
    (subst (λ b. IsFirstFlaw b log n c.in-Some.flaw) c.loop-position.invariant.bounds found)

pub loop-position-preserved : goal.loop-position-preserved
loop-position-preserved c =
    let log = c.as_slice-events.result.now in
    let n = c.loop-position.position in
    record {
      bounds = c.apply.ensures.bounds ∙ c.loop-position.invariant.bounds;
      stands = subst (IsHeapOf c.apply.new.self) (sym (take_more log n past c.loop-position-test.true)) (c.apply.ensures.next (take n log) c.loop-position.invariant.stands);
    }

pub returns-clause-well_formed : goal.returns-clause-well_formed
returns-clause-well_formed c =
    let log = c.as_slice-events.result.now in
    let at : c.loop-position.position ≡ length log = omega (arith, c.loop-position.auto.position-end, c.loop-position-test.false) in
    subst (IsWellFormed c.args.config.now.bounds) c.as_slice-events.ensures
    (subst (λ b. IsWellFormed b log) c.loop-position.invariant.bounds
    (subst (IsWellFormed (bounds_of c.loop-position.heap)) (ap (λ n. take n log) at ∙ take-length log) c.loop-position.invariant.stands.well_formed))
