use Rattle.std.proofs.Common.{◌≡◌, None, length, get_or, take, sym, ◌∙◌, subst, arith}
use Rattle.std.proofs.Math.Seq.{take-length}
use Rattle.std.proofs.lemmas.List.{take_more}
use Rattle.std.proofs.lemmas.Option.{slice_get-get_or}
use Rattle.velo_events.specs.WellFormed.{IsWellFormed}
use Rattle.velo_events.proofs.OnWellFormed.{IsWellFormed-push}
use Rattle.velo_traces.specs.Flaws.{flaw_of, IsFirstFlaw}
use Rattle.velo_traces.proofs.Past.{past}
use Rattle.velo_traces.proofs.OnFlaws.{MayFollow-from_no_flaw, flaw-not_MayFollow}
use Rattle.velo_traces.proofs.judge.well_formed.Goals as goal

pub returns-in-Some-clause-err : goal.returns-in-Some-clause-err
returns-in-Some-clause-err c =
    let trace = c.as_slice-events.result.now in
    let i = c.loop-i.i in
    let reason = sym c.in-Some.ensures in
    let found : IsFirstFlaw c.args.bounds trace i c.in-Some.flaw = record {
      before = c.loop-i.invariant;
      event = get_or trace i past;
      here = slice_get-get_or trace i past c.loop-i-test.true;
      does_not_follow = flaw-not_MayFollow c.args.bounds (take i trace) (get_or trace i past) c.in-Some.flaw c.loop-i.invariant reason;
      reason = reason;
    } in
    subst (λ events. IsFirstFlaw c.args.bounds events i c.in-Some.flaw) c.as_slice-events.ensures found

pub loop-i-preserved : goal.loop-i-preserved
loop-i-preserved c =
    let trace = c.as_slice-events.result.now in
    let i = c.loop-i.i in
    let none : flaw_of c.args.bounds (take i trace) (get_or trace i past) ≡ None = sym c.in_default.ensures in
    subst (IsWellFormed c.args.bounds) (sym (take_more trace i past c.loop-i-test.true))
    (IsWellFormed-push c.args.bounds (take i trace) (get_or trace i past) c.loop-i.invariant
    (MayFollow-from_no_flaw c.args.bounds (take i trace) (get_or trace i past) c.loop-i.invariant none))

pub returns-clause-ok : goal.returns-clause-ok
returns-clause-ok c =
    let trace = c.as_slice-events.result.now in
    let at : c.loop-i.i ≡ length trace = omega arith in
    subst (IsWellFormed c.args.bounds) (take-length trace ∙ c.as_slice-events.ensures)
    (subst (λ n. IsWellFormed c.args.bounds (take n trace)) at c.loop-i.invariant)
