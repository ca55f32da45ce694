use Rattle.std.proofs.Common.{◌≢◌, ◌∙◌, get_or, sym, arith}
use Rattle.std.proofs.lemmas.Bool.{eqb-true, eqb-false}
use Rattle.std.proofs.lemmas.Option.{slice_get-get_or}
use Rattle.velo_traces.proofs.Past.{past}
use Rattle.velo_certify.proofs.OnWitness.{IsWitness-by, IsWitness-threads, IsWitness-conflict, IsWitness-marked}
use Rattle.velo_certify.proofs.witness.is_witness.Goals as goal
use Rattle.velo_certify.proofs.witness.is_witness.Goals.{then-marks-at-eq0-via-then-marks-at-eq0, then-marks-at-eq0-via-else-marks-at-eq0+then-at-begin, then-marks-at-eq0-via-else-marks-at-eq0+else-at-begin+then-eq}

pub returns-then-marks-at-eq0-clause-no : goal.returns-then-marks-at-eq0-clause-no
returns-then-marks-at-eq0-clause-no c = λ v.
    let trace = c.args.events.now in let p = c.args.position in let at = c.args.at in
    let e = get_or trace at past in let f = get_or trace p past in
    let there = slice_get-get_or trace at past (omega (arith, c.requires.before, c.requires.within)) in
    let here = slice_get-get_or trace p past c.requires.within in
    let marked = IsWitness-marked trace c.args.begin p at c.args.marks.now c.requires.marks c.requires.count v in
    let differ : e.thread.0 ≢ f.thread.0 = IsWitness-threads trace c.args.begin p at e f there here v in
    elim c.then-marks-at-eq0.branch [
      | then-marks-at-eq0-via-then-marks-at-eq0 w ↦ absurd (let some = marked.0 in let none = w.if-marks-at-eq0.true in omega (arith, some, none))
      | then-marks-at-eq0-via-else-marks-at-eq0+then-at-begin w ↦ absurd (marked.1 w.if-at-begin.true)
      | then-marks-at-eq0-via-else-marks-at-eq0+else-at-begin+then-eq w ↦ absurd (differ (eqb-true _ _ (sym w.eq.ensures ∙ w.if-eq.true)))
    ]

pub returns-clause-yes : goal.returns-clause-yes
returns-clause-yes c = λ h.
    let trace = c.args.events.now in let p = c.args.position in let at = c.args.at in
    let e = get_or trace at past in let f = get_or trace p past in
    let there = slice_get-get_or trace at past (omega (arith, c.requires.before, c.requires.within)) in
    let here = slice_get-get_or trace p past c.requires.within in
    let none = c.if-marks-at-eq0.false in
    IsWitness-by trace c.args.begin p at e f there here c.args.marks.now c.requires.marks c.requires.before (omega (arith, none)) c.if-at-begin.false
    (eqb-false _ _ (sym c.eq.ensures ∙ c.if-eq.false)) (sym c.conflicts.ensures ∙ h)

pub returns-clause-no : goal.returns-clause-no
returns-clause-no c = λ v.
    let trace = c.args.events.now in let p = c.args.position in let at = c.args.at in
    let e = get_or trace at past in let f = get_or trace p past in
    let there = slice_get-get_or trace at past (omega (arith, c.requires.before, c.requires.within)) in
    let here = slice_get-get_or trace p past c.requires.within in
    c.conflicts.ensures ∙ IsWitness-conflict trace c.args.begin p at e f there here v
