use Rattle.std.proofs.Common.{◌++◌, ◌∷◌, [], length, get_or, sym, subst, ap, ◌∙◌}
use Rattle.std.specs.Prelude.{slice_get, slice_index}
use Rattle.std.proofs.lemmas.Option.{slice_get-get_or}
use Rattle.velo_traces.proofs.Past.{past}
use Rattle.velo_traces.specs.Numbers.{HasNumbers}
use Rattle.velo_certify.specs.Witness.{AreMarks}
use Rattle.velo_certify.proofs.OnWitness.{marks-greatest, marks-numbered, AreMarks-next}
use Rattle.velo_certify.proofs.witness.mark_next.Goals as goal
use Rattle.velo_certify.proofs.witness.mark_next.Goals.{then-at-begin, else-at-begin}

pub returns-clause-numbers : goal.returns-clause-numbers
returns-clause-numbers c =
    let trace = c.args.events.now in let marks = c.args.marks.now.items in let number = c.if-at-begin.number in
    let here = ap (slice_get trace) c.requires.at ∙ slice_get-get_or trace c.args.at past c.requires.within in
    subst (λ xs. HasNumbers trace (slice_index xs) c.record.new.self) (sym c.push_reserved.ensures.items)
    (c.record.ensures.recorded.each trace (length marks) (slice_index marks) (slice_index (marks ++ number ∷ [])) here (marks-numbered marks number) c.requires.numbers)

pub returns-clause-marks : goal.returns-clause-marks
returns-clause-marks c =
    let trace = c.args.events.now in let marks = c.args.marks.now.items in let number = c.if-at-begin.number in
    let here = ap (slice_get trace) c.requires.at ∙ slice_get-get_or trace c.args.at past c.requires.within in
    subst (AreMarks trace c.args.begin) (sym c.push_reserved.ensures.items)
    (AreMarks-next trace c.args.begin marks c.look_up-greatest.result number
    (marks-greatest trace (get_or trace c.args.at past) marks c.look_up-greatest.result here (c.look_up-greatest.ensures.each trace (slice_index marks) c.requires.numbers))
    (λ same. elim c.if-at-begin.branch [ then-at-begin w ↦ w.number-is | else-at-begin w ↦ absurd (w.if-at-begin.false (sym c.requires.at ∙ same)) ])
    (λ other. elim c.if-at-begin.branch [ then-at-begin w ↦ absurd (other (c.requires.at ∙ w.if-at-begin.true)) | else-at-begin w ↦ w.number-is ])
    c.requires.marks)

pub look_up-greatest-requires : goal.look_up-greatest-requires
look_up-greatest-requires c = c.requires.names.each c.args.at _ c.requires.within (slice_get-get_or c.args.events.now c.args.at past c.requires.within)

pub record-requires : goal.record-requires
record-requires c = c.requires.names.each c.args.at _ c.requires.within (slice_get-get_or c.args.events.now c.args.at past c.requires.within)
