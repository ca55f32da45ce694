use Rattle.std.proofs.Common.{◌≡◌, ◌<◌, ◌≤◌, Some, get_or, length, sym, ◌∙◌, arith}
use Rattle.std.specs.Prelude.{slice_get}
use Rattle.std.proofs.lemmas.Bool.{false≢true}
use Rattle.std.proofs.lemmas.Grind.{common_steps}
use Rattle.std.proofs.lemmas.Option.{slice_get-get_or}
use Rattle.velo_traces.proofs.Past.{past}
use Rattle.velo_predict.specs.Predictions.IsForetold.{Known, Unknown}
use Rattle.velo_predict.proofs.OnCourses.{next_event, none_foretold, other_foretold, unsure_after, sure_after}
use Rattle.velo_predict.proofs.OnDifferences.{release_differs_from_none, tells_differ}
use Rattle.velo_predict.proofs.judge.step_by.Goals as goal

pub returns-then-gives_up-clause-foretold : goal.returns-then-gives_up-clause-foretold
returns-then-gives_up-clause-foretold c = λ trace stands tells.
    (Unknown (stands.unsure c.if-course.true) (sym c.gives_up.ensures ∙ c.if-gives_up.true), unsure_after c.args.log.now trace c.args.event c.args.course stands c.if-course.true)

pub returns-then-place-log-clause-not_foretold : goal.returns-then-place-log-clause-not_foretold
returns-then-place-log-clause-not_foretold c = λ trace stands.
    let over : length c.args.log.now ≤ c.next_of-place.result = grind (arith, common_steps) in
    none_foretold c.args.log.now trace c.args.event c.args.course stands c.next_of-place.result c.if-course.false c.next_of-place.ensures.passed over

pub returns-then-not-are_of_one_action-clause-not_foretold : goal.returns-then-not-are_of_one_action-clause-not_foretold
returns-then-not-are_of_one_action-clause-not_foretold c = λ trace stands.
    let next = get_or c.args.log.now c.next_of-place.result past in
    let within : c.next_of-place.result < length c.args.log.now = grind (arith, common_steps) in
    let here : slice_get c.args.log.now c.next_of-place.result ≡ Some next = slice_get-get_or c.args.log.now c.next_of-place.result past within in
    other_foretold c.args.log.now trace c.args.event c.args.course stands next c.if-course.false
    (next_event c.args.log.now trace c.args.event c.args.course stands c.next_of-place.result next c.if-course.false c.next_of-place.ensures.passed here (c.next_of-place.ensures.here next here))
    (λ same. false≢true (sym c.if-not-are_of_one_action.true ∙ c.are_of_one_action.ensures.1 same))

pub returns-clause-foretold : goal.returns-clause-foretold
returns-clause-foretold c = λ trace stands tells.
    let next = get_or c.args.log.now c.next_of-place.result past in
    let within : c.next_of-place.result < length c.args.log.now = grind (arith, common_steps) in
    let here : slice_get c.args.log.now c.next_of-place.result ≡ Some next = slice_get-get_or c.args.log.now c.next_of-place.result past within in
    let by = c.next_of-place.ensures.here next here in
    let its = next_event c.args.log.now trace c.args.event c.args.course stands c.next_of-place.result next c.if-course.false c.next_of-place.ensures.passed here by in (
      Known next its (c.are_of_one_action.ensures.0 c.if-not-are_of_one_action.false),
      sure_after c.args.log.now trace c.args.event c.args.course stands c.next_of-place.result next c.args.is_loose c.is_unknown_after.result tells c.if-course.false c.next_of-place.ensures.passed here by c.is_unknown_after.ensures.unknown c.is_unknown_after.ensures.known,
    )

pub returns-then-gives_up-clause-differs : goal.returns-then-gives_up-clause-differs
returns-then-gives_up-clause-differs c = λ trace stands. release_differs_from_none c.args.log.now trace c.args.event (sym c.gives_up.ensures ∙ c.if-gives_up.true)

pub returns-clause-differs : goal.returns-clause-differs
returns-clause-differs c = λ trace stands.
    let next = get_or c.args.log.now c.next_of-place.result past in
    let within : c.next_of-place.result < length c.args.log.now = grind (arith, common_steps) in
    let here : slice_get c.args.log.now c.next_of-place.result ≡ Some next = slice_get-get_or c.args.log.now c.next_of-place.result past within in
    let by = c.next_of-place.ensures.here next here in
    let its = next_event c.args.log.now trace c.args.event c.args.course stands c.next_of-place.result next c.if-course.false c.next_of-place.ensures.passed here by in
    tells_differ c.args.log.now trace c.args.event c.args.course stands c.next_of-place.result next c.unless_same.result c.if-course.false c.next_of-place.ensures.passed here by its (c.are_of_one_action.ensures.0 c.if-not-are_of_one_action.false) c.unless_same.ensures
