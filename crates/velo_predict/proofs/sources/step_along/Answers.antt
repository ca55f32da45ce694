use Rattle.std.proofs.Common.{◌≡◌, ◌≢◌, ◌<◌, ◌≤◌, Some, get_or, length, arith, rules}
use Rattle.std.specs.Prelude.{slice_get, IsFalse, IsTrue}
use Rattle.std.proofs.lemmas.Grind.{common_steps}
use Rattle.std.proofs.lemmas.Option.{slice_get-get_or}
use Rattle.velo_traces.proofs.Past.{past}
use Rattle.velo_predict.proofs.OnSources.{none_lost, none_over, over_after, source_next, next_after}
use Rattle.velo_predict.proofs.sources.step_along.Goals as goal

pub returns-then-trail-clause-source : goal.returns-then-trail-clause-source
returns-then-trail-clause-source c = λ trace stands. none_lost c.args.log.now trace c.args.event c.args.trail stands c.if-trail.true

pub returns-then-place-log-clause-source : goal.returns-then-place-log-clause-source
returns-then-place-log-clause-source c = λ trace stands.
    let over : length c.args.log.now ≤ c.next_of-place.result = grind (arith, common_steps) in
    none_over c.args.log.now trace c.args.event c.args.trail stands c.next_of-place.result c.if-trail.false c.next_of-place.ensures.passed over

pub returns-then-place-log-clause-trail : goal.returns-then-place-log-clause-trail
returns-then-place-log-clause-trail c = λ trace stands.
    let over : length c.args.log.now ≤ c.next_of-place.result = grind (arith, common_steps) in
    over_after c.args.log.now trace c.args.event c.args.trail stands c.next_of-place.result c.if-trail.false c.next_of-place.ensures.passed over

pub returns-clause-source : goal.returns-clause-source
returns-clause-source c = λ trace stands.
    let next = get_or c.args.log.now c.next_of-place.result past in
    let within : c.next_of-place.result < length c.args.log.now = grind (arith, common_steps) in
    let here : slice_get c.args.log.now c.next_of-place.result ≡ Some next = slice_get-get_or c.args.log.now c.next_of-place.result past within in
    source_next c.args.log.now trace c.args.event c.args.trail stands c.next_of-place.result next c.if-trail.false c.next_of-place.ensures.passed here (c.next_of-place.ensures.here next here) c.if_of_one_action.result c.if_of_one_action.ensures

pub returns-clause-trail : goal.returns-clause-trail
returns-clause-trail c = λ trace stands.
    let next = get_or c.args.log.now c.next_of-place.result past in
    let within : c.next_of-place.result < length c.args.log.now = grind (arith, common_steps) in
    let here : slice_get c.args.log.now c.next_of-place.result ≡ Some next = slice_get-get_or c.args.log.now c.next_of-place.result past within in
    let differs : IsTrue c.ne.result → c.args.event.kind ≢ next.kind = search rules in
    let agrees : IsFalse c.ne.result → c.args.event.kind ≡ next.kind = search rules in
    next_after c.args.log.now trace c.args.event c.args.trail stands c.next_of-place.result next c.if-trail.false c.next_of-place.ensures.passed here (c.next_of-place.ensures.here next here) c.ne.result differs agrees
