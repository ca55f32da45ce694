use Rattle.std.proofs.Common.{ℕ, ◌<◌, List, length, ap, subst, sym, ◌∙◌, arith}
use Rattle.std.specs.Prelude.{slice_get, IfNone, IfSome}
use Rattle.velo_events.specs.Graph.{IsCycle}
use Rattle.velo_predict.specs.Circles.{IsInRow, IsRing}
use Rattle.velo_predict.specs.Courses.{IsJudged}
use Rattle.velo_predict.specs.Waits.{IsCircle}
use Rattle.velo_predict.specs.Deadlocks.{PredictsDeadlock}
use Rattle.velo_predict.proofs.OnDeadlocks.{is_circle, none-predicted, predicts, ring-known, ring-next, ring-waits, rows-known}
use Rattle.velo_predict.proofs.waits.predicts_deadlock.Goals as goal

pub circle_in-requires-clause-known : goal.circle_in-requires-clause-known
circle_in-requires-clause-known c =
    let bounds = c.args.config.now.bounds in
    let trace = c.args.trace.now.events in
    let stands = subst (λ l. IsJudged bounds l trace c.in-Some.judged) (sym c.as_slice-events.ensures) (subst (λ o. IfSome o (λ judged. IsJudged bounds c.args.log.now.events trace judged)) c.in-Some.is c.in_ok-judged.ensures.foretold) in
    let are = c.in_ok-rows.ensures trace stands in
    subst (λ rows. (t u : ℕ) → IsInRow rows t u → u < length rows) (sym c.deref.ensures.value) (rows-known bounds c.as_slice-events.result.now trace c.in_ok-rows.rows.items are stands.prediction.well_formed c.args.config.now.some_thread)

pub waiting_of-requires-clause-few : goal.waiting_of-requires-clause-few
waiting_of-requires-clause-few c =
    let bounds = c.args.config.now.bounds in
    let stands = subst (λ o. IfSome o (λ judged. IsJudged bounds c.args.log.now.events c.args.trace.now.events judged)) c.in-Some.is c.in_ok-judged.ensures.foretold in
    omega (arith, stands.count, c.args.config.now.few_threads)

pub waiting_of-requires-clause-known : goal.waiting_of-requires-clause-known
waiting_of-requires-clause-known c = λ i t at.
    let bounds = c.args.config.now.bounds in
    let trace = c.args.trace.now.events in
    let log = c.as_slice-events.result.now in
    let stands = subst (λ l. IsJudged bounds l trace c.in-Some.judged) (sym c.as_slice-events.ensures) (subst (λ o. IfSome o (λ judged. IsJudged bounds c.args.log.now.events trace judged)) c.in-Some.is c.in_ok-judged.ensures.foretold) in
    let are = c.in_ok-rows.ensures trace stands in
    let ring = subst (λ rows. IsRing (IsInRow rows) c.in-Some-2.circle.items) c.deref.ensures.value (subst (λ o. IfSome o (λ circle. IsRing (IsInRow c.deref.result.now) circle.items)) c.in-Some-2.is c.in_ok-circle.ensures.some) in
    ring-known bounds log trace c.in-Some.judged c.in-Some-2.circle.items c.args.config.now.some_thread stands (ring-waits bounds log trace c.in_ok-rows.rows.items are c.in-Some-2.circle.items ring) i t (ap (λ xs. slice_get xs i) (sym c.deref-in-Some-2.ensures.value) ∙ at)

pub waiting_of-requires-clause-next : goal.waiting_of-requires-clause-next
waiting_of-requires-clause-next c = λ i t at.
    let bounds = c.args.config.now.bounds in
    let trace = c.args.trace.now.events in
    let log = c.as_slice-events.result.now in
    let stands = subst (λ l. IsJudged bounds l trace c.in-Some.judged) (sym c.as_slice-events.ensures) (subst (λ o. IfSome o (λ judged. IsJudged bounds c.args.log.now.events trace judged)) c.in-Some.is c.in_ok-judged.ensures.foretold) in
    let are = c.in_ok-rows.ensures trace stands in
    let ring = subst (λ rows. IsRing (IsInRow rows) c.in-Some-2.circle.items) c.deref.ensures.value (subst (λ o. IfSome o (λ circle. IsRing (IsInRow c.deref.result.now) circle.items)) c.in-Some-2.is c.in_ok-circle.ensures.some) in
    (trace, ring-next bounds log trace c.in-Some.judged c.in-Some-2.circle.items stands (ring-waits bounds log trace c.in_ok-rows.rows.items are c.in-Some-2.circle.items ring) i t (ap (λ xs. slice_get xs i) (sym c.deref-in-Some-2.ensures.value) ∙ at))

pub returns-in-Some-2-clause-foretold : goal.returns-in-Some-2-clause-foretold
returns-in-Some-2-clause-foretold c =
    let bounds = c.args.config.now.bounds in
    let trace = c.args.trace.now.events in
    let log = c.as_slice-events.result.now in
    let stands = subst (λ l. IsJudged bounds l trace c.in-Some.judged) (sym c.as_slice-events.ensures) (subst (λ o. IfSome o (λ judged. IsJudged bounds c.args.log.now.events trace judged)) c.in-Some.is c.in_ok-judged.ensures.foretold) in
    let are = c.in_ok-rows.ensures trace stands in
    let ring = subst (λ rows. IsRing (IsInRow rows) c.in-Some-2.circle.items) c.deref.ensures.value (subst (λ o. IfSome o (λ circle. IsRing (IsInRow c.deref.result.now) circle.items)) c.in-Some-2.is c.in_ok-circle.ensures.some) in
    subst (λ l. PredictsDeadlock bounds l trace) c.as_slice-events.ensures (predicts bounds log trace c.in-Some.judged c.in-Some-2.circle.items stands (ring-waits bounds log trace c.in_ok-rows.rows.items are c.in-Some-2.circle.items ring))

pub returns-in-Some-2-clause-circle : goal.returns-in-Some-2-clause-circle
returns-in-Some-2-clause-circle c =
    let bounds = c.args.config.now.bounds in
    let trace = c.args.trace.now.events in
    let log = c.as_slice-events.result.now in
    let stands = subst (λ l. IsJudged bounds l trace c.in-Some.judged) (sym c.as_slice-events.ensures) (subst (λ o. IfSome o (λ judged. IsJudged bounds c.args.log.now.events trace judged)) c.in-Some.is c.in_ok-judged.ensures.foretold) in
    let are = c.in_ok-rows.ensures trace stands in
    let ring = subst (λ rows. IsRing (IsInRow rows) c.in-Some-2.circle.items) c.deref.ensures.value (subst (λ o. IfSome o (λ circle. IsRing (IsInRow c.deref.result.now) circle.items)) c.in-Some-2.is c.in_ok-circle.ensures.some) in
    let waits = ring-waits bounds log trace c.in_ok-rows.rows.items are c.in-Some-2.circle.items ring in
    subst (λ l. IsCircle l trace c.in_ok-waiting_of-in-Some-2.field-0.items) c.as_slice-events.ensures
    (is_circle log trace c.in-Some-2.circle.items c.in_ok-waiting_of-in-Some-2.field-0.items waits (c.in_ok-waiting_of-in-Some-2.ensures.threads ∙ c.deref-in-Some-2.ensures.value)
    (c.in_ok-waiting_of-in-Some-2.ensures.due trace (λ i t at. ring-next bounds log trace c.in-Some.judged c.in-Some-2.circle.items stands waits i t (ap (λ xs. slice_get xs i) (sym c.deref-in-Some-2.ensures.value) ∙ at))))

pub returns-clause-not_foretold : goal.returns-clause-not_foretold
returns-clause-not_foretold c =
    let bounds = c.args.config.now.bounds in
    let trace = c.args.trace.now.events in
    let log = c.as_slice-events.result.now in
    let stands = subst (λ l. IsJudged bounds l trace c.in-Some.judged) (sym c.as_slice-events.ensures) (subst (λ o. IfSome o (λ judged. IsJudged bounds c.args.log.now.events trace judged)) c.in-Some.is c.in_ok-judged.ensures.foretold) in
    let are = c.in_ok-rows.ensures trace stands in
    let none = subst (λ rows. (cycle : List ℕ) → ¬ IsCycle (IsInRow rows) cycle) c.deref.ensures.value (subst (λ o. IfNone o ((cycle : List ℕ) → ¬ IsCycle (IsInRow c.deref.result.now) cycle)) c.in-None.is c.in_ok-circle.ensures.none) in
    subst (λ l. ¬ PredictsDeadlock bounds l trace) c.as_slice-events.ensures (none-predicted bounds log trace c.in_ok-rows.rows.items are none)
