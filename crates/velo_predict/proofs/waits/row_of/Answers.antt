use Rattle.std.proofs.Common.{◌≡◌, ◌<◌, Some, get_or, ap, subst, sym, ◌∙◌, arith}
use Rattle.std.specs.Prelude.{slice_get, IsFalse}
use Rattle.std.proofs.lemmas.Grind.{common_steps}
use Rattle.std.proofs.lemmas.Option.{same_Some, slice_get-get_or}
use Rattle.velo_events.specs.ThreadSets.{has_thread}
use Rattle.velo_events.proofs.OnStatuses.{is_Live}
use Rattle.velo_events.specs.WellFormed.{IsWellFormed}
use Rattle.velo_traces.proofs.Past.{past}
use Rattle.velo_predict.proofs.OnWaits.{none-has, row-not_live, row-unknown, row-waits}
use Rattle.velo_predict.proofs.waits.row_of.Goals as goal

pub returns-in_default : goal.returns-in_default
returns-in_default c = λ trace stands course. row-unknown c.args.log.now trace c.args.thread.0 c.none.result (λ u. subst (λ row. IsFalse (has_thread row u)) (sym c.none.ensures) (none-has u)) (c.in_default.ensures.due trace course)

pub returns-then-not-is_live : goal.returns-then-not-is_live
returns-then-not-is_live c = λ trace stands course. row-not_live c.args.log.now trace c.args.thread.0 _ (λ u. subst (λ row. IsFalse (has_thread row u)) (grind (arith, common_steps)) (none-has u)) (grind (arith, common_steps, c.status.ensures trace stands))

pub returns : goal.returns
returns c = λ trace stands course.
    let next = get_or c.args.log.now c.in-Some.next past in
    let here : slice_get c.args.log.now c.in-Some.next ≡ Some next = slice_get-get_or c.args.log.now c.in-Some.next past c.in-Some.ensures.within in
    let d = c.in-Some.ensures.due trace course in
    let kinds = ap (λ e. e.kind) (same_Some d.next next (sym d.there ∙ here)) in
    let lives = is_Live _ (grind (arith, common_steps, c.status.ensures trace stands)) in
    let some : 0 < c.args.bounds.threads = grind (arith, common_steps, c.requires.known) in
    row-waits c.args.bounds c.args.log.now trace c.args.thread.0 c.in-Some.next c.hindering.result next.kind (subst (λ b. IsWellFormed b trace) c.requires.bounds stands.well_formed) some d kinds lives (c.hindering.ensures trace stands)
