use Rattle.std.proofs.Common.{◌+◌, ◌∙◌, ap, sym, subst, map, arith}
use Rattle.velo_workload.specs.Known.{known_of}
use Rattle.velo_workload.specs.Outline.{names_in}
use Rattle.velo_workload.specs.Sketch.{put_of, unknown_later}
use Rattle.velo_workload.proofs.Building.{IsCompletedUpTo}
use Rattle.velo_workload.proofs.OnCompleting.{completed_wrong, completed_next}
use Rattle.velo_workload.proofs.draft.complete_body.Goals as goal

pub returns-in-None-clause-judged : goal.returns-in-None-clause-judged
returns-in-None-clause-judged c =
    let names = names_in (known_of c.args.outline.now) in
    let same = c.deref-open-items.ensures.value in
    let so_far = subst (λ ls. IsCompletedUpTo names ls c.args.draft.statements.items c.loop-open.open-index c.loop-open.statements.items) (sym same) c.loop-open.invariant in
    ap (λ ls. unknown_later names (map put_of ls)) (sym same) ∙ completed_wrong names _ _ c.loop-open.open-index _ (omega arith) c.loop-open.statements.items so_far (sym c.in-None.ensures)

pub loop-open-preserved : goal.loop-open-preserved
loop-open-preserved c =
    let names = names_in (known_of c.args.outline.now) in
    let old = c.args.draft.statements.items in
    let same = c.deref-open-items.ensures.value in
    let so_far = subst (λ ls. IsCompletedUpTo names ls old c.loop-open.open-index c.loop-open.statements.items) (sym same) c.loop-open.invariant in
    let next = completed_next names _ old c.loop-open.open-index _ (omega arith) c.loop-open.statements.items so_far c.in-Some.statement (sym c.in-Some.ensures) in
    let put = subst (λ ss. IsCompletedUpTo names c.deref-open-items.result.now old (c.loop-open.open-index + 1) ss) (sym c.set.ensures) next in
    subst (λ ls. IsCompletedUpTo names ls old (c.loop-open.open-index + 1) c.set.new.statements.items) same put
