use Rattle.std.proofs.Common.{◌≡◌, ◌-◌, ◌^◌, min, take, length, ap, ◌∙◌, arith}
use Rattle.std.specs.Prelude.{sum_by}
use Rattle.std.proofs.Math.Seq.{take-length}
use Rattle.velo_worker.specs.Counts.{body_events}
use Rattle.velo_explore.proofs.OnCounting.{sum-next, capped-next}
use Rattle.velo_explore.proofs.scripts.count_all.Goals as goal

pub loop-thread-preserved : goal.loop-thread-preserved
loop-thread-preserved c =
    let l = c.loop-thread in
    let bodies = c.args.workload.now.bodies in
    capped-next (sum_by body_events (take l.thread bodies)) (body_events c.body.result.now) _ l.count _ _
    (sum-next body_events bodies l.thread c.body.result.now c.body.ensures.here) l.invariant c.count_events.ensures c.saturating_add-count.ensures

pub returns : goal.returns
returns c =
    let l = c.loop-thread in
    let bodies = c.args.workload.now.bodies in
    let all : l.thread ≡ length bodies = omega (arith, c.loop-thread-test.false, l.auto.thread-end, c.bounds-thread-end.ensures.bodies) in
    l.invariant ∙ ap (λ xs. min (sum_by body_events xs) (2 ^ 64 - 1)) (ap (λ n. take n bodies) all ∙ take-length bodies)
