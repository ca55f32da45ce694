use Rattle.std.proofs.Common.{◌<◌, ◌∙◌, Some, ap, arith, length, refl, sym}
use Rattle.std.proofs.lemmas.Option.{slice_get-get_or}
use Rattle.velo_worker.specs.declared.progress.Progress.{Progress}
use Rattle.velo_worker.proofs.OnLogs.{WentAlong-start, WentAlong-item, WentAlong-all}
use Rattle.velo_worker.proofs.retracing.all_follow.Goals as goal

pub loop-event-init : goal.loop-event-init
loop-event-init c = WentAlong-start c.args.threads.items c.args.log.now

pub loop-event-preserved : goal.loop-event-preserved
loop-event-preserved c =
    let l = c.loop-event in
    let threads = l.threads.items in
    let was = c.index_mut.result.now in
    let within : c.from-thread.result < length threads = omega (arith, c.if-thread-len.false, c.len.ensures) in
    WentAlong-item c.args.threads.items c.args.log.now l.event-index threads _ c.from-thread.result was c.follow.new.progress c.loop-event-test.true c.from-thread.ensures
    (slice_get-get_or threads c.from-thread.result was within ∙ ap (λ (p : Progress). Some p) (sym c.index_mut.ensures.value))
    (c.if-not-follow.ensures.tries refl) (c.if-not-follow.ensures.after refl) l.invariant

pub returns : goal.returns
returns c = λ _. WentAlong-all c.args.threads.items c.args.log.now c.loop-event.event-index c.loop-event.threads.items c.loop-event-test.false c.loop-event.invariant
