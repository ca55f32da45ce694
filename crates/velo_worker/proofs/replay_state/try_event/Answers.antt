use Rattle.std.proofs.Common.{◌≡◌, ◌∙◌, ap, subst, inl}
use Rattle.velo_worker.specs.Progress.{settled, wanted, after_event}
use Rattle.velo_worker.specs.Schedule.{Happens}
use Rattle.velo_worker.proofs.OnTurns.{Happened-step}
use Rattle.velo_worker.proofs.replay_state.try_event.Goals as goal

pub returns-in-Ok-clause-tries : goal.returns-in-Ok-clause-tries
returns-in-Ok-clause-tries c =
    let w = c.args.world.now in
    let p = settled c.args.progress.now in
    let action : c.wanted.result ≡ wanted p = c.wanted.ensures ∙ ap wanted c.settle.ensures in
    let done = Happened-step w c.args.shares.now c.args.thread c.wanted.result c.in-Ok.reply c.act_as.new.self c.act_as.new.shares c.in-Ok.ensures.outcome in
    inl (
      done.event,
      subst (λ a. Happens w c.args.thread a done.event c.act_as.new.self) action done.happens,
      c.go_on.ensures ∙ ap (λ q. after_event q c.in-Ok.reply.value) c.settle.ensures ∙ ap (after_event p) done.value,
    )
