use Rattle.std.proofs.Common.{◌≡◌, ◌<◌, All, List, arith, refl, subst, take}
use Rattle.std.proofs.lemmas.List.{take_all}
use Rattle.std.proofs.lemmas.List.Elements.{All-more}
use Rattle.velo_events.specs.declared.event.ThreadId.{ThreadId}
use Rattle.velo_events.specs.declared.limits.TheConstants.{MAX_THREADS}
use Rattle.velo_explore.proofs.threads.are_threads.Goals as goal

abbrev no_thread : ThreadId
no_thread = record { 0 = 0 }

pub loop-turn-preserved : goal.loop-turn-preserved
loop-turn-preserved c =
    All-more (λ (t : ThreadId). t.0 < MAX_THREADS) c.args.schedule.now c.loop-turn.turn-index no_thread c.loop-turn-test.true c.loop-turn.invariant
    (omega (arith, c.if-turn-ge-MAX_THREADS.false))

pub returns : goal.returns
returns c =
    let all : take c.loop-turn.turn-index c.args.schedule.now ≡ c.args.schedule.now = take_all c.loop-turn.turn-index c.args.schedule.now (omega (arith, c.loop-turn-test.false)) in
    (λ h. subst (λ (s : List ThreadId). All (λ (t : ThreadId). t.0 < MAX_THREADS) s) all c.loop-turn.invariant, λ h. refl)
