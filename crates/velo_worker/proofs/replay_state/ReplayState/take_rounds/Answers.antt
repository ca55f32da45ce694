use Rattle.std.proofs.Common.{◌≡◌, ◌<◌, ◌≤◌, ◌∙◌, ap, sym, subst, length, arith}
use Rattle.std.proofs.lemmas.Bool.{false≢true}
use Rattle.velo_worker.specs.Schedule.{TurnsOf, all_threads}
use Rattle.velo_worker.proofs.OnTurns.{Kept-turns, LeadsRounds-next, rounds-idle, rounds-ended, rounds-stuck}
use Rattle.velo_worker.proofs.replay_state.ReplayState.take_rounds.Goals as goal

pub returns-then-are_all_idle : goal.returns-then-are_all_idle
returns-then-are_all_idle c = rounds-idle c.args.self.now c.loop-self.self c.loop-self.invariant (c.are_all_idle.ensures.0 c.if-are_all_idle.true)

pub returns-in-Some : goal.returns-in-Some
returns-in-Some c =
    rounds-ended c.args.self.now c.loop-self.self c.take_round.new.self c.in-Some.ending c.loop-self.invariant
    (λ idle. false≢true (sym c.if-are_all_idle.false ∙ c.are_all_idle.ensures.1 idle)) c.in-Some.ensures

pub returns-then-len-before : goal.returns-then-len-before
returns-then-len-before c =
    let before : c.len-before.result ≡ length c.loop-self.self.world.log = c.len-before.ensures ∙ ap length c.log.ensures.events ∙ ap (λ s. length s.world.log) c.self.view_is in
    let after : c.len.result ≡ length c.take_round.new.self.world.log = c.len.ensures ∙ ap length c.log-in-loop-self.ensures.events ∙ ap (λ s. length s.world.log) c.self-in-loop-self.view_is in
    rounds-stuck c.args.self.now c.loop-self.self c.take_round.new.self c.loop-self.invariant
    (λ idle. false≢true (sym c.if-are_all_idle.false ∙ c.are_all_idle.ensures.1 idle))
    (subst (λ stop. TurnsOf c.loop-self.self (all_threads c.loop-self.self) stop c.take_round.new.self) c.in_default.is c.take_round.ensures)
    (sym after ∙ c.if-len-before.true ∙ before)

pub loop-self-smaller : goal.loop-self-smaller
loop-self-smaller c =
    let before : c.len-before.result ≡ length c.loop-self.self.world.log = c.len-before.ensures ∙ ap length c.log.ensures.events ∙ ap (λ s. length s.world.log) c.self.view_is in
    let after : c.len.result ≡ length c.take_round.new.self.world.log = c.len.ensures ∙ ap length c.log-in-loop-self.ensures.events ∙ ap (λ s. length s.world.log) c.self-in-loop-self.view_is in
    let kept = Kept-turns (all_threads c.loop-self.self) c.loop-self.self c.take_round.result c.take_round.new.self c.take_round.ensures in
    let limit : length c.take_round.new.self.world.log ≤ c.take_round.new.self.world.config.events = subst (λ s. length s.world.log ≤ s.world.config.events) c.self-in-loop-self.view_is c.log-in-loop-self.ensures.limit in
    let same : c.take_round.new.self.world.config.events ≡ c.loop-self.self.world.config.events = ap (λ g. g.events) kept.config in
    let more : length c.loop-self.self.world.log < length c.take_round.new.self.world.log = omega (arith, before, after, kept.log, c.if-len-before.false) in
    omega (arith, more, same, limit)

pub loop-self-preserved : goal.loop-self-preserved
loop-self-preserved c =
    let before : c.len-before.result ≡ length c.loop-self.self.world.log = c.len-before.ensures ∙ ap length c.log.ensures.events ∙ ap (λ s. length s.world.log) c.self.view_is in
    let after : c.len.result ≡ length c.take_round.new.self.world.log = c.len.ensures ∙ ap length c.log-in-loop-self.ensures.events ∙ ap (λ s. length s.world.log) c.self-in-loop-self.view_is in
    let kept = Kept-turns (all_threads c.loop-self.self) c.loop-self.self c.take_round.result c.take_round.new.self c.take_round.ensures in
    let more : length c.loop-self.self.world.log < length c.take_round.new.self.world.log = omega (arith, before, after, kept.log, c.if-len-before.false) in
    LeadsRounds-next c.args.self.now c.loop-self.self c.take_round.new.self c.loop-self.invariant
    (λ idle. false≢true (sym c.if-are_all_idle.false ∙ c.are_all_idle.ensures.1 idle))
    (subst (λ stop. TurnsOf c.loop-self.self (all_threads c.loop-self.self) stop c.take_round.new.self) c.in_default.is c.take_round.ensures) more
