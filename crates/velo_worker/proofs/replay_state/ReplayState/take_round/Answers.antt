use Rattle.std.proofs.Common.{◌≡◌, ◌<◌, ◌≤◌, ◌+◌, ◌-◌, ◌∙◌, ap, sym, subst, length, arith}
use Rattle.velo_events.specs.declared.event.ThreadId.{ThreadId}
use Rattle.velo_worker.specs.Schedule.{TurnOf, all_threads, threads_from}
use Rattle.velo_worker.proofs.OnTurns.{LeadsOn, LeadsOn-next, LeadsOn-ended, LeadsOn-all, threads_from-next, threads_from-none}
use Rattle.velo_worker.proofs.replay_state.ReplayState.take_round.Goals as goal

pub returns-in-Some : goal.returns-in-Some
returns-in-Some c =
    let l = c.loop-thread in
    let start = c.args.self.now in
    let n = length start.threads in
    let count : n ≡ c.threads-thread-end.result = ap (λ s. length s.threads) (sym c.self.view_is) ∙ c.self.invariant.count ∙ sym c.threads-thread-end.ensures in
    let within : l.thread < n = omega (arith, count, c.loop-thread-test.true) in
    let thread : ThreadId = record { 0 = l.thread } in
    LeadsOn-ended start (all_threads start) l.self thread (threads_from (l.thread + 1) (n - (l.thread + 1))) c.in-Some.ending c.take_turn.new.self
    (subst (LeadsOn start (all_threads start) l.self) (threads_from-next n l.thread within) l.invariant) c.in-Some.ensures

pub loop-thread-preserved : goal.loop-thread-preserved
loop-thread-preserved c =
    let l = c.loop-thread in
    let start = c.args.self.now in
    let n = length start.threads in
    let count : n ≡ c.threads-thread-end.result = ap (λ s. length s.threads) (sym c.self.view_is) ∙ c.self.invariant.count ∙ sym c.threads-thread-end.ensures in
    let within : l.thread < n = omega (arith, count, c.loop-thread-test.true) in
    let thread : ThreadId = record { 0 = l.thread } in
    LeadsOn-next start (all_threads start) l.self thread (threads_from (l.thread + 1) (n - (l.thread + 1))) c.take_turn.new.self
    (subst (LeadsOn start (all_threads start) l.self) (threads_from-next n l.thread within) l.invariant)
    (subst (λ stop. TurnOf l.self thread stop c.take_turn.new.self) c.in_default.is c.take_turn.ensures)

pub returns : goal.returns
returns c =
    let l = c.loop-thread in
    let start = c.args.self.now in
    let n = length start.threads in
    let count : n ≡ c.threads-thread-end.result = ap (λ s. length s.threads) (sym c.self.view_is) ∙ c.self.invariant.count ∙ sym c.threads-thread-end.ensures in
    let beyond : n ≤ l.thread = omega (arith, count, c.loop-thread-test.false) in
    LeadsOn-all start (all_threads start) l.self (subst (LeadsOn start (all_threads start) l.self) (threads_from-none n l.thread beyond) l.invariant)
