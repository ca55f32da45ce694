use Rattle.std.proofs.Common.{◌<◌, ◌+◌, subst, get_or, drop, length, arith}
use Rattle.std.proofs.lemmas.List.{drop_more}
use Rattle.std.proofs.Math.ListN.{drop_of_length-le}
use Rattle.velo_events.specs.declared.event.ThreadId.{ThreadId}
use Rattle.velo_worker.specs.Schedule.{TurnOf}
use Rattle.velo_worker.proofs.OnTurns.{LeadsOn, LeadsOn-next, LeadsOn-ended, LeadsOn-all}
use Rattle.velo_worker.proofs.replay_state.ReplayState.follow.Goals as goal

pub returns-in-Some : goal.returns-in-Some
returns-in-Some c =
    let l = c.loop-thread in
    let schedule = c.args.schedule.now in
    let within : l.thread-index < length schedule = omega arith in
    let thread : ThreadId = get_or schedule l.thread-index (record { 0 = 0 }) in
    LeadsOn-ended c.args.self.now schedule l.self thread (drop (l.thread-index + 1) schedule) c.in-Some.ending c.take_turn.new.self
    (subst (LeadsOn c.args.self.now schedule l.self) (drop_more schedule l.thread-index (record { 0 = 0 }) within) l.invariant) c.in-Some.ensures

pub loop-thread-preserved : goal.loop-thread-preserved
loop-thread-preserved c =
    let l = c.loop-thread in
    let schedule = c.args.schedule.now in
    let within : l.thread-index < length schedule = omega arith in
    let thread : ThreadId = get_or schedule l.thread-index (record { 0 = 0 }) in
    LeadsOn-next c.args.self.now schedule l.self thread (drop (l.thread-index + 1) schedule) c.take_turn.new.self
    (subst (LeadsOn c.args.self.now schedule l.self) (drop_more schedule l.thread-index (record { 0 = 0 }) within) l.invariant)
    (subst (λ stop. TurnOf l.self thread stop c.take_turn.new.self) c.in_default.is c.take_turn.ensures)

pub returns : goal.returns
returns c =
    let l = c.loop-thread in
    let schedule = c.args.schedule.now in
    LeadsOn-all c.args.self.now schedule l.self (subst (LeadsOn c.args.self.now schedule l.self) (drop_of_length-le schedule c.loop-thread-test.false) l.invariant)
