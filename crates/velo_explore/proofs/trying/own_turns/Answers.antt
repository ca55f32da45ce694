use Rattle.std.proofs.Common.{arith, length}
use Rattle.velo_explore.proofs.OnShrunk.{if_ok, soonest-alarm, soonest-none}
use Rattle.velo_explore.proofs.trying.own_turns.Goals as goal

pub returns-in-Some : goal.returns-in-Some
returns-in-Some c =
    if_ok c.threads_of.result
    (λ turns few. soonest-alarm c.args.goal c.args.closed.now c.alarm.result c.in-Some.alarm (length turns.items) c.in-Alarm.is c.in-Some.is c.alarm.ensures.some (omega (arith, few, c.saturating_add.ensures)))
    c.threads_of.ensures

pub returns-in-None : goal.returns-in-None
returns-in-None c =
    if_ok c.threads_of-in-None.result
    (λ turns few. soonest-none c.args.goal c.args.closed.now c.alarm.result (length turns.items) c.in-Alarm.is c.in-None.is c.alarm.ensures.none)
    c.threads_of-in-None.ensures
