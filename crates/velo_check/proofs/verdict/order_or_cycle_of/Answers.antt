use Rattle.std.proofs.Common.{List, subst, inr}
use Rattle.velo_events.specs.declared.event.Event.{Event}
use Rattle.velo_certify.specs.Shortest.{IsShortestCycleAt}
use Rattle.velo_certify.proofs.OnOrders.{IfOk-map}
use Rattle.velo_check.specs.Verdict.{IsOrderOrCycle}
use Rattle.velo_check.proofs.verdict.order_or_cycle_of.Goals as goal

pub returns-in-Some : goal.returns-in-Some
returns-in-Some c =
    let position = c.in-Some.alarm.now.position in
    IfOk-map (λ v. IsShortestCycleAt c.log.result.now.events position v.items) (λ v. IsOrderOrCycle c.args.closed.now.log v.items)
    (λ v h. inr (record {
      position = position;
      closing = c.in-Some.ensures.some.closing;
      shortest = subst (λ (log : List Event). IsShortestCycleAt log position v.items) c.log.ensures.events h;
    }))
    c.cycle_at.result c.cycle_at.ensures
