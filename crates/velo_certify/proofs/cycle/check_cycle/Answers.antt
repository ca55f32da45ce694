use Rattle.std.proofs.Common.{◌≡◌, ◌+◌, ◌-◌, length, take, subst, arith}
use Rattle.std.specs.Prelude.{IfOk, IsTrue, ◌↔◌}
use Rattle.velo_events.specs.Block.{owner}
use Rattle.velo_certify.specs.Shortest.{IsShortestCycleAt}
use Rattle.velo_certify.specs.Cycle.{IsCycleFrom}
use Rattle.velo_certify.proofs.OnOrders.{IfOk-map}
use Rattle.velo_certify.proofs.OnCycles.{shortest-answer}
use Rattle.velo_certify.proofs.cycle.check_cycle.Goals as goal

pub returns : goal.returns
returns c =
    let trace = c.args.trace.now.events in let p = c.args.position in let cycle = c.args.cycle.now in
    let found = c.in-Ok.shortest.items in
    let v = c.in-Ok.ensures.cycle in
    let same : length cycle ≡ length found = omega (arith, c.if-cycle-shortest.false, c.len-shortest.ensures, c.in-Ok.shortest.ok) in
    IfOk-map (λ said. IsTrue said ↔ IsCycleFrom (take (p + 1) trace) (owner (take (p + 1) trace) (length (take (p + 1) trace) - 1)) cycle) (λ said. IsTrue said ↔ IsShortestCycleAt trace p cycle)
    (shortest-answer trace p v.is_cycle.in_trace found cycle v same) c.is_last_cycle.result
    (subst (λ xs. IfOk c.is_last_cycle.result (λ said. IsTrue said ↔ IsCycleFrom (take (p + 1) xs) (owner (take (p + 1) xs) (length (take (p + 1) xs) - 1)) cycle)) c.as_slice-events.ensures c.is_last_cycle.ensures)
