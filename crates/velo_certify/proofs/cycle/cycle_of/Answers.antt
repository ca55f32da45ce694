use Rattle.std.proofs.Common.{◌<◌, ◌+◌, ◌-◌, length, take, ap, subst, arith}
use Rattle.std.specs.Prelude.{IfOk, IfErr}
use Rattle.velo_events.specs.Block.{owner}
use Rattle.velo_certify.specs.Shortest.{IsShortestCycleAt}
use Rattle.velo_certify.specs.Cycle.{IsShortestFrom, IsLastFault, IsCycleFault}
use Rattle.velo_certify.proofs.OnOrders.{IfOk-map, IfErr-map}
use Rattle.velo_certify.proofs.OnCycles.{IsShortestCycleAt-from, IsCycleFault-from}
use Rattle.velo_certify.proofs.OnPrefixes.{IsSelfSerializable-early}
use Rattle.velo_certify.proofs.cycle.cycle_of.Goals as goal

pub returns-clause-cycle : goal.returns-clause-cycle
returns-clause-cycle c =
    let trace = c.args.trace.now.events in let p = c.args.position in
    let within : p < length trace = omega (arith, c.if-position-events.false, ap length c.as_slice-events.ensures) in
    IfOk-map (λ v. IsShortestFrom (take (p + 1) trace) (owner (take (p + 1) trace) (length (take (p + 1) trace) - 1)) v.items) (λ v. IsShortestCycleAt trace p v.items)
    (λ v h. IsShortestCycleAt-from trace p within v.items h) c.last_cycle.result
    (subst (λ xs. IfOk c.last_cycle.result (λ v. IsShortestFrom (take (p + 1) xs) (owner (take (p + 1) xs) (length (take (p + 1) xs) - 1)) v.items)) c.as_slice-events.ensures c.last_cycle.ensures.cycle)

pub returns-clause-fault : goal.returns-clause-fault
returns-clause-fault c =
    let trace = c.args.trace.now.events in let p = c.args.position in
    let within : p < length trace = omega (arith, c.if-position-events.false, ap length c.as_slice-events.ensures) in
    IfErr-map (IsLastFault (take (p + 1) trace) (owner (take (p + 1) trace) (length (take (p + 1) trace) - 1))) (IsCycleFault trace p)
    (IsCycleFault-from trace p within) c.last_cycle.result
    (subst (λ xs. IfErr c.last_cycle.result (IsLastFault (take (p + 1) xs) (owner (take (p + 1) xs) (length (take (p + 1) xs) - 1)))) c.as_slice-events.ensures c.last_cycle.ensures.fault)

pub returns-then-position-events-clause-stays : goal.returns-then-position-events-clause-stays
returns-then-position-events-clause-stays c = λ more b begun not_self longer. not_self (IsSelfSerializable-early c.args.trace.now.events more b begun longer)

pub returns-clause-stays : goal.returns-clause-stays
returns-clause-stays c = λ more b begun not_self longer. not_self (IsSelfSerializable-early c.args.trace.now.events more b begun longer)
