use Rattle.std.proofs.Common.{subst}
use Rattle.std.specs.Prelude.{IfOk}
use Rattle.velo_events.specs.Certificate.{IsSerialOrder}
use Rattle.velo_events.specs.Graph.{HasCycle}
use Rattle.velo_events.proofs.OnSerializing.{IsSerial-no_cycle}
use Rattle.velo_certify.proofs.OnOrders.{IfOk-map}
use Rattle.velo_certify.proofs.OnReordered.{IsWellFormed-reordered, LeavesSameHeap-reordered}
use Rattle.velo_certify.proofs.serial.serial_order.Goals as goal

pub returns-clause-acyclic : goal.returns-clause-acyclic
returns-clause-acyclic c =
    let trace = c.args.trace.now.events in
    IfOk-map (λ v. IsSerialOrder trace v.items) (λ v. ¬ HasCycle trace) (λ v h. IsSerial-no_cycle trace v.items h.reorders h.serial) c.list_all.result
    (subst (λ xs. IfOk c.list_all.result (λ v. IsSerialOrder xs v.items)) c.as_slice.ensures c.list_all.ensures.order)

pub returns-clause-well_formed : goal.returns-clause-well_formed
returns-clause-well_formed c = λ bounds order well r. IsWellFormed-reordered bounds c.args.trace.now.events well order r

pub returns-clause-same_heap : goal.returns-clause-same_heap
returns-clause-same_heap c = λ order r. LeavesSameHeap-reordered c.args.trace.now.events order r
