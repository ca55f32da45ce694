use Rattle.std.proofs.Common.{subst}
use Rattle.std.specs.Prelude.{IfOk, IsTrue, ◌↔◌}
use Rattle.velo_events.specs.Reordering.{IsReordering, IsSerial}
use Rattle.velo_certify.proofs.order.check_order.Goals as goal

pub returns-in-Some : goal.returns-in-Some
returns-in-Some c =
    subst (λ xs. IfOk c.is_serial.result (λ yes_it_is. IsTrue yes_it_is ↔ (IsReordering xs c.args.order.now × IsSerial xs c.args.order.now))) c.as_slice-events.ensures c.is_serial.ensures
