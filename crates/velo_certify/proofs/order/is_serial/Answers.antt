use Rattle.std.proofs.Common.{ℕ, ◌<◌, length, sym, subst, ◌∙◌}
use Rattle.std.specs.Prelude.{IsTrue, ◌↔◌, slice_index}
use Rattle.velo_events.specs.Reordering.{IsReordering, IsSerial}
use Rattle.velo_certify.specs.Owners.{AreOwners}
use Rattle.std.proofs.lemmas.Bool.{false≢true}
use Rattle.velo_certify.specs.Order.{AreTogether}
use Rattle.velo_certify.proofs.OnOrders.{IfOk-map, serial-answer, owners-small, KeepsConflicts-places}
use Rattle.velo_certify.proofs.order.is_serial.Goals as goal

pub returns-then-not-branch : goal.returns-then-not-branch
returns-then-not-branch c = (
  (λ h. absurd (false≢true h)),
  (λ w. sym c.if-not-branch.true ∙ c.in_ok-keeps_conflicts.ensures.1 (KeepsConflicts-places c.args.events.now c.args.order.now c.args.places.now c.requires w.0)),
)

pub are_together-requires-clause-small : goal.are_together-requires-clause-small
are_together-requires-clause-small c =
    subst (λ xs. (i : ℕ) → i < length xs → slice_index xs i < length xs) (sym c.deref.ensures.value)
    (owners-small c.args.events.now c.in_ok-owners.owners.items c.in_ok-owners.ensures)

pub returns : goal.returns
returns c =
    let trace = c.args.events.now in let order = c.args.order.now in
    let keeps = c.in_ok-keeps_conflicts.ensures.0 c.if-not-branch.false in
    let are = subst (λ xs. AreOwners xs trace) (sym c.deref.ensures.value) c.in_ok-owners.ensures in
    IfOk-map (λ yes_it_is. IsTrue yes_it_is ↔ AreTogether c.deref.result.now order) (λ yes_it_is. IsTrue yes_it_is ↔ (IsReordering trace order × IsSerial trace order))
    (serial-answer trace order c.args.places.now c.deref.result.now c.requires keeps are) c.are_together.result c.are_together.ensures
