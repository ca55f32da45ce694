use Rattle.std.proofs.Common.{subst, refl, arith}
use Rattle.velo_certify.specs.Order.{StandSoFar}
use Rattle.velo_certify.proofs.OnOrders.{AreTogether-end, StandSoFar-start}
use Rattle.velo_certify.proofs.order.are_together.Goals as goal

pub loop-k-init : goal.loop-k-init
loop-k-init c = StandSoFar-start c.args.owners.now c.args.order.now c.in_ok-begun.begun.items (c.in_ok-begun.ensures.items_if_clones_equal (λ y e. e))

pub returns : goal.returns
returns c = (
  (λ _. AreTogether-end c.args.owners.now c.args.order.now c.loop-k.begun.items (subst (λ n. StandSoFar c.args.owners.now c.args.order.now n c.loop-k.begun.items) (omega arith) c.loop-k.invariant)),
  (λ _. refl),
)
