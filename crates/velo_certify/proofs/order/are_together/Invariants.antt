use Rattle.velo_certify.specs.Order.{StandSoFar}
use Rattle.velo_certify.proofs.order.are_together.Given as goal

abbrev pub invariant-loop-k : goal.invariant-loop-k
invariant-loop-k l = StandSoFar l.owners l.order l.k l.begun.items
