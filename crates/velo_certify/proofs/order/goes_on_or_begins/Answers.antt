use Rattle.std.proofs.Common.{arith}
use Rattle.velo_certify.proofs.OnOrders.{StandSoFar-goes_on, StandSoFar-begins, fails-split}
use Rattle.velo_certify.proofs.order.goes_on_or_begins.Goals as goal
use Rattle.velo_certify.proofs.order.goes_on_or_begins.Goals.{then-k-gt0+else-owners-order, else-k-gt0}

pub returns-then-owners-order-clause-yes : goal.returns-then-owners-order-clause-yes
returns-then-owners-order-clause-yes c = λ _.
    StandSoFar-goes_on c.args.owners.now c.args.order.now c.args.k c.args.begun.now c.requires.so_far c.if-k-gt0.true c.if-owners-order.true

pub returns-clause-yes : goal.returns-clause-yes
returns-clause-yes c = λ _.
    let place = c.requires.within c.args.k c.requires.place in
    let small = c.requires.small _ place in
    StandSoFar-begins c.args.owners.now c.args.order.now c.args.k c.args.begun.now c.requires.so_far
    (omega (arith, small, c.requires.so_far.count)) c.if-begun-transaction.false

pub returns-then-begun-transaction-clause-no : goal.returns-then-begun-transaction-clause-no
returns-then-begun-transaction-clause-no c = λ _.
    fails-split c.args.owners.now c.args.order.now c.args.k c.args.begun.now c.requires.so_far c.requires.place
    (λ later same. elim c.if-k-gt0.branch [
      | then-k-gt0+else-owners-order w ↦ w.if-owners-order.false same
      | else-k-gt0 w ↦ absurd (omega (arith, w.if-k-gt0.false, later))
    ]) c.if-begun-transaction.true
