use Rattle.std.proofs.Common.{length, arith}
use Rattle.velo_audit.proofs.OnMarks.{CountsBelow-at, CountsBelow-all}
use Rattle.velo_audit.proofs.marks.below.Goals as goal

pub returns-then-these-k : goal.returns-then-these-k
returns-then-these-k c = CountsBelow-at c.args.these.now c.args.bound c.loop-k.k c.requires c.loop-k.invariant c.loop-k-test.true c.if-these-k.true

pub returns : goal.returns
returns c = CountsBelow-all c.args.these.now c.args.bound (length c.args.these.now) (omega arith) (λ j l. c.loop-k.invariant j (omega arith))
