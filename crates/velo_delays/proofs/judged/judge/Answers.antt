use Rattle.std.proofs.Common.{arith}
use Rattle.velo_delays.proofs.judged.judge.Goals as goal

pub returns : goal.returns
returns c = record {
  foretold = rw c.in-Some.is at c.in_ok-cycle.ensures.foretold;
  short = omega arith;
  first = rw c.in-Some-round.is at c.in_ok-round.ensures.first;
  to_blame = rw c.in-Some-round.is at c.in_ok-round.ensures.to_blame;
  truly = rw c.in-Some-round.is at c.in_ok-round.ensures.truly;
  witness = rw c.in-Some-round.is at c.in_ok-round.ensures.witness;
  differing = rw c.in-Some-reads.is at c.in_ok-reads.ensures;
  sources = c.in_ok-sources.ensures;
}
