use Rattle.std.proofs.Common.{arith, rules}
use Rattle.std.proofs.lemmas.Grind.{elements}
use Rattle.velo_ledger.proofs.shares.Shares.take.Goals as goal

pub returns-then-place-len-clause-share : goal.returns-then-place-len-clause-share
returns-then-place-len-clause-share c = grind (arith, elements)

pub returns-then-place-len-clause-own : goal.returns-then-place-len-clause-own
returns-then-place-len-clause-own c = grind (arith, elements)

pub returns-then-place-len-clause-after : goal.returns-then-place-len-clause-after
returns-then-place-len-clause-after c = search rules

pub returns-else-place-len-clause-share : goal.returns-else-place-len-clause-share
returns-else-place-len-clause-share c = grind (arith, elements)
