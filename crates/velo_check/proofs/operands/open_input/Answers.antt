use Rattle.std.proofs.Common.{inr, refl, rules}
use Rattle.velo_check.proofs.operands.open_input.Goals as goal

pub returns-in-Some-target-clause-barred : goal.returns-in-Some-target-clause-barred
returns-in-Some-target-clause-barred g c =
    rw c.in-Some-target.is (inr (refl, search rules, (_, c.in-Some.ensures.some c.in-Some.file)))
