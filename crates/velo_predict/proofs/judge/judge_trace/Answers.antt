use Rattle.std.proofs.Common.{arith}
use Rattle.std.proofs.lemmas.Grind.{common_steps}
use Rattle.velo_predict.proofs.judge.judge_trace.Goals as goal

pub take_in-requires-clause-stands : goal.take_in-requires-clause-stands
take_in-requires-clause-stands c =
    let stands = c.loop-position.invariant.stands in
    grind (arith, common_steps)
