use Rattle.std.proofs.lemmas.Result.{IfOk-weaker}
use Rattle.velo_claims.proofs.OnJudging.{verified_exactly}
use Rattle.velo_claims.proofs.judging.judge.Goals as goal

pub returns-in-None-clause-verified : goal.returns-in-None-clause-verified
returns-in-None-clause-verified c =
    IfOk-weaker c.judge_order.result _ _ (verified_exactly c.args.log.now.events c.args.claim.now) c.judge_order.ensures
