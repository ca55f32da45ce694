use Rattle.std.proofs.Common.{rules}
use Rattle.velo_claims.proofs.OnJudging.{cycle_right}
use Rattle.velo_claims.proofs.judging.judge_cycle.Goals as goal

pub returns : goal.returns
returns c =
    cycle_right c.args.log.now.events c.args.claim.now c.args.alarm c.certificate-cycle.result.now c.certificate-cycle.ensures c.requires.events c.requires.alarm
    (c.in_ok-check_cycle.ensures.0 (search rules)) (search rules)
