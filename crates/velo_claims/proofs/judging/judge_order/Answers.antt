use Rattle.velo_claims.proofs.OnJudging.{order_right, order_wrong}
use Rattle.velo_claims.proofs.judging.judge_order.Goals as goal

pub returns-then-branch : goal.returns-then-branch
returns-then-branch c =
    order_right c.args.log.now.events c.args.claim.now c.certificate-order.result.now c.in_ok-check_order.field-0 c.certificate-order.ensures c.requires.events c.requires.no_alarm c.in_ok-check_order.ensures c.if-branch.true

pub returns : goal.returns
returns c =
    order_wrong c.args.log.now.events c.args.claim.now c.certificate-order.result.now c.in_ok-check_order.field-0 c.refuted_by.result c.certificate-order.ensures c.requires.events c.requires.no_alarm c.in_ok-check_order.ensures c.if-branch.false c.refuted_by.ensures
