use Rattle.velo_audit.proofs.OnAnswers.{if_err}
use Rattle.velo_audit.proofs.OnFewNodes.{fault-by}
use Rattle.velo_audit.proofs.round.replayed.Goals as goal

pub returns-clause-fault : goal.returns-clause-fault
returns-clause-fault c = if_err c.of_log.result
    (λ fault. fault-by c.with_few_nodes.result c.args.config.now c.args.log.events fault c.with_few_nodes.ensures.bounds c.with_few_nodes.ensures.events c.with_few_nodes.ensures.nodes) c.of_log.ensures.fault
