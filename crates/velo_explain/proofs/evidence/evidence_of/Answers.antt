use Rattle.std.proofs.Common.{rules}
use Rattle.velo_explain.proofs.OnEvidence.{IsWithin-of}
use Rattle.velo_explain.proofs.OnReasons.{HaveReasons-by}
use Rattle.velo_explain.proofs.evidence.evidence_of.Goals as goal

pub returns-clause-reasons : goal.returns-clause-reasons
returns-clause-reasons c = λ none.
    HaveReasons-by c.args.trace.now.events c.args.position c.args.blamed.now _ c.in_ok-cycle.ensures.cycle.is_cycle.in_trace c.in_ok-blames.ensures none

pub returns-clause-within : goal.returns-clause-within
returns-clause-within c = IsWithin-of c.args.trace.now.events c.args.position c.args.blamed.now _ (search rules)
