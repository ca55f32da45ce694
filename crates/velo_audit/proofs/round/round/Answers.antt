use Rattle.std.proofs.Common.{subst}
use Rattle.velo_filter.specs.Tables.{left_of}
use Rattle.velo_audit.specs.Verdict.{IsRoundVerdict}
use Rattle.velo_audit.proofs.round.round.Goals as goal

pub returns-in-Told-clause-tells : goal.returns-in-Told-clause-tells
returns-in-Told-clause-tells c = subst (IsRoundVerdict c.args.with_witness c.args.log.now.events (left_of c.args.left.now)) c.in-Told.is c.in_ok-told.ensures.verdict

pub returns-in-NoCycle-clause-tells : goal.returns-in-NoCycle-clause-tells
returns-in-NoCycle-clause-tells c = subst (IsRoundVerdict c.args.with_witness c.args.log.now.events (left_of c.args.left.now)) c.in-NoCycle.is c.in_ok-told.ensures.verdict
