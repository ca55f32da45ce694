use Rattle.std.proofs.Common.{None, Some}
use Rattle.velo_check.proofs.OnVerdicts.{IsVerdict-alarm, IsVerdict-clean}
use Rattle.velo_check.proofs.verdict.verdict_of.Goals as goal

pub returns-in-Some-clause-verdict : goal.returns-in-Some-clause-verdict
returns-in-Some-clause-verdict c = IsVerdict-alarm c.args.closed.now.log _ c.in-Some.ensures.some.closing c.in-Some.ensures.serial_some

pub returns-in-Some-clause-alarm : goal.returns-in-Some-clause-alarm
returns-in-Some-clause-alarm c = (Some _, c.in-Some.ensures.some)

pub returns-in-None-clause-verdict : goal.returns-in-None-clause-verdict
returns-in-None-clause-verdict c = IsVerdict-clean c.args.closed.now.log c.in-None.ensures.none c.in-None.ensures.serial_none

pub returns-in-None-clause-alarm : goal.returns-in-None-clause-alarm
returns-in-None-clause-alarm c = (None, c.in-None.ensures.none)
