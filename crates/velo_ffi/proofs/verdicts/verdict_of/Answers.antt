use Rattle.std.proofs.Common.{rules}
use Rattle.velo_ffi.proofs.OnVerdicts.{verdict_of_alarm}
use Rattle.velo_ffi.proofs.verdicts.verdict_of.Goals as goal

pub returns-in-Some : goal.returns-in-Some
returns-in-Some c = verdict_of_alarm _ c.in-Some.alarm.now _ _ (search rules) (search rules) (search rules)
