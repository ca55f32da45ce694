use Rattle.std.proofs.Common.{subst}
use Rattle.velo_world.specs.Faults.{IsFaultOfLog}
use Rattle.velo_laws.proofs.OnRenewals.{too_long}
use Rattle.velo_laws.proofs.renewal.open_after.Goals as goal

pub returns-in-Err-Refused-clause-reason : goal.returns-in-Err-Refused-clause-reason
returns-in-Err-Refused-clause-reason c =
    too_long c.args.config c.args.made.events _ _ c.requires.well_formed c.requires.no_begin
    (subst (IsFaultOfLog c.args.config c.args.made.events) c.in-Err-Refused.field-0-is c.in-Err-Refused.ensures.fault)
