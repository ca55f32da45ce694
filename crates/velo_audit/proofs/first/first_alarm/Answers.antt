use Rattle.velo_filter.specs.Tables.{left_of}
use Rattle.velo_audit.proofs.OnWitness.{first-alarm-told}
use Rattle.velo_audit.proofs.first.first_alarm.Goals as goal

pub returns-clause-first : goal.returns-clause-first
returns-clause-first c =
    first-alarm-told c.args.log.now.events (left_of c.args.left.now) c.in_ok-told.field-0 c.in-Some.told c.in-Some-witness.evidence c.in_ok-told.ensures.tells c.in-Some.is c.in-Some-witness.is
