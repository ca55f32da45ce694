use Rattle.std.proofs.Common.{rules}
use Rattle.velo_events.proofs.event.conflicts.Goals as goal

pub returns-in-Fork-default : goal.returns-in-Fork-default
returns-in-Fork-default c = search rules

pub returns-in-Fork-default-2 : goal.returns-in-Fork-default-2
returns-in-Fork-default-2 c = search rules

pub returns-in_default-2 : goal.returns-in_default-2
returns-in_default-2 c = search rules
