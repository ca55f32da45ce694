use Rattle.std.proofs.Common.{rules}
use Rattle.velo_events.proofs.config.Config.new.Goals as goal

pub returns-then-bounds-gt-MAX_LOCKS-clause-bad : goal.returns-then-bounds-gt-MAX_LOCKS-clause-bad
returns-then-bounds-gt-MAX_LOCKS-clause-bad c = search rules

pub returns-clause-stop : goal.returns-clause-stop
returns-clause-stop c = search rules

pub returns-then-events-lt1-clause-bad : goal.returns-then-events-lt1-clause-bad
returns-then-events-lt1-clause-bad c = search rules

pub returns-then-nodes-lt1-clause-bad : goal.returns-then-nodes-lt1-clause-bad
returns-then-nodes-lt1-clause-bad c = search rules

pub invariant_of-result : goal.invariant_of-result
invariant_of-result c = search rules
