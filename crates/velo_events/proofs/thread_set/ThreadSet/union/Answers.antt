use Rattle.velo_events.proofs.OnThreadSets.{up-or}
use Rattle.velo_events.proofs.thread_set.ThreadSet.union.Goals as goal

pub returns : goal.returns
returns c u = up-or c.args.self.0 c.args.other.0 u
