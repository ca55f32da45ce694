use Rattle.velo_events.proofs.OnThreadSets.{up-with}
use Rattle.velo_events.proofs.thread_set.ThreadSet.with.Goals as goal

pub returns-clause-members : goal.returns-clause-members
returns-clause-members c u = up-with c.args.self.0 c.args.thread.0 u c.requires
