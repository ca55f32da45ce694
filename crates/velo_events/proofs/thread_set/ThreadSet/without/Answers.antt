use Rattle.std.proofs.Common.{◌<◌, rules}
use Rattle.velo_events.proofs.OnThreadSets.{up-without}
use Rattle.velo_events.proofs.thread_set.ThreadSet.without.Goals as goal

pub returns-clause-members : goal.returns-clause-members
returns-clause-members c u =
    let fits : c.args.self.0 < 18446744073709551616 = search rules in
    up-without c.args.self.0 c.args.thread.0 u c.requires fits
