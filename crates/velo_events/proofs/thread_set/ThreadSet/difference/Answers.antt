use Rattle.std.proofs.Common.{◌<◌, rules}
use Rattle.velo_events.proofs.OnThreadSets.{up-difference}
use Rattle.velo_events.proofs.thread_set.ThreadSet.difference.Goals as goal

pub returns : goal.returns
returns c u =
    let fits : c.args.self.0 < 18446744073709551616 = search rules in
    let fits_too : c.args.other.0 < 18446744073709551616 = search rules in
    up-difference c.args.self.0 c.args.other.0 u fits fits_too
