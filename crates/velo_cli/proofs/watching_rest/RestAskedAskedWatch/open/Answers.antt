use Rattle.velo_filter.specs.Tables.{left_of}
use Rattle.velo_cli.proofs.OnWatching.{can_start}
use Rattle.velo_cli.proofs.watching_rest.RestAskedAskedWatch.open.Goals as goal

pub returns : goal.returns
returns g c = can_start (left_of c.args.self.now.left.now) c.open.result c.open.ensures.goes_on
