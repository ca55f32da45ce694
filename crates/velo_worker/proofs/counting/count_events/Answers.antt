use Rattle.velo_worker.proofs.OnCounts.{counted_all}
use Rattle.velo_worker.proofs.counting.count_events.Goals as goal

pub returns : goal.returns
returns c = counted_all c.args.body.now c.count_level.result c.saturating_add.result c.count_level.ensures.count c.saturating_add.ensures
