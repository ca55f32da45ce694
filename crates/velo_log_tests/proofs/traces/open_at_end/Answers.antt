use Rattle.velo_events.proofs.OnDepths.{length-open_blocks-le}
use Rattle.velo_log_tests.proofs.traces.open_at_end.Goals as goal

pub open_blocks-requires : goal.open_blocks-requires
open_blocks-requires g c = length-open_blocks-le _ c.args.trace.now.events c.args.t.0 c.in-Ok.ensures.ok
