use Rattle.std.proofs.Common.{length}
use Rattle.velo_predict.proofs.OnCircles.{fewer_left, in_none_after}
use Rattle.velo_predict.proofs.circle.threads_out.Goals as goal

pub loop-t-smaller : goal.loop-t-smaller
loop-t-smaller c = fewer_left (length c.args.rows.now) c.in-Some.t c.loop-t.out c.with-out.result c.in-Some.ensures.found.0 c.in-Some.ensures.found.1 c.with-out.ensures.members

pub loop-t-preserved : goal.loop-t-preserved
loop-t-preserved c = in_none_after c.args.rows.now c.loop-t.out c.with-out.result c.in-Some.t c.loop-t.invariant c.in-Some.ensures.found.2 c.with-out.ensures.members
