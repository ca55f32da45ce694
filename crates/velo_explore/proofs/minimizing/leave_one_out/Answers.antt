use Rattle.std.proofs.Common.{◌∙◌, below_more, sym}
use Rattle.velo_explore.proofs.OnShrunk.{at_is_none}
use Rattle.velo_explore.proofs.minimizing.leave_one_out.Goals as goal

pub loop-place-preserved : goal.loop-place-preserved
loop-place-preserved c =
    below_more _ _ c.loop-place.invariant (at_is_none c.in_ok-left.left (sym c.is_some.ensures ∙ c.if-is_some.false) c.in_ok-left.ensures.needed)
