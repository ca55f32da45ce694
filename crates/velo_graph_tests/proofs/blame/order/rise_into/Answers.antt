use Rattle.velo_graph_tests.specs.Rising.{RisesAt}
use Rattle.velo_graph_tests.proofs.OnRising.{below_more}
use Rattle.velo_graph_tests.proofs.blame.order.rise_into.Goals as goal

pub loop-i-preserved : goal.loop-i-preserved
loop-i-preserved c =
    below_more (λ k. RisesAt c.args.trace.now.events c.args.ranks.now k c.args.j) c.loop-i.i c.loop-i.invariant (c.rises_at.ensures c.if-not-rises_at.false)
