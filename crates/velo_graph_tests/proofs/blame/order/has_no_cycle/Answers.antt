use Rattle.std.proofs.Common.{◌≡◌, length, subst, arith}
use Rattle.velo_graph_tests.specs.Rising.{RiseInto, RiseBelow}
use Rattle.velo_graph_tests.proofs.OnRising.{below_more, no_cycle-rising}
use Rattle.velo_graph_tests.proofs.blame.order.has_no_cycle.Goals as goal

pub loop-j-preserved : goal.loop-j-preserved
loop-j-preserved c = record {
  each = below_more (RiseInto c.args.trace.now.events c.args.ranks.now) c.loop-j.j c.loop-j.invariant.each (c.rise_into.ensures c.if-not-rise_into.false);
}

pub returns : goal.returns
returns c yes_it_is =
    let all : c.loop-j.j ≡ length c.args.trace.now.events = omega arith in
    no_cycle-rising c.args.trace.now.events c.args.ranks.now (subst (RiseBelow c.args.trace.now.events c.args.ranks.now) all c.loop-j.invariant)
