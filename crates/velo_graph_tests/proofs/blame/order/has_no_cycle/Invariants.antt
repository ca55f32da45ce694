use Rattle.velo_graph_tests.specs.Rising.{RiseBelow}
use Rattle.velo_graph_tests.proofs.blame.order.has_no_cycle.Given as goal

abbrev pub invariant-loop-j : goal.invariant-loop-j
invariant-loop-j l = RiseBelow l.trace.events l.ranks l.j
