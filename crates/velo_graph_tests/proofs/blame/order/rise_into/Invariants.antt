use Rattle.std.proofs.Common.{ℕ, ◌<◌}
use Rattle.velo_graph_tests.specs.Rising.{RisesAt}
use Rattle.velo_graph_tests.proofs.blame.order.rise_into.Given as goal

abbrev pub invariant-loop-i : goal.invariant-loop-i
invariant-loop-i l = (i : ℕ) → i < l.i → RisesAt l.trace.events l.ranks i l.j
