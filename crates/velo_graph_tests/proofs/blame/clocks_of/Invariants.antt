use Rattle.std.proofs.Common.{◌≡◌}
use Rattle.velo_graph_tests.specs.declared.blame.TheConstants.{BOUNDS}
use Rattle.velo_graph_tests.proofs.blame.clocks_of.Given as goal

abbrev pub invariant-loop-i : goal.invariant-loop-i
invariant-loop-i g l = l.clocks.bounds ≡ BOUNDS
