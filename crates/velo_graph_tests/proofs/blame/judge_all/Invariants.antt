use Rattle.std.proofs.Common.{◌≡◌}
use Rattle.velo_graph_tests.specs.declared.blame.TheConstants.{BOUNDS}
use Rattle.velo_graph_tests.proofs.blame.judge_all.Given as goal

abbrev pub invariant-loop-known : goal.invariant-loop-known
invariant-loop-known g l = l.scan ≡ BOUNDS
