use Rattle.std.proofs.Common.{◌≡◌}
use Rattle.velo_graph_tests.proofs.rows.row_of.Given as goal

abbrev pub invariant-loop-slot : goal.invariant-loop-slot
invariant-loop-slot g l = g.A.Ancestors.capacity l.row ≡ l.limit
