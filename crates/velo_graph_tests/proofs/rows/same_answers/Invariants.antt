use Rattle.std.proofs.Common.{◌≡◌}
use Rattle.velo_graph_tests.proofs.rows.same_answers.Given as goal

abbrev pub invariant-loop-call : goal.invariant-loop-call
invariant-loop-call g l =
    let first = g.A.Ancestors.capacity in
    let second = g.B.Ancestors.capacity in
    (first l.one ≡ l.limit) × ((first l.other ≡ l.limit) × ((second l.one_too ≡ l.limit) × (second l.other_too ≡ l.limit)))
