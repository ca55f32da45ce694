use Rattle.std.proofs.Common.{◌≡◌, map}
use Rattle.std.specs.FinSet as set
use Rattle.velo_graph.specs.Rows.{ChangesFirst, without}
use Rattle.velo_graph.proofs.rows.leave_out_first.Given as goal

abbrev pub invariant-loop-n : goal.invariant-loop-n
invariant-loop-n g l =
    ChangesFirst (λ k. without (set.contains (g.A.Ancestors.members l.gone) k) (g.A.Ancestors.members l.gone)) (map g.A.Ancestors.members l.initial.rows) (map g.A.Ancestors.members l.rows) l.n × (map g.A.Ancestors.capacity l.rows ≡ map g.A.Ancestors.capacity l.initial.rows)
