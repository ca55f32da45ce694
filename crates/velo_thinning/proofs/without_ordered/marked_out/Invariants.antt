use Rattle.velo_filter.specs.Tables.{left_of}
use Rattle.velo_thinning.proofs.OnMarkedOut.{IsMarkedOut}
use Rattle.velo_thinning.proofs.without_ordered.marked_out.Given as goal

abbrev pub invariant-loop-variable : goal.invariant-loop-variable
invariant-loop-variable l = record { out : IsMarkedOut l.marks l.variable (left_of l.left) }
