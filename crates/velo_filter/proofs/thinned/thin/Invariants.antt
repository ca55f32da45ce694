use Rattle.velo_filter.specs.Tables.{left_of}
use Rattle.velo_filter.specs.Thinned.{IsThinnedTo}
use Rattle.velo_filter.proofs.thinned.thin.Given as goal

abbrev pub invariant-loop-position : goal.invariant-loop-position
invariant-loop-position l = record { stands : IsThinnedTo (left_of l.left) l.events l.position l.thinned l.rows.items }
