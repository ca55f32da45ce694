use Rattle.velo_filter.specs.Tables.{left_of, members}
use Rattle.velo_audit.specs.Count.{IsCountedTo}
use Rattle.velo_audit.proofs.count.count_labels_left.Given as goal

abbrev pub invariant-loop-position : goal.invariant-loop-position
invariant-loop-position l = record { stands : IsCountedTo (left_of l.left) l.events l.position (members l.seen) l.count }
