use Rattle.velo_filter.specs.Tables.{members}
use Rattle.velo_audit.specs.Cut.{AreBegun}
use Rattle.velo_audit.proofs.cut.add_begun.Given as goal

abbrev pub invariant-loop-position : goal.invariant-loop-position
invariant-loop-position l = record { begun : AreBegun (members l.begun) l.events l.position }
