use Rattle.velo_filter.specs.Tables.{marked}
use Rattle.velo_thinning.specs.Finding.{IsLeftTo}
use Rattle.velo_thinning.proofs.leaving.without_repeats.Given as goal

abbrev pub invariant-loop-position : goal.invariant-loop-position
invariant-loop-position l = record { stands : IsLeftTo (marked l.marks.items) l.events l.position l.left }
