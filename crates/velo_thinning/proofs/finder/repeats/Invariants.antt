use Rattle.velo_thinning.specs.Finding.{IsFound, AreFound}
use Rattle.velo_thinning.proofs.finder.repeats.Given as goal

abbrev pub invariant-loop-position : goal.invariant-loop-position
invariant-loop-position l = record {
  found : IsFound l.events l.position l.finder;
  marks : AreFound l.events l.position l.marks.items;
}
