use Rattle.std.proofs.Common.{◌≡◌}
use Rattle.velo_traces.specs.Numbers.{HasNumbers}
use Rattle.velo_traces.specs.Places.{sizes}
use Rattle.velo_certify.specs.Table.{numbers_before}
use Rattle.velo_certify.specs.Nearest.{own_positions}
use Rattle.velo_certify.proofs.OnNearest.{IsNearestSoFar}
use Rattle.velo_certify.proofs.nearest.nearest_next.Given as goal

abbrev pub invariant-loop-at : goal.invariant-loop-at
invariant-loop-at l = record {
  sizes : sizes l.table ≡ sizes l.fn.table;
  numbers : HasNumbers l.events (numbers_before (own_positions l.events l.from) l.at) l.table;
  nearest : IsNearestSoFar l.events l.distance l.from l.at l.nearest;
}
