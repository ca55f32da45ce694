use Rattle.std.proofs.Common.{◌≡◌}
use Rattle.std.specs.Prelude.{None}
use Rattle.velo_explain.specs.Latest.{AreLatest, HavePlaces}
use Rattle.velo_explain.specs.Pairs.{first_pair_below, pair_at}
use Rattle.velo_explain.proofs.pairs.first_pair.Given as goal

abbrev pub invariant-loop-at : goal.invariant-loop-at
invariant-loop-at l = record {
  places : HavePlaces l.latest;
  latest : AreLatest l.events l.from l.at l.latest;
  none : first_pair_below l.at (pair_at l.events l.from l.to) ≡ None;
}
