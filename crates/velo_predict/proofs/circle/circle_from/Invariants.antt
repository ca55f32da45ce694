use Rattle.std.proofs.Common.{◌≡◌, length}
use Rattle.velo_predict.specs.Circles.{IsWalk}
use Rattle.velo_predict.proofs.circle.circle_from.Given as goal

abbrev pub invariant-loop-taken : goal.invariant-loop-taken
invariant-loop-taken l = record {
  walk : IsWalk l.rows l.out l.path.items l.next;
  count : length l.path.items ≡ l.taken;
}
