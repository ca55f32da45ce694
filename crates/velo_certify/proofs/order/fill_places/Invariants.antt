use Rattle.std.proofs.Common.{◌≡◌, length}
use Rattle.velo_certify.specs.Order.{IsFilled}
use Rattle.velo_certify.proofs.order.fill_places.Given as goal

abbrev pub invariant-loop-k : goal.invariant-loop-k
invariant-loop-k l = record {
  count : length l.places.items ≡ length l.initial.places.items;
  filled : IsFilled l.order l.k l.places.items;
}
