use Rattle.std.proofs.Common.{◌≡◌, ◌≤◌, length, map, take}
use Rattle.std.specs.Prelude.{vec_capacity, slice_index}
use Rattle.velo_thinning.proofs.thinning.places_through.Given as goal

abbrev pub invariant-loop-place : goal.invariant-loop-place
invariant-loop-place l = record {
  items : l.places.items ≡ map (λ place. slice_index l.outer place) (take l.place-index l.inner);
  room : length l.inner ≤ vec_capacity l.places;
}
