use Rattle.std.proofs.Common.{◌≡◌, ◌≤◌, length, take}
use Rattle.std.specs.Prelude.{vec_capacity}
use Rattle.velo_sidecars.proofs.sites.copied.Given as goal

abbrev pub invariant-loop-place : goal.invariant-loop-place
invariant-loop-place l = record {
  copies : l.copies.items ≡ take l.place-index l.places;
  room : length l.places ≤ vec_capacity l.copies;
}
