use Rattle.std.proofs.Common.{◌≡◌, ◌≤◌, length, map, take}
use Rattle.std.specs.Prelude.{option_map, slice_index, vec_capacity}
use Rattle.velo_delays.proofs.sources.places_of_sources.Given as goal

abbrev pub invariant-loop-source : goal.invariant-loop-source
invariant-loop-source l = record {
  read : l.read.items ≡ map (option_map (slice_index l.places)) (take l.source-index l.sources);
  room : length l.sources ≤ vec_capacity l.read;
}
