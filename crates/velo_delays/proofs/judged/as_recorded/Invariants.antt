use Rattle.std.proofs.Common.{◌≡◌, ◌≤◌, ◌+◌, length, map, take}
use Rattle.std.specs.Prelude.{vec_capacity}
use Rattle.velo_delays.specs.Differing.{differing_of}
use Rattle.velo_delays.proofs.judged.as_recorded.Given as goal

abbrev pub invariant-loop-difference : goal.invariant-loop-difference
invariant-loop-difference l = record {
  differing : l.differing.items ≡ map (differing_of l.log) (take l.difference-index l.differences);
  room : length l.differences ≤ vec_capacity l.differing;
}
