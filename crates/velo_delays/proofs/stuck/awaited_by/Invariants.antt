use Rattle.std.proofs.Common.{◌≡◌, ◌≤◌, ◌+◌, length, map, take}
use Rattle.std.specs.Prelude.{slice_index, vec_capacity}
use Rattle.velo_delays.specs.Deadlock.{awaited}
use Rattle.velo_delays.proofs.stuck.awaited_by.Given as goal

abbrev pub invariant-loop-one : goal.invariant-loop-one
invariant-loop-one l = record {
  waiting : l.waiting.items ≡ map (awaited l.log (slice_index l.places)) (take l.one-index l.circle);
  room : length l.circle ≤ vec_capacity l.waiting;
}
