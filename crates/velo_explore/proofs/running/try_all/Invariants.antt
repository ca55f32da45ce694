use Rattle.std.proofs.Common.{◌≡◌, map, take}
use Rattle.velo_explore.specs.Tallies.{IsTriedBy}
use Rattle.velo_explore.proofs.running.try_all.Given as goal

abbrev pub invariant-loop-place : goal.invariant-loop-place
invariant-loop-place l = record {
  tried : IsTriedBy l.fn.workload l.fn.config (map (λ schedule. schedule.items) (take l.place l.fn.schedules)) l.tally;
  runs : l.tally.runs ≡ l.place;
}
