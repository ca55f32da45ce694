use Rattle.std.proofs.Common.{◌≡◌, ◌-◌, ◌^◌, min, take}
use Rattle.std.specs.Prelude.{sum_by}
use Rattle.velo_worker.specs.Counts.{body_events}
use Rattle.velo_explore.proofs.scripts.count_all.Given as goal

abbrev pub invariant-loop-thread : goal.invariant-loop-thread
invariant-loop-thread l = l.count ≡ min (sum_by body_events (take l.thread l.fn.workload.bodies)) (2 ^ 64 - 1)
