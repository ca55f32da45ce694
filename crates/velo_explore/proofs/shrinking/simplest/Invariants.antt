use Rattle.std.proofs.Common.{◌<◌, ◌≤◌, All, length}
use Rattle.velo_events.specs.declared.event.ThreadId.{ThreadId}
use Rattle.velo_events.specs.declared.limits.TheConstants.{MAX_THREADS}
use Rattle.velo_explore.specs.Goals.{Reached}
use Rattle.velo_explore.proofs.shrinking.simplest.Given as goal

abbrev pub invariant-loop : goal.invariant-loop
invariant-loop l = record {
  shows : Reached l.fn.workload l.fn.config l.fn.goal l.best.items;
  shorter : length l.best.items ≤ length l.fn.schedule.items;
  threads : All (λ (t : ThreadId). t.0 < MAX_THREADS) l.best.items;
}
