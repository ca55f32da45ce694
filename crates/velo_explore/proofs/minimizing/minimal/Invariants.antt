use Rattle.std.proofs.Common.{◌<◌, ◌≤◌, All, length}
use Rattle.velo_events.specs.declared.event.ThreadId.{ThreadId}
use Rattle.velo_events.specs.declared.limits.TheConstants.{MAX_THREADS}
use Rattle.velo_explore.specs.Goals.{Reached}
use Rattle.velo_explore.proofs.minimizing.minimal.Given as goal

abbrev pub invariant-loop-best : goal.invariant-loop-best
invariant-loop-best l = record {
  shows : Reached l.fn.workload l.fn.config l.fn.goal l.best.items;
  shorter : length l.best.items ≤ length l.fn.schedule.items;
  threads : All (λ (t : ThreadId). t.0 < MAX_THREADS) l.best.items;
}

abbrev pub decreases-loop-best : goal.decreases-loop-best
decreases-loop-best l = length l.best.items
