use Rattle.std.proofs.Common.{◌<◌, ◌≤◌, All, length}
use Rattle.velo_events.specs.declared.event.ThreadId.{ThreadId}
use Rattle.velo_events.specs.declared.limits.TheConstants.{MAX_THREADS}
use Rattle.velo_explore.proofs.OnStrangers.{LeadsBefore}
use Rattle.velo_explore.proofs.threads.of_its_threads.Given as goal

abbrev pub invariant-loop-turn : goal.invariant-loop-turn
invariant-loop-turn l = record {
  shows : LeadsBefore l.fn.workload l.schedule l.turn-index l.turns.items;
  threads : All (λ (t : ThreadId). t.0 < MAX_THREADS) l.turns.items;
  fewer : length l.turns.items ≤ l.turn-index;
}
