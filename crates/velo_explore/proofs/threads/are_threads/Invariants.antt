use Rattle.std.proofs.Common.{◌<◌, All, take}
use Rattle.velo_events.specs.declared.event.ThreadId.{ThreadId}
use Rattle.velo_events.specs.declared.limits.TheConstants.{MAX_THREADS}
use Rattle.velo_explore.proofs.threads.are_threads.Given as goal

abbrev pub invariant-loop-turn : goal.invariant-loop-turn
invariant-loop-turn l = All (λ (t : ThreadId). t.0 < MAX_THREADS) (take l.turn-index l.schedule)
