use Rattle.velo_worker.proofs.OnLogs.{WentAlong}
use Rattle.velo_worker.proofs.retracing.all_follow.Given as goal

abbrev pub invariant-loop-event : goal.invariant-loop-event
invariant-loop-event l = WentAlong l.fn.threads.items l.log l.event-index l.threads.items
