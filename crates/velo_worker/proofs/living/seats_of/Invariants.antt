use Rattle.std.proofs.Common.{◌≡◌, length}
use Rattle.std.specs.Prelude.{All}
use Rattle.velo_worker.specs.declared.outcome.Outcome.TheVariants.{Done}
use Rattle.velo_worker.specs.Live.{HasDone}
use Rattle.velo_worker.proofs.living.seats_of.Given as goal

abbrev pub invariant-loop-worker : goal.invariant-loop-worker
invariant-loop-worker l =
    All (λ worker. worker.outcome ≡ Done) l.fn.ended.items → All (λ worker. worker.outcome ≡ Done) l.ended.items × All (HasDone l.workload) l.seats.items

abbrev pub decreases-loop-worker : goal.decreases-loop-worker
decreases-loop-worker l = length l.ended.items
