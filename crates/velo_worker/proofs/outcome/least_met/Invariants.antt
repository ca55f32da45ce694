use Rattle.std.specs.Prelude.{IfSome}
use Rattle.velo_worker.specs.Causes.{HasCause}
use Rattle.velo_worker.proofs.OnEndings.{LeastUpTo}
use Rattle.velo_worker.proofs.outcome.least_met.Given as goal

abbrev pub invariant-loop-worker : goal.invariant-loop-worker
invariant-loop-worker l = record {
  least : LeastUpTo l.ended l.worker-index l.least;
  cause : IfSome l.least (λ found. HasCause found.1);
}
