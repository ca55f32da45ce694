use Rattle.std.proofs.Common.{◌≡◌, length}
use Rattle.velo_worker.specs.Progress.{settled}
use Rattle.velo_worker.proofs.progress.Progress.settle.Given as goal

abbrev pub invariant-loop-statement : goal.invariant-loop-statement
invariant-loop-statement l = settled l.self ≡ settled l.initial.self

abbrev pub decreases-loop-statement : goal.decreases-loop-statement
decreases-loop-statement l = length l.self.left
