use Rattle.std.proofs.Common.{◌≡◌, take, map}
use Rattle.velo_worker.specs.Walk.{walk_of}
use Rattle.velo_explore.specs.Bodies.{operations_of}
use Rattle.velo_explore.proofs.scripts.scripts_of.Given as goal

abbrev pub invariant-loop-thread : goal.invariant-loop-thread
invariant-loop-thread l = map (λ own. own.items) l.threads.items ≡ map (λ body. operations_of (walk_of body)) (take l.thread l.fn.workload.bodies)
