use Rattle.std.proofs.Common.{◌≡◌, take}
use Rattle.velo_explore.specs.Bodies.{operations}
use Rattle.velo_explore.proofs.scripts.operations.Given as goal

abbrev pub invariant-loop-place : goal.invariant-loop-place
invariant-loop-place l = l.kinds.items ≡ operations (take l.place l.fn.statements)
