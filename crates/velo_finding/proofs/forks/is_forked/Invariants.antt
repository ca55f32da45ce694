use Rattle.std.proofs.Common.{◌≡◌, take}
use Rattle.std.specs.List.{list_any}
use Rattle.velo_finding.specs.Forks.{forks}
use Rattle.velo_finding.proofs.forks.is_forked.Given as goal

abbrev pub invariant-loop-other : goal.invariant-loop-other
invariant-loop-other l = l.forked ≡ list_any (list_any (forks l.fn.thread)) (take l.other l.fn.workload.bodies)
