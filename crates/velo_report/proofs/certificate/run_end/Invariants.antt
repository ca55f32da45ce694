use Rattle.std.proofs.Common.{◌-◌, length}
use Rattle.velo_report.proofs.OnRuns.{RunsSoFar}
use Rattle.velo_report.proofs.certificate.run_end.Given as goal

abbrev pub invariant-loop-depth : goal.invariant-loop-depth
invariant-loop-depth l = RunsSoFar l.events l.order l.from l.end l.depth

abbrev pub decreases-loop-depth : goal.decreases-loop-depth
decreases-loop-depth l = length l.order - l.end
