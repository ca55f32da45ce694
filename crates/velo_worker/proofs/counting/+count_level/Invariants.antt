use Rattle.std.proofs.Common.{◌-◌, length}
use Rattle.velo_worker.proofs.OnCounts.{Counted}
use Rattle.velo_worker.proofs.counting.+count_level.Given as goal

abbrev pub decreases-count_level : goal.decreases-count_level
decreases-count_level l = length l.body.now - l.position.now

abbrev pub invariant-loop-position : goal.invariant-loop-position
invariant-loop-position l = Counted l.body l.fn.position l.position l.count

abbrev pub decreases-loop-position : goal.decreases-loop-position
decreases-loop-position l = length l.body - l.position
