use Rattle.std.proofs.Common.{◌-◌, length}
use Rattle.velo_schedule_text.proofs.OnShort.{IsFront}
use Rattle.velo_schedule_text.proofs.short.first_turns.Given as goal

abbrev pub invariant-loop-count : goal.invariant-loop-count
invariant-loop-count l = IsFront l.schedule l.thread l.count

abbrev pub decreases-loop-count : goal.decreases-loop-count
decreases-loop-count l = length l.schedule - l.count
