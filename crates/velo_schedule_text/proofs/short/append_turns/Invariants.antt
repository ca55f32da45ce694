use Rattle.std.proofs.Common.{◌≡◌, ◌++◌, length}
use Rattle.velo_schedule_text.specs.Schedule.{spaced}
use Rattle.velo_schedule_text.specs.Short.{stretches_of}
use Rattle.velo_schedule_text.proofs.short.append_turns.Given as goal

abbrev pub invariant-loop-rest : goal.invariant-loop-rest
invariant-loop-rest l = l.text.items ++ spaced (stretches_of l.rest) ≡ l.fn.text.items ++ spaced (stretches_of l.fn.schedule)

abbrev pub decreases-loop-rest : goal.decreases-loop-rest
decreases-loop-rest l = length l.rest
