use Rattle.std.proofs.Common.{take}
use Rattle.velo_thinning.specs.Counting.{AreMarked}
use Rattle.velo_thinning.proofs.counting.count_variables.Given as goal

abbrev pub invariant-loop-event : goal.invariant-loop-event
invariant-loop-event l = record { marks : AreMarked (take l.event-index l.events) l.marks.items }
