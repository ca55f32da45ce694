use Rattle.velo_monitor.specs.Heirs.{AreGoing}
use Rattle.velo_monitor.proofs.heirs.find_going.Given as goal

abbrev pub invariant-loop-slot : goal.invariant-loop-slot
invariant-loop-slot l = AreGoing l.graph l.events l.going l.slot
