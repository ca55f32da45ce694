use Rattle.velo_monitor.specs.Heirs.{AreFirsts}
use Rattle.velo_monitor.proofs.heirs.find_firsts.Given as goal

abbrev pub invariant-loop-slot : goal.invariant-loop-slot
invariant-loop-slot l = AreFirsts l.graph l.events l.going l.firsts l.slot 0
