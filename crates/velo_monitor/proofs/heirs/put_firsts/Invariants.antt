use Rattle.velo_monitor.specs.Heirs.{AreFirsts}
use Rattle.velo_monitor.proofs.heirs.put_firsts.Given as goal

abbrev pub invariant-loop-s : goal.invariant-loop-s
invariant-loop-s l = AreFirsts l.graph l.events l.going l.firsts l.slot l.s
