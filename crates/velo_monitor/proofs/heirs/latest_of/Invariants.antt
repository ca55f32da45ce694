use Rattle.velo_monitor.specs.Heirs.{IsLatest}
use Rattle.velo_monitor.proofs.heirs.latest_of.Given as goal

abbrev pub invariant-loop-s : goal.invariant-loop-s
invariant-loop-s l = IsLatest l.graph l.going l.firsts l.t l.slot l.s l.latest
