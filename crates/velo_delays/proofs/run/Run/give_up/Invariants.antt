use Rattle.velo_delays.specs.Stands.{Stands}
use Rattle.velo_delays.proofs.run.Run.give_up.Given as goal

abbrev pub invariant-loop : goal.invariant-loop
invariant-loop l = Stands l.self.heap
