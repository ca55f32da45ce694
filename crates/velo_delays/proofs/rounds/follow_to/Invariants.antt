use Rattle.velo_delays.specs.Stands.{Stands}
use Rattle.velo_delays.proofs.rounds.follow_to.Given as goal

abbrev pub invariant-loop-position : goal.invariant-loop-position
invariant-loop-position l = Stands l.run.heap
