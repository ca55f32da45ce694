use Rattle.std.proofs.Common.{◌≡◌}
use Rattle.velo_monitor.specs.Changed.{ForgetsDead}
use Rattle.velo_monitor.proofs.monitor.Monitor.forget_dead_reads.Given as goal

abbrev pub invariant-loop-rest : goal.invariant-loop-rest
invariant-loop-rest l = record {
  forgets : ForgetsDead l.fn.self.nodes l.fn.self.kept l.self.kept;
  nodes : l.self.nodes ≡ l.fn.self.nodes;
  depths : l.self.depths ≡ l.fn.self.depths;
}

abbrev pub decreases-loop-rest : goal.decreases-loop-rest
decreases-loop-rest l = l.rest
