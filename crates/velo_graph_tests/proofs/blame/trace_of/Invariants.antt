use Rattle.std.proofs.Common.{◌≡◌, take}
use Rattle.velo_graph_tests.proofs.blame.trace_of.Given as goal

abbrev pub invariant-loop-i : goal.invariant-loop-i
invariant-loop-i l = l.trace.events ≡ take l.i l.events
