use Rattle.velo_traces.specs.Places.{sizes_of, AllHavePlaces}
use Rattle.velo_traces.proofs.counts.counts_of.Given as goal

abbrev pub invariant-loop-i : goal.invariant-loop-i
invariant-loop-i l = AllHavePlaces (sizes_of l.counts.threads l.counts.cells) l.events l.i
