use Rattle.std.proofs.Common.{length}
use Rattle.velo_traces.specs.Places.{AllHavePlaces, sizes}
use Rattle.velo_certify.specs.Cycle.{IsLinked}
use Rattle.velo_certify.proofs.cycle.is_linked.Given as goal

abbrev pub invariant-loop-k : goal.invariant-loop-k
invariant-loop-k l = record {
  names : AllHavePlaces (sizes l.table) l.events (length l.events);
  linked : IsLinked l.events l.cycle l.k;
}
