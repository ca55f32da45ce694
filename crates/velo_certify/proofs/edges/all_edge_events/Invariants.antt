use Rattle.std.proofs.Common.{◌≤◌, length}
use Rattle.std.specs.Prelude.{vec_capacity}
use Rattle.velo_traces.specs.Places.{AllHavePlaces, sizes}
use Rattle.velo_certify.specs.Edges.{ShowEdgesSoFar}
use Rattle.velo_certify.proofs.edges.all_edge_events.Given as goal

abbrev pub invariant-loop-k : goal.invariant-loop-k
invariant-loop-k l = record {
  names : AllHavePlaces (sizes l.table) l.events (length l.events);
  edges : ShowEdgesSoFar l.events l.cycle l.k l.edges.items;
  room : length l.cycle ≤ vec_capacity l.edges;
}
