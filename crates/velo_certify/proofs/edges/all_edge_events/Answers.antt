use Rattle.std.proofs.Common.{◌+◌, length, sym, subst, arith}
use Rattle.velo_traces.specs.Places.{AllHavePlaces}
use Rattle.velo_certify.specs.Edges.{ShowEdgesSoFar}
use Rattle.velo_certify.proofs.OnEdges.{ShowEdgesSoFar-next}
use Rattle.velo_certify.proofs.edges.all_edge_events.Goals as goal

pub loop-k-preserved : goal.loop-k-preserved
loop-k-preserved c =
    let trace = c.args.events.now in let cycle = c.args.cycle.now in let k = c.loop-k.k in
    record {
      names = subst (λ s. AllHavePlaces s trace (length trace)) (sym c.next_edge_events.ensures.names) c.loop-k.invariant.names;
      edges = subst (ShowEdgesSoFar trace cycle (k + 1)) (sym c.push_reserved.ensures.items)
          (ShowEdgesSoFar-next trace cycle k c.loop-k.edges.items c.next_edge_events.result c.loop-k.invariant.edges c.next_edge_events.ensures.edge);
      room = omega (arith, c.push_reserved.ensures.capacity, c.loop-k.invariant.room);
    }
