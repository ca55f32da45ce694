use Rattle.std.proofs.Common.{◌+◌, length, take, sym, subst}
use Rattle.velo_certify.specs.Cycle.{IsLinked}
use Rattle.velo_certify.proofs.OnEdges.{IsLinked-of}
use Rattle.velo_certify.proofs.edges.edge_events_of.Goals as goal

pub all_edge_events-requires : goal.all_edge_events-requires
all_edge_events-requires c =
    let p = c.args.position in let cycle = c.args.cycle.now in
    record {
      linked = subst (λ events. IsLinked (take (p + 1) events) cycle (length cycle)) (sym c.as_slice-events.ensures)
          (IsLinked-of (take (p + 1) c.args.trace.now.events) cycle c.requires.cyclic);
    }
