use Rattle.std.proofs.Common.{◌+◌, sym, subst, arith}
use Rattle.velo_explain.specs.Spans.{AreSpansSoFar}
use Rattle.velo_explain.proofs.OnEvidence.{AreSpansSoFar-next}
use Rattle.velo_explain.proofs.spans.all_spans.Goals as goal

pub loop-k-preserved : goal.loop-k-preserved
loop-k-preserved c =
    let trace = c.args.events.now in let cycle = c.args.cycle.now in let k = c.loop-k.k in
    record {
      spans = subst (AreSpansSoFar trace cycle (k + 1)) (sym c.push_reserved.ensures.items)
          (AreSpansSoFar-next trace cycle k c.loop-k.spans.items c.span_of.result c.loop-k.invariant.spans c.span_of.ensures);
      room = omega (arith, c.push_reserved.ensures.capacity, c.loop-k.invariant.room);
    }
