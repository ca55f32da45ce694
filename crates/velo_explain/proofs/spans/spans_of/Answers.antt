use Rattle.std.proofs.Common.{◌+◌, take, sym, subst}
use Rattle.velo_explain.specs.Spans.{AreTransactions}
use Rattle.velo_explain.proofs.OnEvidence.{AreTransactions-of}
use Rattle.velo_explain.proofs.spans.spans_of.Goals as goal

pub all_spans-requires : goal.all_spans-requires
all_spans-requires c =
    let p = c.args.position in
    subst (λ events. AreTransactions (take (p + 1) events) c.args.cycle.now) (sym c.as_slice-events.ensures)
    (AreTransactions-of (take (p + 1) c.args.trace.now.events) c.args.cycle.now c.requires.cyclic)
