use Rattle.std.proofs.Common.{◌≡◌, ℕ, ◌<◌, ◌∙◌, ap, sym, subst, arith, below_more}
use Rattle.velo_events.specs.declared.config.Bounds.{Bounds}
use Rattle.velo_events.specs.WellFormed.{IsWellFormed}
use Rattle.velo_events.specs.Heap.{depth_in}
use Rattle.velo_laws.proofs.OnCut.{IsQuiet-from}
use Rattle.velo_laws.proofs.OnRenewals.{none_open}
use Rattle.velo_audit.proofs.pieces.is_quiet.Goals as goal

pub loop-thread-init : goal.loop-thread-init
loop-thread-init c = record { none = λ t l. absurd (omega (arith, l)) }

pub loop-thread-preserved : goal.loop-thread-preserved
loop-thread-preserved c = record {
  none = below_more (λ t. depth_in c.args.closed.now.log t ≡ 0) c.loop-thread.thread c.loop-thread.invariant.none (sym (c.depth.ensures c.args.closed.now.log c.heap-heap.ensures.stands) ∙ c.if-depth-ne0.false);
}

pub returns : goal.returns
returns c h =
    let heap = c.heap-heap.ensures in
    let well = subst (λ (b : Bounds). IsWellFormed b c.args.closed.now.log) heap.bounds heap.stands.well_formed in
    let at : c.loop-thread.thread ≡ c.args.closed.now.config.bounds.threads = omega (arith, c.loop-thread.auto.thread-end, c.loop-thread-test.false, ap (λ (b : Bounds). b.threads) c.bounds-thread-end.ensures) in
    IsQuiet-from c.args.closed.now.config.bounds c.args.closed.now.log well (none_open c.args.closed.now.config.bounds c.args.closed.now.log well (λ t l. c.loop-thread.invariant.none t (omega (arith, l, at))))
