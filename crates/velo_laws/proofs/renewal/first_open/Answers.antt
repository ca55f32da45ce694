use Rattle.std.proofs.Common.{◌≡◌, ℕ, ◌<◌, ◌∙◌, sym, subst, arith, below_more}
use Rattle.velo_events.specs.declared.config.Bounds.{Bounds}
use Rattle.velo_events.specs.Heap.{depth_in}
use Rattle.velo_events.specs.WellFormed.{IsWellFormed}
use Rattle.velo_laws.proofs.OnRenewals.{none_open}
use Rattle.velo_laws.proofs.renewal.first_open.Goals as goal

pub loop-thread-init : goal.loop-thread-init
loop-thread-init c = record { none = λ log stands t l. absurd (omega (arith, l)) }

pub loop-thread-preserved : goal.loop-thread-preserved
loop-thread-preserved c = record {
  none = λ log stands.
      below_more (λ t. depth_in log t ≡ 0) c.loop-thread.thread (c.loop-thread.invariant.none log stands) (sym (c.depth.ensures log stands) ∙ c.if-depth-ne0.false);
}

pub returns-then-depth-ne0-clause-some : goal.returns-then-depth-ne0-clause-some
returns-then-depth-ne0-clause-some c = λ log stands. record {
  is_open = λ none. c.if-depth-ne0.true (c.depth.ensures log stands ∙ none);
  none_before = c.loop-thread.invariant.none log stands;
}

pub returns-clause-none : goal.returns-clause-none
returns-clause-none c = λ log stands.
    let well = subst (λ (b : Bounds). IsWellFormed b log) c.requires stands.well_formed in
    let at : c.loop-thread.thread ≡ c.args.bounds.threads = omega (arith, c.loop-thread.auto.thread-end, c.loop-thread-test.false) in
    none_open c.args.bounds log well (λ t l. c.loop-thread.invariant.none log stands t (omega (arith, l, at)))
