use Rattle.std.proofs.Common.{◌≡◌, ℕ, subst, arith}
use Rattle.velo_events.specs.declared.config.Bounds.{Bounds}
use Rattle.velo_events.specs.WellFormed.{IsWellFormed}
use Rattle.velo_laws.specs.Stages.{HasShared}
use Rattle.velo_laws.proofs.OnPrologues.{shared-next}
use Rattle.velo_laws.proofs.stages.share_lock.Goals as goal

pub loop-thread-init : goal.loop-thread-init
loop-thread-init c = record {
  so_far = λ log stands start. start;
}

pub loop-thread-preserved : goal.loop-thread-preserved
loop-thread-preserved c = record { so_far = λ log stands start. c.in_ok-share_with.ensures log stands (c.loop-thread.invariant.so_far log stands start) }

pub returns : goal.returns
returns c = λ log stands start.
    let at : c.loop-thread.thread ≡ c.args.bounds.threads = omega (arith, c.loop-thread.auto.thread-end, c.loop-thread-test.false) in
    let well = subst (λ (b : Bounds). IsWellFormed b log) c.requires.bounds stands.well_formed in
    shared-next c.args.bounds log well c.loop-thread.made.events c.args.lock.0 (subst (λ (n : ℕ). HasShared c.args.bounds log c.loop-thread.made.events c.args.lock.0 n) at (c.loop-thread.invariant.so_far log stands start))
