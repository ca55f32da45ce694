use Rattle.std.proofs.Common.{◌≡◌, ℕ, subst, arith}
use Rattle.velo_events.specs.declared.config.Bounds.{Bounds}
use Rattle.velo_events.specs.WellFormed.{IsWellFormed}
use Rattle.velo_laws.specs.Stages.{HasAcquired}
use Rattle.velo_laws.proofs.OnPrologues.{acquired-start}
use Rattle.velo_laws.proofs.stages.acquire_locks.Goals as goal

pub loop-lock-init : goal.loop-lock-init
loop-lock-init c = record {
  so_far = λ log stands start.
      let well = subst (λ (b : Bounds). IsWellFormed b log) c.requires stands.well_formed in
      acquired-start c.args.bounds log well c.args.made.now.events start;
}

pub loop-lock-preserved : goal.loop-lock-preserved
loop-lock-preserved c = record { so_far = λ log stands start. c.in_ok-acquire_lock.ensures log stands (c.loop-lock.invariant.so_far log stands start) }

pub returns : goal.returns
returns c = λ log stands start.
    let at : c.loop-lock.lock ≡ c.args.bounds.locks = omega (arith, c.loop-lock.auto.lock-end, c.loop-lock-test.false) in
    subst (λ (n : ℕ). HasAcquired c.args.bounds log c.loop-lock.made.events n) at (c.loop-lock.invariant.so_far log stands start)
