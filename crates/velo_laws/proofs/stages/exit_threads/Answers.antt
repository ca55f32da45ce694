use Rattle.std.proofs.Common.{◌≡◌, ℕ, subst, arith}
use Rattle.velo_events.specs.declared.config.Bounds.{Bounds}
use Rattle.velo_events.specs.WellFormed.{IsWellFormed}
use Rattle.velo_laws.specs.Stages.{HasExited}
use Rattle.velo_laws.proofs.OnPrologues.{exited-start}
use Rattle.velo_laws.proofs.stages.exit_threads.Goals as goal

pub loop-thread-init : goal.loop-thread-init
loop-thread-init c = record {
  so_far = λ log stands start.
      let well = subst (λ (b : Bounds). IsWellFormed b log) c.requires stands.well_formed in
      exited-start c.args.bounds log well c.args.made.now.events start;
}

pub loop-thread-preserved : goal.loop-thread-preserved
loop-thread-preserved c = record { so_far = λ log stands start. c.in_ok-exit_thread.ensures log stands (c.loop-thread.invariant.so_far log stands start) }

pub returns : goal.returns
returns c = λ log stands start.
    let at : c.loop-thread.thread ≡ c.args.bounds.threads = omega (arith, c.loop-thread.auto.thread-end, c.loop-thread-test.false) in
    subst (λ (n : ℕ). HasExited c.args.bounds log c.loop-thread.made.events n) at (c.loop-thread.invariant.so_far log stands start)
