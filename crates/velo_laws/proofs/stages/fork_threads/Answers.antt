use Rattle.std.proofs.Common.{◌≡◌, ℕ, subst, arith}
use Rattle.velo_events.specs.declared.config.Bounds.{Bounds}
use Rattle.velo_events.specs.WellFormed.{IsWellFormed}
use Rattle.velo_laws.specs.Stages.{HasForked}
use Rattle.velo_laws.proofs.OnPrologues.{forked-start}
use Rattle.velo_laws.proofs.stages.fork_threads.Goals as goal

pub loop-thread-init : goal.loop-thread-init
loop-thread-init c = record {
  so_far = λ log stands.
      let well = subst (λ (b : Bounds). IsWellFormed b log) c.requires.bounds stands.well_formed in
      forked-start c.args.bounds log well c.args.made.now.events c.requires.nothing;
}

pub loop-thread-preserved : goal.loop-thread-preserved
loop-thread-preserved c = record { so_far = λ log stands. c.in_ok-fork_thread.ensures log stands (c.loop-thread.invariant.so_far log stands) }

pub returns : goal.returns
returns c = λ log stands.
    let at : c.loop-thread.thread ≡ c.args.bounds.threads = omega (arith, c.loop-thread.auto.thread-end, c.loop-thread-test.false) in
    subst (λ (n : ℕ). HasForked c.args.bounds log c.loop-thread.made.events n) at (c.loop-thread.invariant.so_far log stands)
