use Rattle.std.proofs.Common.{ℕ, ◌*◌, Bool, true, replicate, refl, ap, ◌∙◌}
use Rattle.velo_thinning.specs.Sweep.{no_write}
use Rattle.velo_thinning.proofs.OnSwept.{swept-new}
use Rattle.velo_thinning.proofs.sweep.Sweep.new.Goals as goal

pub returns-clause-swept : goal.returns-clause-swept
returns-clause-swept c = λ log.
    swept-new log _ c.in_ok-clocks.ensures.threads c.args.config.now.few_threads c.in_ok-clocks.ensures.blank refl
    (c.in_ok-writes.ensures.items_if_clones_equal (λ y same. same) ∙ ap (λ k. replicate k no_write) c.from-variables.ensures)
    (c.in_ok-reads.ensures.items_if_clones_equal (λ y same. same) ∙ ap (λ k. replicate {A = ℕ} (k * 64) 0) c.from-variables.ensures)
    (c.in_ok-ordered.ensures.items_if_clones_equal (λ y same. same) ∙ ap (λ k. replicate {A = Bool} k true) c.from-variables.ensures)
