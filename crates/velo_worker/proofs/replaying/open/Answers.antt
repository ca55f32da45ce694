use Rattle.std.proofs.Common.{sym, ◌∙◌, ap}
use Rattle.velo_worker.proofs.replaying.open.Goals as goal

pub invariant_of-result : goal.invariant_of-result
invariant_of-result c =
    let world = c.in_ok-world.ensures.world in record {
      live = c.in_ok-world.ensures.ready;
      complete = c.in_ok-world.ensures.complete;
      count = c.in_ok-threads.ensures.count ∙ sym (ap (λ w. w.config.bounds.threads) world ∙ ap (λ b. b.threads) c.requires);
    }
