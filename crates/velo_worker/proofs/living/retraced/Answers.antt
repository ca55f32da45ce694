use Rattle.std.proofs.Common.{◌≡◌, ◌∙◌, refl, subst}
use Rattle.velo_events.specs.WellFormed.{IsWellFormed}
use Rattle.velo_worker.specs.Logs.{AllFollow}
use Rattle.velo_worker.proofs.living.retraced.Goals as goal

pub returns-then-all_follow-clause-log : goal.returns-then-all_follow-clause-log
returns-then-all_follow-clause-log c =
    let closed = c.args.closed in
    let events : c.as_slice.result.now ≡ closed.log = c.as_slice.ensures ∙ c.log.ensures.events in
    record {
      well = subst (λ b. IsWellFormed b closed.log) c.requires.bounds c.log.ensures.well_formed;
      bodies = subst (λ starts. AllFollow starts closed.log) c.requires.threads (subst (AllFollow c.args.threads.items) events (c.if-all_follow.ensures refl));
    }
