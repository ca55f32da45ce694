use Rattle.std.proofs.Common.{◌∙◌, ap, sym}
use Rattle.velo_events.specs.declared.config.Config.{Config}
use Rattle.velo_watch.proofs.OnRestWatches.{can_start, opened}
use Rattle.velo_watch.proofs.rest_watch.RestWatch.open.Goals as goal

pub returns-clause-ok : goal.returns-clause-ok
returns-clause-ok g c omitted contents =
    opened omitted _ _ contents (record { reader = c.in-Ok.reader; whole = c.in-Ok-new.whole; rest = c.in-Ok-new-2.rest }) c.in-Ok.ensures.ok c.in-Ok-new.ensures.none
    (ap (λ (k : Config). k.bounds) c.in-Ok-new-2.ensures.config ∙ (c.config_of-config.ensures.bounds ∙ c.bounds.ensures))

pub returns-clause-goes_on : goal.returns-clause-goes_on
returns-clause-goes_on g c omitted =
    can_start omitted (record { reader = c.in-Ok.reader; whole = c.in-Ok-new.whole; rest = c.in-Ok-new-2.rest }) c.in-Ok-new.ensures.stands
    (c.in-Ok-new.ensures.bounds ∙ sym (ap (λ (k : Config). k.bounds) c.in-Ok-new-2.ensures.config)) c.in-Ok-new.ensures.none (c.in-Ok-new-2.ensures.none omitted)
