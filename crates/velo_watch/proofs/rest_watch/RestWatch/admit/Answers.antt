use Rattle.std.proofs.Common.{◌∙◌, refl}
use Rattle.velo_filter.specs.Tables.{left_of}
use Rattle.velo_watch.proofs.OnRests.{of_last_if}
use Rattle.velo_watch.proofs.rest_watch.RestWatch.admit.Goals as goal

pub returns-in-Ok-clause-fault : goal.returns-in-Ok-clause-fault
returns-in-Ok-clause-fault c =
    of_last_if (left_of c.args.left.now) c.args.self.now.rest.world.config _ c.args.self.now.whole.trace.events c.as_slice.result.now c.args.event.now c.len-position.result c.follow.result refl
    (c.as_slice.ensures ∙ c.in-Ok.ensures.log) c.len-position.ensures c.follow.ensures.fault
