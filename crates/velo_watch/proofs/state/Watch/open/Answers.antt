use Rattle.std.proofs.Common.{◌≡◌, [], ◌∙◌, false, refl, rules}
use Rattle.velo_watch.proofs.OnWatches.{opened_under_way, failed_reads}
use Rattle.velo_watch.proofs.state.Watch.open.Goals as goal

pub returns-clause-ok : goal.returns-clause-ok
returns-clause-ok g c contents =
    let empty : c.in-Ok-new.world.log ≡ [] = search rules in
    let bounds : c.in-Ok-new.world.config.bounds ≡ c.in-Ok.reader.bounds = search rules in
    opened_under_way _ _ contents (record { reader = c.in-Ok.reader; world = c.in-Ok-new.world; told = false }) c.in-Ok.ensures.ok empty bounds refl

pub returns-in-Err-clause-reads : goal.returns-in-Err-clause-reads
returns-in-Err-clause-reads g c = c.in-Err.ensures.failures ∙ failed_reads c.in-Err.fault _
