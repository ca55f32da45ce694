use Rattle.std.proofs.Common.{ap}
use Rattle.velo_world.specs.World.{WorldState}
use Rattle.velo_watch.proofs.OnRestWatches.{nothing_left}
use Rattle.velo_watch.proofs.rest.Rest.new.Goals as goal

pub returns-clause-none : goal.returns-clause-none
returns-clause-none c omitted =
    nothing_left omitted (record { world = c.in_ok-world.world; places = c.new-2.result; rows = c.in_ok-rows.rows })
    (ap (λ (w : WorldState). w.log) c.in_ok-world.ensures) c.new-2.ensures.items c.in_ok-rows.ensures
