use Rattle.std.proofs.Common.{◌≡◌, ap}
use Rattle.velo_world.specs.World.{WorldState}
use Rattle.velo_runtime.proofs.OnTurns.{AreWaitsWithin-open}
use Rattle.velo_runtime.proofs.room.Room.open.Goals as goal

pub invariant_of-room : goal.invariant_of-room
invariant_of-room c =
    let threads : c.in_ok-world.world.config.bounds.threads ≡ c.args.config.bounds.threads = ap (λ (w : WorldState). w.config.bounds.threads) c.in_ok-world.ensures.world in
    (rw threads c.in_ok-places.ensures, AreWaitsWithin-open c.in_ok-world.world.config.bounds c.in_ok-waits.waits.items (rw threads c.in_ok-waits.ensures))
