use Rattle.std.proofs.Common.{ap}
use Rattle.velo_events.specs.declared.config.Bounds.{Bounds}
use Rattle.velo_world.proofs.OnReadiness.{HoldsLiveShares-opened}
use Rattle.velo_run_tests.proofs.world.open_world.Goals as goal

pub returns : goal.returns
returns g c =
    let config = c.expect-config.result in
    let bounds = rw c.expect-config.ensures at c.new.ensures.bounds in
    let threads = ap (λ (b : Bounds). b.threads) bounds in
    let made = c.new_world-world.ensures.world in
    let first = c.new_world-world.ensures.share in
    rw (c.holding.ensures, first, made, ← threads) (HoldsLiveShares-opened config)
