use Rattle.std.proofs.Common.{◌≡◌, set, Some, arith}
use Rattle.std.proofs.lemmas.Grind.{common_steps}
use Rattle.velo_world.proofs.OnReadiness.{HoldsLiveShares-opened, CompletesShares-opened}
use Rattle.velo_worker.proofs.replaying.open_world.Goals as goal

pub returns-clause-ready : goal.returns-clause-ready
returns-clause-ready c =
    let share = c.in_ok-world.share in
    let after : c.put.new.self ≡ set c.in_ok-shares.shares share.thread.0 (Some share) = grind (arith, common_steps) in
    rw (after, c.in_ok-world.ensures.share, c.in_ok-world.ensures.world, c.in_ok-shares.ensures) (HoldsLiveShares-opened c.args.config)

pub returns-clause-complete : goal.returns-clause-complete
returns-clause-complete c =
    let share = c.in_ok-world.share in
    let after : c.put.new.self ≡ set c.in_ok-shares.shares share.thread.0 (Some share) = grind (arith, common_steps) in
    rw (after, c.in_ok-world.ensures.share, c.in_ok-world.ensures.world, c.in_ok-shares.ensures) (CompletesShares-opened c.args.config)
