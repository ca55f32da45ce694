use Rattle.std.proofs.Common.{arith}
use Rattle.velo_events.proofs.OnBlocks.{owner-le}
use Rattle.velo_certify.proofs.owners.owner_of.Goals as goal

pub returns : goal.returns
returns c =
    let is = c.requires.owners.each c.args.at c.requires.within in
    let most = owner-le c.args.events.now c.args.at in
    record { owner = is; small = omega (arith, is, most, c.requires.within); earlier = omega (arith, is, most) }
