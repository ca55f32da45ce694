use Rattle.std.proofs.Common.{ap, length, arith}
use Rattle.velo_certify.proofs.OnOwners.{AreScanned-start}
use Rattle.velo_certify.proofs.owners.owners_of.Goals as goal

pub loop-at-init : goal.loop-at-init
loop-at-init c = record {
  room = c.in_ok-owners.ensures.capacity;
  count = ap length c.in_ok-owners.ensures.items;
  owners = λ i l. absurd (omega (arith, l));
  scanned = AreScanned-start c.args.events.now c.in_ok-threads.threads.items (c.in_ok-threads.ensures.items_if_clones_equal (λ y e. e));
}
