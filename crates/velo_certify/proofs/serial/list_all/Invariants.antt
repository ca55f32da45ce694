use Rattle.velo_certify.specs.Links.{HasLinksLeft}
use Rattle.velo_certify.specs.Serial.{left}
use Rattle.velo_certify.specs.Threads.{AreFollowing, AreFronts}
use Rattle.velo_certify.proofs.OnSerial.{ListsSoFar}
use Rattle.velo_certify.proofs.serial.list_all.Given as goal

abbrev pub invariant-rounds : goal.invariant-rounds
invariant-rounds l = record {
  links : HasLinksLeft l.events l.listed.items l.links;
  lists : ListsSoFar l.events l.listed.items l.order.items;
  following : AreFollowing l.events 0 l.threads.following.items;
  fronts : AreFronts l.events l.listed.items l.threads.fronts.items;
}

abbrev pub decreases-rounds : goal.decreases-rounds
decreases-rounds l = left l.listed.items
