use Rattle.velo_certify.specs.Links.{HasLinksLeft}
use Rattle.velo_certify.specs.Threads.{IsNextSoFar}
use Rattle.velo_certify.proofs.serial.next_ready.Given as goal

abbrev pub invariant-loop-t : goal.invariant-loop-t
invariant-loop-t l = record {
  links : HasLinksLeft l.events l.listed l.links;
  next : IsNextSoFar l.events l.listed l.fronts l.t l.next;
}
