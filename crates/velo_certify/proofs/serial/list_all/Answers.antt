use Rattle.std.proofs.Common.{sym, subst, arith, rules}
use Rattle.velo_certify.specs.declared.serial.Next.TheVariants.{Ready, Stuck, Done}
use Rattle.velo_certify.specs.Serial.{AreClosed, IsNext}
use Rattle.velo_certify.specs.Links.{HasLinksLeft}
use Rattle.velo_certify.proofs.OnSerial.{AreClosed-lists, ListsSoFar-start, ListsSoFar-next, HasCycle-stuck, IsSerialOrder-done}
use Rattle.velo_certify.proofs.OnListed.{HasLinksLeft-start, HasLinksLeft-more}
use Rattle.velo_certify.proofs.OnThreads.{AreFronts-start, AreFronts-listed}
use Rattle.velo_certify.proofs.serial.list_all.Goals as goal

pub rounds-preserved : goal.rounds-preserved
rounds-preserved c =
    let trace = c.args.events.now in let listed = c.rounds.listed.items in let order = c.rounds.order.items in let a = c.in-Ready.a in
    let next = subst (λ xs. IsNext trace xs (Ready a)) c.deref-in-rounds.ensures.value c.in-Ready.ensures.next in
    let count = c.rounds.invariant.lists.marked.count in
    record {
      links = HasLinksLeft-more trace listed c.next_ready.new.links a (let l = next.0.within in omega (arith, l, count))
          (subst (λ xs. HasLinksLeft trace xs c.next_ready.new.links) c.deref-in-rounds.ensures.value c.next_ready.ensures.links);
      lists = ListsSoFar-next trace listed order c.rounds.invariant.lists a next.0 next.1 next.2 c.append_positions.new.order.items c.in_ok-threads-in-Ready.ensures.ok;
      following = c.rounds.invariant.following;
      fronts = AreFronts-listed trace listed c.rounds.threads.fronts.items c.rounds.invariant.fronts (AreClosed-lists trace listed order c.rounds.invariant.lists) count a c.in_ok-threads-in-Ready.field-0
          next.0 next.1 c.in_ok-threads-in-Ready.ensures.behind;
    }

pub returns-in-Stuck-clause-fault : goal.returns-in-Stuck-clause-fault
returns-in-Stuck-clause-fault c =
    let trace = c.args.events.now in
    let next = subst (λ xs. IsNext trace xs Stuck) c.deref-in-rounds.ensures.value c.in-Stuck.ensures.next in
    HasCycle-stuck trace c.rounds.listed.items c.rounds.order.items c.rounds.invariant.lists next.0.0 next.0.1 next.1

pub returns-in-Done-clause-order : goal.returns-in-Done-clause-order
returns-in-Done-clause-order c =
    let trace = c.args.events.now in
    let next = subst (λ xs. IsNext trace xs Done) c.deref-in-rounds.ensures.value c.in-Done.ensures.next in
    IsSerialOrder-done trace c.rounds.listed.items c.rounds.order.items c.rounds.invariant.lists next

pub next_ready-requires-clause-closed : goal.next_ready-requires-clause-closed
next_ready-requires-clause-closed c =
    subst (AreClosed c.args.events.now) (sym c.deref-in-rounds.ensures.value) (AreClosed-lists c.args.events.now c.rounds.listed.items c.rounds.order.items c.rounds.invariant.lists)

pub rounds-init : goal.rounds-init
rounds-init c =
    let none = c.in_ok-listed.ensures.items_if_clones_equal (λ y e. e) in
    record {
      links = HasLinksLeft-start c.args.events.now c.in_ok-listed.listed.items c.in_ok-links.links c.in_ok-links.ensures;
      lists = ListsSoFar-start c.args.events.now c.in_ok-listed.listed.items _ none (search rules);
      following = c.in_ok-threads.ensures.following;
      fronts = AreFronts-start c.args.events.now c.in_ok-listed.listed.items c.in_ok-threads.threads.fronts.items none c.in_ok-threads.ensures.names c.in_ok-threads.ensures.fronts;
    }
