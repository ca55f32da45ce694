use Rattle.std.proofs.Common.{◌<◌, length, sym, subst, arith}
use Rattle.velo_arena.specs.Slots.{node_in}
use Rattle.velo_graph.proofs.OnCollecting.{used_of_finished}
use Rattle.velo_monitor.proofs.heirs.heir_of.Goals as goal

pub thread_of-t-requires-clause-own : goal.thread_of-t-requires-clause-own
thread_of-t-requires-clause-own c = c.requires.threads.own c.args.slot (used_of_finished (node_in c.args.graph.now.slots c.args.slot) c.requires.finished)

pub latest_of-requires-clause-t : goal.latest_of-requires-clause-t
latest_of-requires-clause-t c =
    subst (λ t. t < length c.args.going.now) (sym c.thread_of-t.ensures) (c.requires.threads.few c.args.slot (used_of_finished (node_in c.args.graph.now.slots c.args.slot) c.requires.finished))

pub latest_of-requires-clause-firsts : goal.latest_of-requires-clause-firsts
latest_of-requires-clause-firsts c = λ s r l there.
    let inside : c.thread_of-t.result < length c.args.going.now = subst (λ t. t < length c.args.going.now) (sym c.thread_of-t.ensures) (c.requires.threads.few c.args.slot (used_of_finished (node_in c.args.graph.now.slots c.args.slot) c.requires.finished)) in
    used_of_finished (node_in c.args.graph.now.slots r) (c.requires.firsts.each c.thread_of-t.result s r (omega (arith, inside, c.requires.few)) l there).finished

pub stamp_of-requires-in-Some : goal.stamp_of-requires-in-Some
stamp_of-requires-in-Some c =
    let inside : c.thread_of-t.result < length c.args.going.now = subst (λ t. t < length c.args.going.now) (sym c.thread_of-t.ensures) (c.requires.threads.few c.args.slot (used_of_finished (node_in c.args.graph.now.slots c.args.slot) c.requires.finished)) in
    let at = c.latest_of.ensures.among c.in-Some.heir c.in-Some.is in
    used_of_finished (node_in c.args.graph.now.slots c.in-Some.heir) (c.requires.firsts.each c.thread_of-t.result at.0 c.in-Some.heir (omega (arith, inside, c.requires.few)) at.1 at.3).finished
