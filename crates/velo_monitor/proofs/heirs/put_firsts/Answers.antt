use Rattle.std.proofs.Common.{ℕ, ◌+◌, ◌<◌, ◌≡◌, ◌∙◌, List, length, Option, Some, None, get_or, set, sym, ap, subst, arith}
use Rattle.velo_events.specs.declared.limits.TheConstants.{MAX_THREADS}
use Rattle.std.specs.Prelude.{IsTrue}
use Rattle.velo_events.specs.declared.event.Event.{Event}
use Rattle.velo_graph.specs.Nodes.{Nodes}
use Rattle.velo_arena.specs.Slots.{node_in, is_finished_in}
use Rattle.velo_graph.proofs.OnCollecting.{used_of_finished}
use Rattle.velo_monitor.specs.Heirs.{thread_in, HaveThreads, pair_of, earlier_of, AreFirsts}
use Rattle.velo_monitor.proofs.OnFirsts.{firsts-step, firsts-stay, firsts-rest}
use Rattle.velo_monitor.proofs.heirs.put_firsts.Goals as goal
use Rattle.velo_monitor.proofs.heirs.put_firsts.Goals.{then-is_reached, else-is_reached}

-- a finished node is of one of the threads
few : (graph : Nodes) (events : List Event) (going : List (Option ℕ)) (slot t : ℕ) → HaveThreads graph events (length going) → IsTrue (is_finished_in graph.slots slot) → t ≡ thread_in graph events slot → t < length going
few graph events going slot t have done is = subst (λ z. z < length going) (sym is) (have.few slot (used_of_finished (node_in graph.slots slot) done))

pub thread_of-t-requires-clause-own : goal.thread_of-t-requires-clause-own
thread_of-t-requires-clause-own c = c.requires.threads.own c.args.slot (used_of_finished (node_in c.args.graph.now.slots c.args.slot) c.requires.finished)

pub earlier_of-requires-clause-first : goal.earlier_of-requires-clause-first
earlier_of-requires-clause-first c = λ r there.
    used_of_finished (node_in c.args.graph.now.slots r)
    (c.loop-s.invariant.each c.thread_of-t.result c.loop-s.s r (omega (arith, few c.args.graph.now c.args.events.now c.args.going.now c.args.slot c.thread_of-t.result c.requires.threads c.requires.finished c.thread_of-t.ensures, c.requires.few)) (omega (arith, c.loop-s-test.true, c.requires.few)) (ap (λ i. get_or c.loop-s.firsts i None) (sym c.pair_of-pair.ensures) ∙ there)).finished

pub loop-s-preserved : goal.loop-s-preserved
loop-s-preserved c =
    let graph = c.args.graph.now in
    let events = c.args.events.now in
    let going = c.args.going.now in
    let slot = c.args.slot in
    let t = c.thread_of-t.result in
    let s = c.loop-s.s in
    let small : s < MAX_THREADS = omega (arith, c.loop-s-test.true, c.requires.few) in
    elim c.if-is_reached.branch [
      | then-is_reached w ↦
          let pair = w.pair_of-pair.ensures in
          let inside : t < length going = few graph events going slot t c.requires.threads c.requires.finished c.thread_of-t.ensures in
          let is = w.firsts-is ∙ ap (λ i. set c.loop-s.firsts i (Some w.earlier_of.result)) pair ∙ ap (λ z. set c.loop-s.firsts (pair_of t s) (Some z)) (w.earlier_of.ensures ∙ ap (λ i. earlier_of graph (get_or c.loop-s.firsts i None) slot) pair) in
          subst (λ (firsts : List (Option ℕ)). AreFirsts graph events going firsts slot (s + 1)) (sym is)
          (firsts-step graph events going c.loop-s.firsts slot s t c.thread_of-t.ensures (omega (arith, inside, c.requires.few)) small (omega (arith, inside, small, c.loop-s.auto.firsts, c.requires.pairs)) c.requires.finished (sym w.if-is_reached.ensures) c.loop-s.invariant)
      | else-is_reached w ↦ subst (λ (firsts : List (Option ℕ)). AreFirsts graph events going firsts slot (s + 1)) (sym w.firsts-is) (firsts-stay graph events going c.loop-s.firsts slot s (sym w.if-is_reached.ensures) c.loop-s.invariant)
    ]

pub returns-clause-firsts : goal.returns-clause-firsts
returns-clause-firsts c = firsts-rest c.args.graph.now c.args.events.now c.args.going.now c.loop-s.firsts c.args.slot c.loop-s.s (omega (arith, c.loop-s-test.false)) c.loop-s.invariant
