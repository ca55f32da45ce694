use Rattle.std.proofs.Common.{ℕ, ◌+◌, List, Option, sym, subst}
use Rattle.velo_monitor.specs.Heirs.{AreFirsts}
use Rattle.velo_monitor.proofs.OnFirsts.{firsts-none, firsts-next, firsts-skip}
use Rattle.velo_monitor.proofs.heirs.find_firsts.Goals as goal
use Rattle.velo_monitor.proofs.heirs.find_firsts.Goals.{then-finished, else-finished}

pub loop-slot-init : goal.loop-slot-init
loop-slot-init c = firsts-none c.args.graph.now c.args.events.now c.args.going.now c.clear.new.list c.clear.ensures.none

pub loop-slot-preserved : goal.loop-slot-preserved
loop-slot-preserved c =
    let graph = c.args.graph.now in
    let events = c.args.events.now in
    let going = c.args.going.now in
    let slot = c.loop-slot.slot in
    elim c.if-finished.branch [
      | then-finished w ↦ subst (λ (firsts : List (Option ℕ)). AreFirsts graph events going firsts (slot + 1) 0) (sym w.firsts-is) (firsts-next graph events going w.put_firsts.new.firsts slot w.put_firsts.ensures.firsts)
      | else-finished w ↦ subst (λ (firsts : List (Option ℕ)). AreFirsts graph events going firsts (slot + 1) 0) (sym w.firsts-is) (firsts-skip graph events going c.loop-slot.firsts slot (sym w.if-finished.ensures) c.loop-slot.invariant)
    ]
