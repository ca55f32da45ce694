use Rattle.std.proofs.Common.{◌<◌, ◌≤◌, Option, None, sym, subst, ⊎_elim, arith}
use Rattle.std.proofs.lemmas.Bool.{cases_lt}
use Rattle.std.proofs.lemmas.List.{get_or_past}
use Rattle.velo_arena.specs.declared.step.Heir.{Heir}
use Rattle.velo_arena.specs.Slots.{limit_of}
use Rattle.velo_monitor.specs.Heirs.{IsHeirOf}
use Rattle.velo_monitor.proofs.OnLatest.{stays-past}
use Rattle.velo_monitor.proofs.heirs.find_heirs.Goals as goal

pub returns-clause-heirs : goal.returns-clause-heirs
returns-clause-heirs c = λ k.
    let graph = c.args.graph.now in
    let heirs = c.loop-slot.heirs in
    ⊎_elim
    (λ (l : k < limit_of graph.slots). c.loop-slot.invariant k (omega (arith, l, c.loop-slot-test.false, c.limit-slot-end.ensures)))
    (λ (g : limit_of graph.slots ≤ k).
    subst (λ (o : Option Heir). IsHeirOf graph c.args.events.now c.args.going.now c.args.firsts.now k o) (sym (get_or_past heirs k None (omega (arith, g, c.loop-slot.auto.heirs, c.requires.limit))))
    (stays-past graph c.args.events.now c.args.going.now c.args.firsts.now k g))
    (cases_lt k (limit_of graph.slots))
