use Rattle.std.proofs.Common.{◌∙◌, ap, sym}
use Rattle.velo_graph.proofs.OnLeaving.{left-none, left-step, left-stay}
use Rattle.velo_graph.proofs.leave.leave.Goals as goal
use Rattle.velo_graph.proofs.leave.leave.Goals.{then-is_some, else-is_some}

pub loop-slot-init : goal.loop-slot-init
loop-slot-init g c =
    (left-none c.args.arena.now c.args.heirs.now (g.A.Ancestors.members c.clear.new.self) c.args.may_have_descendants.now c.clear.ensures.members, c.clear.ensures.capacity)

pub loop-slot-preserved : goal.loop-slot-preserved
loop-slot-preserved g c =
    let so_far = c.loop-slot.invariant in
    elim c.if-is_some.branch [
      | then-is_some w ↦ (
        left-step _ _ _ _ _ _ _ _ _ c.loop-slot.slot so_far.0 (sym w.if-is_some.ensures) (ap g.A.Ancestors.members w.gone-is ∙ w.insert.ensures.members) (w.arena-is ∙ w.free.ensures.freed) w.may_have_descendants-is,
        ap g.A.Ancestors.capacity w.gone-is ∙ w.insert.ensures.capacity ∙ so_far.1,
      )
      | else-is_some w ↦ (
        left-stay _ _ _ _ _ _ _ _ _ c.loop-slot.slot so_far.0 (sym w.if-is_some.ensures) (ap g.A.Ancestors.members w.gone-is) w.arena-is w.may_have_descendants-is,
        ap g.A.Ancestors.capacity w.gone-is ∙ so_far.1,
      )
    ]
