use Rattle.std.proofs.Common.{◌≡◌}
use Rattle.velo_graph.proofs.OnLeaving.{LeftTo}
use Rattle.velo_graph.proofs.leave.leave.Given as goal

abbrev pub invariant-loop-slot : goal.invariant-loop-slot
invariant-loop-slot g l =
    LeftTo l.fn.arena l.arena l.heirs (g.A.Ancestors.members l.gone) l.fn.may_have_descendants l.may_have_descendants l.slot × (g.A.Ancestors.capacity l.gone ≡ g.A.Ancestors.capacity l.fn.gone)
