use Rattle.std.proofs.Common.{sym, ap, subst, ◌∙◌}
use Rattle.std.specs.Prelude.{slice_index}
use Rattle.velo_certify.specs.Cycle.{IsOnNone}
use Rattle.velo_certify.proofs.OnCycles.{IsOnNone-by}
use Rattle.velo_certify.proofs.cycle.last_cycle.Goals as goal

pub returns-clause-fault : goal.returns-clause-fault
returns-clause-fault c =
    subst (IsOnNone c.args.events.now) c.owner_of-start.ensures.owner
    (IsOnNone-by c.args.events.now c.in_ok-reached.reached.distance.items c.owner_of-start.result 0 c.in_ok-reached.ensures.shortest
    (λ b e. ap (λ xs. slice_index xs b) (sym c.deref-4.ensures.value) ∙ c.in-None.ensures.nearest b e))
