use Rattle.std.proofs.Common.{◌∙◌, arith}
use Rattle.velo_certify.proofs.OnCycles.{IsLinked-cycle}
use Rattle.velo_certify.proofs.cycle.is_last_cycle.Goals as goal

pub returns : goal.returns
returns c =
    let trace = c.args.events.now in let cycle = c.args.cycle.now in
    let both = IsLinked-cycle trace cycle (omega (arith, c.if-cycle-lt2.false)) in (
      (λ h. record { cyclic = both.0 (c.is_linked.ensures.yes h); begins = c.if-cycle-owner_of.false ∙ c.owner_of.ensures.owner }),
      (λ w. c.is_linked.ensures.no (both.1 w.cyclic)),
    )
