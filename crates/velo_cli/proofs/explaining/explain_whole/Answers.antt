use Rattle.std.proofs.Common.{List, subst, sym}
use Rattle.velo_events.specs.declared.event.Event.{Event}
use Rattle.velo_events.specs.Graph.{IsClosing}
use Rattle.velo_certify.proofs.OnClosing.{closing_cycle}
use Rattle.velo_cli.proofs.explaining.explain_whole.Goals as goal

pub unreachable-requires : goal.unreachable-requires
unreachable-requires g c =
    let p = c.in-Some.alarm.now.position in
    closing_cycle c.log-log.result.now.events p
    (subst (λ (log : List Event). IsClosing log p) (sym c.log-log.ensures.events) c.in-Some.ensures.some.closing)
    (rw c.in-Err-NoCycle.field-0-is at c.in-Err-NoCycle.ensures.fault)
