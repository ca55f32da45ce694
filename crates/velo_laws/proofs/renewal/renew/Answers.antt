use Rattle.std.proofs.Common.{◌≡◌, sym, subst}
use Rattle.std.specs.Prelude.{IfOk, IfErr}
use Rattle.std.proofs.lemmas.Bool.{both_ways}
use Rattle.velo_events.specs.declared.config.Bounds.{Bounds}
use Rattle.velo_events.specs.declared.config.Config.{Config}
use Rattle.velo_events.specs.Graph.{HasCycle}
use Rattle.velo_events.specs.WellFormed.{IsWellFormed}
use Rattle.velo_world.specs.Faults.{world_of}
use Rattle.velo_laws.specs.Renewal.{Restarts, StandsInTheWay}
use Rattle.velo_laws.proofs.OnRenewals.{renews, reason_against, if_ok_both, if_err}
use Rattle.velo_laws.proofs.renewal.renew.Goals as goal

pub returns-clause-renews : goal.returns-clause-renews
returns-clause-renews c =
    let w = c.args.world.now in
    let stands = c.heap.ensures.stands in
    let well = subst (λ (b : Bounds). IsWellFormed b w.log) c.heap.ensures.bounds stands.well_formed in
    let none : ¬ HasCycle w.log = λ cycle. both_ways _ c.if-has_alarm.false (c.has_alarm.ensures.1 cycle) in
    if_ok_both c.restart.result
    (λ opened is restarts. renews w well none opened.0
    (subst (λ (k : Config). opened.0 ≡ world_of k opened.0.log) c.config.ensures is)
    (subst (λ (k : Config). Restarts k.bounds w.log opened.0.log) c.config.ensures (restarts w.log stands)))
    c.restart.ensures.world
    c.restart.ensures.stands

pub returns-clause-reason : goal.returns-clause-reason
returns-clause-reason c =
    let w = c.args.world.now in
    let stands = c.heap.ensures.stands in
    let well = subst (λ (b : Bounds). IsWellFormed b w.log) c.heap.ensures.bounds stands.well_formed in
    let none : ¬ HasCycle w.log = λ cycle. both_ways _ c.if-has_alarm.false (c.has_alarm.ensures.1 cycle) in
    if_err c.restart.result
    (λ reason why. reason_against w well none reason (subst (λ (k : Config). StandsInTheWay k w.log reason) c.config.ensures (why w.log stands)))
    c.restart.ensures.reason
