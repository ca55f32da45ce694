use Rattle.std.proofs.Common.{◌∙◌, List, ap, subst}
use Rattle.velo_events.specs.declared.event.Event.{Event}
use Rattle.velo_filter.specs.Left.{rest_of}
use Rattle.velo_search.proofs.OnNothing.{rest-nothing}
use Rattle.velo_explore.specs.Goals.{finding_of}
use Rattle.velo_explore.specs.Told.{IsTold}
use Rattle.velo_explore.proofs.OnFindings.{told-shows}
use Rattle.velo_cli.proofs.findings.explore_all.Goals as goal

pub shrink_findings-requires-clause-shows : goal.shrink_findings-requires-clause-shows
shrink_findings-requires-clause-shows g c = λ fault.
    let found = finding_of c.in_ok-events.field-0.findings fault in
    let told =
    subst (λ (rest : List Event → List Event). IsTold rest c.args.workload.now c.args.config fault found) (ap rest_of c.new-nothing.ensures ∙ rest-nothing) (c.in_ok-events.ensures.told fault) in
    told-shows c.args.workload.now c.args.config fault found told
