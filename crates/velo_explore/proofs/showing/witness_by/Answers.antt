use Rattle.std.proofs.Common.{◌∙◌, sym}
use Rattle.velo_filter.specs.Left.{rest_of}
use Rattle.velo_filter.specs.Tables.{left_of}
use Rattle.velo_explore.proofs.OnShown.{shows-goal}
use Rattle.velo_explore.proofs.showing.witness_by.Goals as goal

pub returns-in-Some-clause-shows : goal.returns-in-Some-clause-shows
returns-in-Some-clause-shows c =
    shows-goal (rest_of (left_of c.args.left.now)) c.args.workload.now c.args.config c.deref.result.now _ c.in_ok-outcome.ensures c.args.fault c.in-Some.goal c.args.schedule.items c.deref.ensures.value (sym c.goal.ensures ∙ c.in-Some.is)
