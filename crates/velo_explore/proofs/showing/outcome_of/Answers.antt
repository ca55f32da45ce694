use Rattle.std.proofs.Common.{◌≡◌, false, subst, sym}
use Rattle.std.specs.Prelude.{IfOk}
use Rattle.velo_filter.specs.Left.{rest_of}
use Rattle.velo_filter.specs.Tables.{left_of}
use Rattle.velo_explore.proofs.OnShown.{outcome-of}
use Rattle.velo_explore.proofs.showing.outcome_of.Goals as goal

pub returns : goal.returns
returns c =
    outcome-of (rest_of (left_of c.args.left.now)) c.args.workload.now c.args.config c.args.schedule.now c.in_ok-closed.closed c.in_ok-closed.ending c.in_ok-closed.ensures.run c.in_ok-closed.ensures.memory
    c.outcome_left-outcome.result c.outcome_left-outcome.ensures.alarm c.outcome_left-outcome.ensures.known c.outcome_left-outcome.ensures.ending
