use Rattle.std.proofs.lemmas.Bool.{both_ways}
use Rattle.velo_events.specs.ThreadSets.{has_thread}
use Rattle.velo_predict.specs.Circles.{IsInRow}
use Rattle.velo_predict.proofs.OnCircles.{cycle_has, cycle_next, row_within}
use Rattle.velo_predict.proofs.circle.circle_in.Goals as goal

pub returns-in-None-clause-none : goal.returns-in-None-clause-none
returns-in-None-clause-none c = λ cycle is.
    let w = cycle_has (IsInRow c.args.rows.now) cycle is in
    let n = cycle_next (IsInRow c.args.rows.now) cycle w.0 is w.1 in
    both_ways (has_thread c.threads_out-out.result w.0) (c.threads_out-out.ensures.in_none cycle is w.0 w.1) (c.in-None.ensures.none w.0 (row_within c.args.rows.now w.0 n.0 n.1))
