use Rattle.std.proofs.lemmas.Bool.{both_ways}
use Rattle.velo_report.proofs.OnRuns.{RunsSoFar-start, RunsSoFar-next, IsOneTransaction-end, small_next}
use Rattle.velo_report.proofs.certificate.run_end.Goals as goal

pub loop-depth-init : goal.loop-depth-init
loop-depth-init c =
    RunsSoFar-start c.args.events.now c.args.order.now c.args.from c.requires.reorders c.requires.serial c.requires.start
    c.depth_after-depth.result c.depth_after-depth.ensures.small c.depth_after-depth.ensures.after

pub depth_after-depth-requires-in-loop-depth-clause-small : goal.depth_after-depth-requires-in-loop-depth-clause-small
depth_after-depth-requires-in-loop-depth-clause-small c =
    let goes = c.goes_on.ensures.0 c.loop-depth-test.true in
    small_next c.args.events.now c.args.order.now c.args.from c.requires.reorders c.requires.serial c.requires.start
    c.loop-depth.end c.loop-depth.depth c.loop-depth.invariant goes.within goes.thread

pub loop-depth-preserved : goal.loop-depth-preserved
loop-depth-preserved c =
    RunsSoFar-next c.args.events.now c.args.order.now c.args.from c.requires.reorders c.requires.serial c.requires.start
    c.loop-depth.end c.loop-depth.depth c.loop-depth.invariant (c.goes_on.ensures.0 c.loop-depth-test.true)
    c.depth_after-depth-in-loop-depth.result c.depth_after-depth-in-loop-depth.ensures.small c.depth_after-depth-in-loop-depth.ensures.after

pub returns : goal.returns
returns c =
    IsOneTransaction-end c.args.events.now c.args.order.now c.args.from c.requires.reorders c.requires.serial c.requires.start
    c.loop-depth.end c.loop-depth.depth c.loop-depth.invariant (λ goes. both_ways c.goes_on.result c.loop-depth-test.false (c.goes_on.ensures.1 goes))
