use Rattle.std.proofs.Common.{sym}
use Rattle.velo_explore.proofs.OnShrunk.{best-next, best-stays}
use Rattle.velo_explore.proofs.shrinking.simplest.Goals as goal
use Rattle.velo_explore.proofs.shrinking.simplest.Goals.{in-Some-2, in-None}

pub loop-preserved : goal.loop-preserved
loop-preserved c =
    let l = c.loop in
    elim c.match-branch-3.branch [
      | in-Some-2 w ↦
          (let next =
          best-next c.args.workload.now c.args.config c.args.goal c.args.schedule l.best c.match-branch-3.best w.in-Some-2.turns c.deref-in-loop-2.result.now c.in_ok-turns.field-0
          w.in-Some-2.is w.best-is c.deref-in-loop-2.ensures.value l.invariant.shorter c.in_ok-turns.ensures.shows c.in_ok-turns.ensures.shorter c.in_ok-turns.ensures.threads in
          record { shows = next.0; shorter = next.1; threads = next.2 })
      | in-None w ↦
          (let next = best-stays c.args.workload.now c.args.config c.args.goal c.args.schedule l.best c.match-branch-3.best w.best-is l.invariant.shows l.invariant.shorter l.invariant.threads in
          record { shows = next.0; shorter = next.1; threads = next.2 })
    ]
