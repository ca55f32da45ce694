use Rattle.velo_cli.proofs.watching.follow.Given as goal

abbrev pub invariant-loop-watch : goal.invariant-loop-watch
invariant-loop-watch g l = g.A.AskedWatch.can_go_on l.fn.asked l.watch

abbrev pub decreases-loop-watch : goal.decreases-loop-watch
decreases-loop-watch g l = g.A.AskedWatch.left l.watch
