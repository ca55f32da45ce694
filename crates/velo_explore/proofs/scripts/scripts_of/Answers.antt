use Rattle.std.proofs.Common.{◌++◌, ◌∷◌, [], ap, ◌∙◌}
use Rattle.velo_worker.specs.Walk.{walk_of}
use Rattle.velo_explore.specs.Bodies.{operations_of}
use Rattle.velo_explore.proofs.OnCounting.{map-pushed}
use Rattle.velo_explore.proofs.scripts.scripts_of.Goals as goal

pub loop-thread-preserved : goal.loop-thread-preserved
loop-thread-preserved c =
    let l = c.loop-thread in
    map-pushed _ (λ body. operations_of (walk_of body)) c.args.workload.now.bodies l.thread c.body.result.now l.threads.items _ c.in_ok-own.own
    c.body.ensures.here l.invariant (c.push_reserved.ensures.items ∙ ap (λ xs. xs ++ c.in_ok-own.own ∷ []) c.reserve.ensures.items) c.in_ok-own.ensures
