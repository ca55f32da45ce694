use Rattle.std.proofs.Common.{◌<◌, sym, subst}
use Rattle.velo_heap.specs.Contents.{bounds_of}
use Rattle.velo_search.specs.Parts.{rest_by, AreParts, part_at}
use Rattle.velo_search.specs.Trail.{IsReachedBy, SettlesBy}
use Rattle.velo_search.proofs.OnTrails.{settles_by-same, settles_by-next}
use Rattle.velo_search.proofs.settling.settle_thread.Goals as goal

pub loop-step-init : goal.loop-step-init
loop-step-init c = settles_by-same (bounds_of c.args.state.now.heap) c.args.scripts.now.kinds (rest_by (part_at c.args.scripts.now.parts)) c.args.trail.now c.args.state.now c.requires.reached

pub settle_once-requires-clause-reached : goal.settle_once-requires-clause-reached
settle_once-requires-clause-reached c =
    let r = c.loop-step.invariant.reached in
    subst (λ b. IsReachedBy b c.args.scripts.now.kinds (rest_by (part_at c.args.scripts.now.parts)) c.loop-step.trail.steps.items c.loop-step.state) (sym r.same) r

pub settle_once-requires-clause-parts : goal.settle_once-requires-clause-parts
settle_once-requires-clause-parts c =
    subst (λ b. AreParts b c.args.scripts.now.kinds (part_at c.args.scripts.now.parts)) (sym c.loop-step.invariant.reached.same) c.requires.parts

pub loop-step-preserved : goal.loop-step-preserved
loop-step-preserved c =
    let scripts = c.args.scripts.now.kinds in
    let rest = rest_by (part_at c.args.scripts.now.parts) in
    settles_by-next (bounds_of c.args.state.now.heap) scripts rest c.args.trail.now c.loop-step.trail c.settle_once.new.trail c.args.state.now c.loop-step.state c.settle_once.new.state c.loop-step.invariant
    (subst (λ b. SettlesBy b scripts rest c.loop-step.trail c.loop-step.state c.settle_once.new.trail c.settle_once.new.state) c.loop-step.invariant.reached.same c.in_ok-settle_once.ensures)

pub settle_once-requires-clause-thread : goal.settle_once-requires-clause-thread
settle_once-requires-clause-thread c = subst (λ b. c.args.thread.0 < b.threads) (sym c.loop-step.invariant.reached.same) c.requires.thread
