use Rattle.std.proofs.Common.{◌<◌, sym, subst, arith}
use Rattle.velo_heap.specs.Contents.{bounds_of}
use Rattle.velo_search.specs.Parts.{rest_by, AreParts, part_at}
use Rattle.velo_search.specs.Trail.{IsReachedBy, SettlesBy}
use Rattle.velo_search.proofs.OnTrails.{settles_by-same, settles_by-next}
use Rattle.velo_search.proofs.settling.settle_all.Goals as goal

pub loop-thread-init : goal.loop-thread-init
loop-thread-init c = settles_by-same (bounds_of c.args.state.now.heap) c.args.scripts.now.kinds (rest_by (part_at c.args.scripts.now.parts)) c.args.trail.now c.args.state.now c.requires.reached

pub settle_thread-requires-clause-reached : goal.settle_thread-requires-clause-reached
settle_thread-requires-clause-reached c =
    let r = c.loop-thread.invariant.reached in
    subst (λ b. IsReachedBy b c.args.scripts.now.kinds (rest_by (part_at c.args.scripts.now.parts)) c.loop-thread.trail.steps.items c.loop-thread.state) (sym r.same) r

pub settle_thread-requires-clause-parts : goal.settle_thread-requires-clause-parts
settle_thread-requires-clause-parts c =
    subst (λ b. AreParts b c.args.scripts.now.kinds (part_at c.args.scripts.now.parts)) (sym c.loop-thread.invariant.reached.same) c.requires.parts

pub loop-thread-preserved : goal.loop-thread-preserved
loop-thread-preserved c =
    let scripts = c.args.scripts.now.kinds in
    let rest = rest_by (part_at c.args.scripts.now.parts) in
    settles_by-next (bounds_of c.args.state.now.heap) scripts rest c.args.trail.now c.loop-thread.trail c.settle_thread.new.trail c.args.state.now c.loop-thread.state c.settle_thread.new.state c.loop-thread.invariant
    (subst (λ b. SettlesBy b scripts rest c.loop-thread.trail c.loop-thread.state c.settle_thread.new.trail c.settle_thread.new.state) c.loop-thread.invariant.reached.same c.in_ok-settle_thread.ensures)

pub settle_thread-requires-clause-thread : goal.settle_thread-requires-clause-thread
settle_thread-requires-clause-thread c =
    let below : c.loop-thread.thread < (bounds_of c.args.state.now.heap).threads = omega (arith, c.loop-thread-test.true, c.threads-thread-end.ensures) in
    subst (λ b. c.loop-thread.thread < b.threads) (sym c.loop-thread.invariant.reached.same) below
