use Rattle.std.proofs.Common.{sym, subst}
use Rattle.velo_heap.specs.Contents.{bounds_of}
use Rattle.velo_search.specs.Parts.{rest_by, AreParts, part_at}
use Rattle.velo_search.specs.Trail.{IsReachedBy, SettlesBy}
use Rattle.velo_search.proofs.OnTrails.{settles_by-same, settles_by-next}
use Rattle.velo_search.proofs.settling.settle.Goals as goal

pub loop-round-init : goal.loop-round-init
loop-round-init c = settles_by-same (bounds_of c.args.state.now.heap) c.args.scripts.now.kinds (rest_by (part_at c.args.scripts.now.parts)) c.args.trail.now c.args.state.now c.requires.reached

pub settle_all-requires-clause-reached : goal.settle_all-requires-clause-reached
settle_all-requires-clause-reached c =
    let r = c.loop-round.invariant.reached in
    subst (λ b. IsReachedBy b c.args.scripts.now.kinds (rest_by (part_at c.args.scripts.now.parts)) c.loop-round.trail.steps.items c.loop-round.state) (sym r.same) r

pub settle_all-requires-clause-parts : goal.settle_all-requires-clause-parts
settle_all-requires-clause-parts c =
    subst (λ b. AreParts b c.args.scripts.now.kinds (part_at c.args.scripts.now.parts)) (sym c.loop-round.invariant.reached.same) c.requires.parts

pub loop-round-preserved : goal.loop-round-preserved
loop-round-preserved c =
    let scripts = c.args.scripts.now.kinds in
    let rest = rest_by (part_at c.args.scripts.now.parts) in
    settles_by-next (bounds_of c.args.state.now.heap) scripts rest c.args.trail.now c.loop-round.trail c.settle_all.new.trail c.args.state.now c.loop-round.state c.settle_all.new.state c.loop-round.invariant
    (subst (λ b. SettlesBy b scripts rest c.loop-round.trail c.loop-round.state c.settle_all.new.trail c.settle_all.new.state) c.loop-round.invariant.reached.same c.in_ok-settle_all.ensures)
