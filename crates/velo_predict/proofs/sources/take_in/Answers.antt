use Rattle.std.proofs.Common.{refl}
use Rattle.velo_predict.proofs.OnSources.{trail_at, trails_after}
use Rattle.velo_predict.proofs.sources.take_in.Goals as goal

pub step_along-step-requires : goal.step_along-step-requires
step_along-step-requires c = (trail_at c.args.log.now c.requires.stands.0 c.args.trails.now _ c.args.event c.requires.stands.1 c.trail_of-thread.ensures.trail c.trail_of-thread.ensures.within _).within

pub returns-clause-source : goal.returns-clause-source
returns-clause-source c = λ trace are.
    c.step_along-step.ensures.source trace (trail_at c.args.log.now trace c.args.trails.now _ c.args.event are c.trail_of-thread.ensures.trail c.trail_of-thread.ensures.within _)

pub returns-clause-trails : goal.returns-clause-trails
returns-clause-trails c = λ trace are.
    let at = trail_at c.args.log.now trace c.args.trails.now _ c.args.event are c.trail_of-thread.ensures.trail c.trail_of-thread.ensures.within _ in
    trails_after c.args.log.now trace c.args.event c.args.trails.now _ c.step_along-step.result.trail c.trail_of-thread.result are c.trail_of-thread.ensures.trail c.trail_of-thread.ensures.within (c.step_along-step.ensures.trail trace at) refl
