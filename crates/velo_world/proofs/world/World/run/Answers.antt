use Rattle.std.proofs.Common.{subst, arith, take_all}
use Rattle.std.proofs.lemmas.Grind.{common_steps}
use Rattle.velo_events.specs.declared.event.Action.{Action}
use Rattle.velo_events.specs.declared.event.Action.TheVariants.{Read}
use Rattle.velo_events.specs.declared.event.ThreadId.{ThreadId}
use Rattle.velo_world.specs.World.{RunsTo}
use Rattle.velo_world.proofs.OnSequences.{RunsTo-nil, RunsTo-more}
use Rattle.velo_world.proofs.world.World.run.Goals as goal

pub loop-thread-init : goal.loop-thread-init
loop-thread-init c = record {
  room = grind (arith, common_steps);
  count = grind (arith, common_steps);
  runs = rw (c.in_ok-reserve.ensures.items, c.new-outcomes.ensures.items) (RunsTo-nil c.args.self.now c.args.shares.now);
  ready = c.requires;
  filled = λ t filled. filled;
  complete = λ complete. complete;
}

pub loop-thread-preserved : goal.loop-thread-preserved
loop-thread-preserved c =
    let d : ThreadId × Action = (record { 0 = 0 }, Read (record { 0 = 0 })) in
    record {
      room = grind (arith, common_steps);
      count = grind (arith, common_steps);
      runs = RunsTo-more _ _ c.args.steps.now c.loop-thread.thread-index d _ _ _ _ _ _ _ c.loop-thread-test.true c.push_reserved.ensures.items c.loop-thread.invariant.runs c.act_as.ensures.outcome;
      ready = c.act_as.ensures.ready;
      filled = λ t filled. c.act_as.ensures.filled t (c.loop-thread.invariant.filled t filled);
      complete = λ complete. c.act_as.ensures.complete (c.loop-thread.invariant.complete complete);
    }

pub returns-clause-outcomes : goal.returns-clause-outcomes
returns-clause-outcomes c =
    subst (λ steps. RunsTo c.args.self.now c.args.shares.now steps c.loop-thread.outcomes.items c.loop-thread.self c.loop-thread.shares)
    (take_all c.loop-thread.thread-index c.args.steps.now c.loop-thread-test.false) c.loop-thread.invariant.runs
