use Rattle.std.proofs.Common.{take_all, refl, ◌∙◌, subst}
use Rattle.velo_world.specs.LogReplay.{IsLogReplayOf}
use Rattle.velo_world.proofs.log_replay.LogReplay.replay_rest.Goals as goal

pub loop-position-init : goal.loop-position-init
loop-position-init c = record { stands = c.requires.stands.entered; monitor = refl }

pub loop-position-preserved : goal.loop-position-preserved
loop-position-preserved c = record { stands = c.in_ok-follow.ensures.stands; monitor = c.follow.ensures.monitor ∙ c.loop-position.invariant.monitor }

pub follow-requires-clause-stands : goal.follow-requires-clause-stands
follow-requires-clause-stands c = c.loop-position.invariant.stands

pub returns-in_err-follow-clause-monitor : goal.returns-in_err-follow-clause-monitor
returns-in_err-follow-clause-monitor c = c.follow.ensures.monitor ∙ c.loop-position.invariant.monitor

pub returns-clause-stands : goal.returns-clause-stands
returns-clause-stands c =
    subst (λ es. IsLogReplayOf c.args.config.now c.loop-position.self es 0) (take_all c.loop-position.position c.args.events.now c.loop-position-test.false) c.loop-position.invariant.stands

pub returns-clause-monitor : goal.returns-clause-monitor
returns-clause-monitor c = c.loop-position.invariant.monitor
