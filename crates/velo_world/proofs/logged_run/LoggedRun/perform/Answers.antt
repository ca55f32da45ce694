use Rattle.std.proofs.Common.{subst, sym, ◌∙◌}
use Rattle.velo_events.specs.WellFormed.{MayFollow}
use Rattle.velo_world.specs.World.{WorldState}
use Rattle.velo_world.specs.LoggedRun.{logged_state}
use Rattle.velo_world.proofs.OnAnswers.{meaning-room}
use Rattle.velo_world.proofs.OnLoggedRuns.{follows-logged, Refuses-no_room}
use Rattle.velo_world.proofs.logged_run.LoggedRun.perform.Goals as goal

pub make_room-requires-clause-follows : goal.make_room-requires-clause-follows
make_room-requires-clause-follows c =
    follows-logged c.args.self.now c.args.thread c.args.action c.in_ok-event.event c.requires (sym c.decide.ensures ∙ c.in_ok-event.was)

pub make_room-requires-clause-short : goal.make_room-requires-clause-short
make_room-requires-clause-short c =
    meaning-room (logged_state c.args.self.now) c.args.thread c.args.action c.in_ok-event.event (sym c.decide.ensures ∙ c.in_ok-event.was)

pub commit-requires-clause-follows : goal.commit-requires-clause-follows
commit-requires-clause-follows c =
    subst (λ (w : WorldState). MayFollow w.config.bounds w.log c.in_ok-event.event) (sym c.make_room.ensures.same)
    (follows-logged c.args.self.now c.args.thread c.args.action c.in_ok-event.event c.requires (sym c.decide.ensures ∙ c.in_ok-event.was))

pub returns-in-Err-clause-outcome : goal.returns-in-Err-clause-outcome
returns-in-Err-clause-outcome c =
    Refuses-no_room _ _ c.args.thread c.args.action c.in_ok-event.event _ (sym c.decide.ensures ∙ c.in_ok-event.was) c.make_room.ensures.same c.in-Err.ensures.none
