use Rattle.std.proofs.Common.{◌≡◌, Some, None, Ok, sym, ap, ◌∙◌, subst}
use Rattle.std.specs.Prelude.{slice_get, IfSome}
use Rattle.velo_events.specs.declared.event.Action.{Action}
use Rattle.velo_events.specs.declared.event.Event.{Event}
use Rattle.velo_events.specs.declared.event.ThreadId.{ThreadId}
use Rattle.velo_events.specs.Meaning.{action_of}
use Rattle.velo_world.specs.declared.world.World.TheInside.{Inside}
use Rattle.velo_world.specs.LoggedRun.{logged_state}
use Rattle.velo_world.specs.Kept.{left_by, taken_by, with_share}
use Rattle.velo_world.specs.World.{WorldState, meaning}
use Rattle.velo_world.proofs.OnAnswers.{event-meaning, action_of-kind_for}
use Rattle.velo_world.proofs.OnLoggedRuns.{well_formed-logged}
use Rattle.velo_world.proofs.OnSequences.{CanEnterAt-added, IsBookOf-stepped, place-born, Stepped, Stepped-added}
use Rattle.velo_world.proofs.OnSteps.{KeepsUnborn-added}
use Rattle.velo_world.proofs.world.World.act_as.Goals as goal

action_is : (old : Inside) (t : ThreadId) (action : Action) (e : Event) → meaning (logged_state old.logged) t action ≡ Ok e → action_of e.kind ≡ action
action_is old t action e due = ap (λ (f : Event). action_of f.kind) (event-meaning (logged_state old.logged) t action e due) ∙ action_of-kind_for old.logged.log.events action

pub enter_at-requires-clause-there : goal.enter_at-requires-clause-there
enter_at-requires-clause-there c =
    CanEnterAt-added (logged_state c.self.inside.logged) _ c.args.shares.now c.self.inside.kept c.args.thread c.args.action _ _ (well_formed-logged _ c.self.invariant.logged) c.in_ok-event.ensures.outcome c.self.invariant.keeps (rw c.self.view_is c.requires) c.self.inside.book c.self.invariant.book

pub hand_over-requires : goal.hand_over-requires
hand_over-requires c =
    subst (λ a. IfSome (taken_by c.self.inside.kept a) (λ share. slice_get c.enter_at.new.shares share.thread.0 ≡ Some None)) (sym (action_is c.self.inside c.args.thread c.args.action _ c.in_ok-event.ensures.outcome.due))
    (place-born (logged_state c.self.inside.logged) _ c.args.shares.now c.self.inside.kept c.args.thread c.args.action _ _ (well_formed-logged _ c.self.invariant.logged) c.in_ok-event.ensures.outcome c.self.invariant.keeps (rw c.self.view_is c.requires) c.self.inside.book _ _ c.enter_at.ensures.entered)

pub invariant_of-self-2 : goal.invariant_of-self-2
invariant_of-self-2 c = record {
  logged = c.perform.ensures.stands;
  book = IsBookOf-stepped (logged_state c.self.inside.logged) _ c.args.shares.now c.self.inside.kept c.args.thread c.args.action _ _ (well_formed-logged _ c.self.invariant.logged) c.in_ok-event.ensures.outcome c.self.invariant.keeps (rw c.self.view_is c.requires) c.self.inside.book _ _ c.self.invariant.book c.enter_at.ensures.entered;
  keeps = KeepsUnborn-added (logged_state c.self.inside.logged) _ c.args.thread c.args.action _ _ (well_formed-logged _ c.self.invariant.logged) c.in_ok-event.ensures.outcome c.self.inside.kept _ c.self.invariant.keeps (c.hand_over.ensures.kept ∙ ap (left_by c.self.inside.kept) (action_is c.self.inside c.args.thread c.args.action _ c.in_ok-event.ensures.outcome.due));
}

pub returns : goal.returns
returns c =
    let stepped = Stepped-added (logged_state c.self.inside.logged) _ c.args.shares.now c.self.inside.kept c.args.thread c.args.action _ _ (well_formed-logged _ c.self.invariant.logged) c.in_ok-event.ensures.outcome c.self.invariant.keeps (rw c.self.view_is c.requires) c.self.inside.book _ _ _ c.enter_at.ensures.entered (c.hand_over.ensures.shares ∙ ap (λ a. with_share c.enter_at.new.shares (taken_by c.self.inside.kept a)) (action_is c.self.inside c.args.thread c.args.action _ c.in_ok-event.ensures.outcome.due)) in
    let seen = subst (λ (w : WorldState). Stepped w c.args.shares.now c.args.thread c.args.action (Ok c.in_ok-event.reply) (logged_state c.perform.new.self) c.hand_over.new.shares) c.self.view_is stepped in
    record { outcome = seen.outcome_is; ready = seen.ready; filled = seen.filled; complete = seen.complete }
