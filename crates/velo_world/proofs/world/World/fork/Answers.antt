use Rattle.std.proofs.Common.{◌≡◌, Option, Some, None, refl, sym, ◌∙◌, subst}
use Rattle.std.proofs.lemmas.Option.{same_Some}
use Rattle.velo_events.specs.declared.event.Action.{Action}
use Rattle.velo_ledger.specs.Views.{Holding}
use Rattle.velo_world.specs.LoggedRun.{logged_state}
use Rattle.velo_world.specs.World.{FitsLog}
use Rattle.velo_world.proofs.OnWorlds.{later-added, IsWorldOfItsLog-added, Acts-performed, FitsLog-performed, OthersStillFit-performed, born-performed, FitsLog-born}
use Rattle.velo_world.proofs.world.World.fork.Goals as goal

pub enter-requires-clause-later : goal.enter-requires-clause-later
enter-requires-clause-later c =
    later-added c.self.inside _ _ _ (Action.Fork c.args.child) _ _ c.perform.new.self c.self.view_is c.self.invariant c.thread.ensures c.requires c.in_ok-event.ensures.outcome

no_share : (share : Holding) → ◌≡◌ {A = Option Holding} None (Some share) → ⊥
no_share share is = cc

pub unreachable-requires : goal.unreachable-requires
unreachable-requires c =
    no_share _ (sym c.in-None.is ∙ (c.take.ensures.share ∙ born-performed c.self.inside _ _ _ (Action.Fork c.args.child) _ _ c.perform.new.self c.self.view_is c.self.invariant c.thread.ensures c.requires c.in_ok-event.ensures.outcome c.args.child refl))

pub invariant_of-self-2 : goal.invariant_of-self-2
invariant_of-self-2 c =
    IsWorldOfItsLog-added c.self.inside _ _ _ (Action.Fork c.args.child) _ _ c.perform.new.self c.self.view_is c.self.invariant c.thread.ensures c.requires c.in_ok-event.ensures.outcome _ _ c.perform.ensures.stands c.enter.ensures.book c.take.ensures.after

pub returns-clause-outcome : goal.returns-clause-outcome
returns-clause-outcome c = (
  Acts-performed c.self.inside _ _ _ (Action.Fork c.args.child) _ _ c.perform.new.self c.self.view_is c.self.invariant c.thread.ensures c.requires c.in_ok-event.ensures.outcome _ c.enter.ensures.share,
  same_Some _ _ (sym c.in-Some.is ∙ (c.take.ensures.share ∙ born-performed c.self.inside _ _ _ (Action.Fork c.args.child) _ _ c.perform.new.self c.self.view_is c.self.invariant c.thread.ensures c.requires c.in_ok-event.ensures.outcome c.args.child refl)),
)

pub returns-clause-fits : goal.returns-clause-fits
returns-clause-fits c =
    FitsLog-performed c.self.inside _ _ _ (Action.Fork c.args.child) _ _ c.perform.new.self c.self.view_is c.self.invariant c.thread.ensures c.requires c.in_ok-event.ensures.outcome _ c.enter.ensures.share

pub returns-clause-born : goal.returns-clause-born
returns-clause-born c =
    let born = same_Some _ _ (sym c.in-Some.is ∙ (c.take.ensures.share ∙ born-performed c.self.inside _ _ _ (Action.Fork c.args.child) _ _ c.perform.new.self c.self.view_is c.self.invariant c.thread.ensures c.requires c.in_ok-event.ensures.outcome c.args.child refl)) in
    subst (FitsLog (logged_state c.perform.new.self)) (sym born) (FitsLog-born c.self.inside _ _ _ (Action.Fork c.args.child) _ _ c.perform.new.self c.self.view_is c.self.invariant c.thread.ensures c.requires c.in_ok-event.ensures.outcome c.args.child refl)

pub returns-clause-others : goal.returns-clause-others
returns-clause-others c =
    OthersStillFit-performed c.self.inside _ _ _ (Action.Fork c.args.child) _ _ c.perform.new.self c.self.view_is c.self.invariant c.thread.ensures c.requires c.in_ok-event.ensures.outcome
