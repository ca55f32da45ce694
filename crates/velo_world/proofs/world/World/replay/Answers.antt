use Rattle.std.proofs.Common.{◌≡◌, ◌≤◌, List, [], ◌∷◌, ◌++◌, length, take, refl, Some, Ok, sym, ap, ◌∙◌, subst, arith}
use Rattle.velo_events.specs.Meaning.{action_of}
use Rattle.velo_world.specs.LoggedRun.{logged_state}
use Rattle.velo_world.specs.World.{WorldState}
use Rattle.velo_world.specs.Faults.{IsFaultAtEvent}
use Rattle.velo_world.proofs.OnLoggedRuns.{well_formed-logged}
use Rattle.velo_world.proofs.OnSequences.{CanEnterAt-added, IsBookOf-stepped, place-born, Stepped, Stepped-added}
use Rattle.velo_world.proofs.OnSteps.{KeepsUnborn-added}
use Rattle.velo_world.proofs.world.World.replay.Goals as goal

pub enter_at-requires-clause-there : goal.enter_at-requires-clause-there
enter_at-requires-clause-there c =
    CanEnterAt-added (logged_state c.self.inside.logged) _ c.args.shares.now c.self.inside.kept _ _ _ _ (well_formed-logged _ c.self.invariant.logged) c.in-Ok.ensures.adds c.self.invariant.keeps (rw c.self.view_is c.requires.ready) c.self.inside.book c.self.invariant.book

pub hand_over-requires : goal.hand_over-requires
hand_over-requires c =
    place-born (logged_state c.self.inside.logged) _ c.args.shares.now c.self.inside.kept _ _ _ _ (well_formed-logged _ c.self.invariant.logged) c.in-Ok.ensures.adds c.self.invariant.keeps (rw c.self.view_is c.requires.ready) c.self.inside.book _ _ c.enter_at.ensures.entered

pub invariant_of-self : goal.invariant_of-self
invariant_of-self c = record {
  logged = c.replay.ensures.stands;
  book = IsBookOf-stepped (logged_state c.self.inside.logged) _ c.args.shares.now c.self.inside.kept _ _ _ _ (well_formed-logged _ c.self.invariant.logged) c.in-Ok.ensures.adds c.self.invariant.keeps (rw c.self.view_is c.requires.ready) c.self.inside.book _ _ c.self.invariant.book c.enter_at.ensures.entered;
  keeps = KeepsUnborn-added (logged_state c.self.inside.logged) _ _ _ _ _ (well_formed-logged _ c.self.invariant.logged) c.in-Ok.ensures.adds c.self.inside.kept _ c.self.invariant.keeps c.hand_over.ensures.kept;
}

pub returns-in-Ok : goal.returns-in-Ok
returns-in-Ok c =
    let event = c.args.event.now in
    let stepped = Stepped-added (logged_state c.self.inside.logged) _ c.args.shares.now c.self.inside.kept _ _ _ _ (well_formed-logged _ c.self.invariant.logged) c.in-Ok.ensures.adds c.self.invariant.keeps (rw c.self.view_is c.requires.ready) c.self.inside.book _ _ _ c.enter_at.ensures.entered c.hand_over.ensures.shares in
    let seen = subst (λ (w : WorldState). Stepped w c.args.shares.now event.thread (action_of event.kind) (Ok c.in-Ok.reply) (logged_state c.replay.new.self) c.hand_over.new.shares) c.self.view_is stepped in
    record { outcome = (seen.outcome_is, c.in-Ok.ensures.adds.log ∙ ap (λ (w : WorldState). w.log ++ event ∷ []) c.self.view_is); ready = seen.ready; filled = seen.filled; complete = seen.complete }

pub returns-in-Err-clause-outcome : goal.returns-in-Err-clause-outcome
returns-in-Err-clause-outcome c =
    (subst (λ (w : WorldState). IsFaultAtEvent w.config w.log c.args.event.now c.in-Err.fault) c.self.view_is c.in-Err.ensures.fault, c.in-Err.ensures.same ∙ c.self.view_is, refl)
