use Rattle.std.proofs.Common.{◌≡◌, [], ◌∷◌, ◌++◌, ◌∙◌, subst}
use Rattle.std.specs.Prelude.{OnOk, OnErr, IfErr}
use Rattle.velo_world.specs.Faults.{world_of, IsFaultAtEvent}
use Rattle.velo_world.specs.World.{WorldState}
use Rattle.velo_world.specs.RecordedRun.{recorded_state}
use Rattle.velo_world.proofs.recorded_world.RecordedWorld.replay.Goals as goal

pub invariant_of-self : goal.invariant_of-self
invariant_of-self c = record { run = c.replay.ensures.stands }

pub returns-clause-ok : goal.returns-clause-ok
returns-clause-ok c =
    subst (λ (w : WorldState). OnOk c.replay.result (recorded_state c.replay.new.self ≡ world_of w.config (w.log ++ c.args.event.now ∷ []))) c.self.view_is c.replay.ensures.ok

pub returns-clause-same : goal.returns-clause-same
returns-clause-same c = subst (λ (w : WorldState). OnErr c.replay.result (recorded_state c.replay.new.self ≡ w)) c.self.view_is c.replay.ensures.same

pub returns-clause-fault : goal.returns-clause-fault
returns-clause-fault c = subst (λ (w : WorldState). IfErr c.replay.result (λ fault. IsFaultAtEvent w.config w.log c.args.event.now fault)) c.self.view_is c.replay.ensures.fault
