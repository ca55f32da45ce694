use Rattle.std.proofs.Common.{ap, sym, ◌∙◌, subst}
use Rattle.velo_events.specs.declared.config.Bounds.{Bounds}
use Rattle.velo_events.specs.WellFormed.{IsWellFormed}
use Rattle.velo_laws.specs.Restart.{IsPrologueOf}
use Rattle.velo_laws.specs.Length.{events_to_leave}
use Rattle.velo_world.specs.Faults.{world_of}
use Rattle.velo_world.specs.World.{WorldState}
use Rattle.velo_laws.specs.Renewal.{Restarts}
use Rattle.velo_laws.proofs.OnRenewals.{restarts, in_the_way, if_ok, if_err}
use Rattle.velo_laws.proofs.renewal.restart.Goals as goal

pub open_after-requires-clause-well_formed : goal.open_after-requires-clause-well_formed
open_after-requires-clause-well_formed c = (c.in_ok-made.ensures.stands c.requires.heap.0 c.requires.heap.1).well_formed

pub open_after-requires-clause-no_begin : goal.open_after-requires-clause-no_begin
open_after-requires-clause-no_begin c = (c.in_ok-made.ensures.stands c.requires.heap.0 c.requires.heap.1).no_begin

pub returns-clause-world : goal.returns-clause-world
returns-clause-world c =
    if_ok c.open_after.result
    (λ opened same. same ∙ ap (world_of c.args.config) (sym (ap (λ (w : WorldState). w.log) same)))
    c.open_after.ensures.world

pub returns-clause-stands : goal.returns-clause-stands
returns-clause-stands c =
    if_ok c.open_after.result
    (λ opened same log stands.
    subst (Restarts c.args.config.bounds log) (sym (ap (λ (w : WorldState). w.log) same))
    (restarts c.args.config.bounds log c.in_ok-made.made.events (c.in_default.ensures.none log stands) (c.in_ok-made.ensures.stands log stands) (c.in_ok-made.ensures.length log stands)))
    c.open_after.ensures.world

pub returns-clause-reason : goal.returns-clause-reason
returns-clause-reason c =
    if_err c.open_after.result
    (λ reason why log stands.
    in_the_way c.args.config log c.in_ok-made.made.events
    (restarts c.args.config.bounds log c.in_ok-made.made.events (c.in_default.ensures.none log stands) (c.in_ok-made.ensures.stands log stands) (c.in_ok-made.ensures.length log stands))
    reason why)
    c.open_after.ensures.reason
