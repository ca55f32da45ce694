use Rattle.std.proofs.Common.{◌≡◌, [], List, ap, sym, subst, ◌∙◌, arith}
use Rattle.velo_events.specs.declared.config.Config.{Config}
use Rattle.velo_events.specs.declared.event.Event.{Event}
use Rattle.velo_world.specs.World.{WorldState}
use Rattle.velo_world.specs.Faults.{world_of}
use Rattle.velo_watch.specs.Kept.{IsKept}
use Rattle.velo_watch.proofs.OnPieces.{nothing_begins, nothing_stands, nothing_open, nothing_closes, kept_none}
use Rattle.velo_watch.proofs.piece.LogPiece.new.Goals as goal

pub returns-in-Ok-clause-follows : goal.returns-in-Ok-clause-follows
returns-in-Ok-clause-follows c = record {
  live = ap (λ (w : WorldState). w.halted) c.in-Ok.ensures.world;
  goes_on = ap (λ (w : WorldState). w.config.stop) c.in-Ok.ensures.world ∙ c.requires;
  ready = c.in-Ok.ensures.ready;
  prologue = record { within = omega arith; no_begin = nothing_begins };
  few = omega arith;
}

pub returns-in-Ok-clause-none : goal.returns-in-Ok-clause-none
returns-in-Ok-clause-none c =
    let empty : c.in-Ok.world.log ≡ [] = ap (λ (w : WorldState). w.log) c.in-Ok.ensures.world ∙ c.new.ensures in
    kept_none c.in-Ok.world.config.bounds c.in-Ok.world.log empty nothing_closes nothing_open (nothing_stands c.in-Ok.world.config.bounds)
