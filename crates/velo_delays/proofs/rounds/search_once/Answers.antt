use Rattle.std.proofs.Common.{ℕ, List, subst}
use Rattle.std.specs.Prelude.{slice_index}
use Rattle.velo_events.specs.declared.event.Event.{Event}
use Rattle.velo_filter.specs.Left.{rest_of}
use Rattle.velo_filter.specs.Tables.{left_of}
use Rattle.velo_delays.specs.Found.{GoesOn}
use Rattle.velo_delays.proofs.OnFound.{on_ok, placed}
use Rattle.velo_delays.proofs.rounds.search_once.Goals as goal

pub returns : goal.returns
returns c =
    let bounds = c.args.config.now.bounds in
    let log = c.args.log.now.events in
    let old = left_of c.args.left.now in
    let new = left_of c.try_all.new.left in
    let before = c.args.searched.now.found.items in
    let after = c.try_all.new.searched.found.items in
    let places = c.in_ok-rest.rest.places.items in
    on_ok _ (λ goes.
    subst (λ (place : ℕ → ℕ). GoesOn bounds (rest_of old log) place old new before after) (placed old log places c.in_ok-rest.ensures.places)
    (subst (λ (es : List Event). GoesOn bounds es (slice_index places) old new before after) c.in_ok-rest.ensures.events goes))
    c.try_all.ensures
