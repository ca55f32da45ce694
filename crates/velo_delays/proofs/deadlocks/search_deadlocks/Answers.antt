use Rattle.std.proofs.Common.{ℕ, List, subst}
use Rattle.std.specs.Prelude.{slice_index}
use Rattle.velo_events.specs.declared.event.Event.{Event}
use Rattle.velo_filter.specs.Left.{rest_of}
use Rattle.velo_filter.specs.Tables.{left_of}
use Rattle.velo_delays.specs.Deadlock.{AreDeadlocks}
use Rattle.velo_delays.proofs.OnFound.{placed}
use Rattle.velo_delays.proofs.deadlocks.search_deadlocks.Goals as goal

pub returns : goal.returns
returns c =
    let bounds = c.args.config.now.bounds in
    let log = c.args.log.now.events in
    let found = c.try_all.new.deadlocks.found.items in
    let places = c.in_ok-rest.rest.places.items in
    subst (λ (place : ℕ → ℕ). AreDeadlocks bounds (rest_of (left_of c.args.left.now) log) place found) (placed (left_of c.args.left.now) log places c.in_ok-rest.ensures.places)
    (subst (λ (es : List Event). AreDeadlocks bounds es (slice_index places) found) c.in_ok-rest.ensures.events c.in_ok-try_all.ensures)
