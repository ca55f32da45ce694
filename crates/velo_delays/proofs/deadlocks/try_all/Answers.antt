use Rattle.std.proofs.Common.{ap}
use Rattle.std.specs.Prelude.{slice_index}
use Rattle.velo_filter.specs.Left.{Omitted}
use Rattle.velo_delays.proofs.OnDeadlocks.{AreDeadlocks-none, done-none, taken}
use Rattle.velo_delays.proofs.deadlocks.try_all.Goals as goal

pub loop-at-init : goal.loop-at-init
loop-at-init c = record {
  stands = c.in_ok-base.ensures;
  done = done-none _ c.args.deadlocks.now.found.items (ap (λ (l : Omitted). l.locks) c.new-done.ensures) c.requires.none;
  found = AreDeadlocks-none c.args.config.now.bounds c.args.rest.now.trace.events (slice_index c.args.rest.now.places.items) c.args.deadlocks.now.found.items c.requires.none;
}

pub loop-at-preserved : goal.loop-at-preserved
loop-at-preserved c =
    let was = c.loop-at.invariant in
    let w = taken c.args.config.now.bounds c.args.rest.now.trace.events (slice_index c.args.rest.now.places.items) _ _ _ _ was.done was.found _ c.in_ok-found.ensures c.in_ok-take_in.ensures in
    record { stands = c.follow_to.ensures; done = w.1; found = w.0 }
