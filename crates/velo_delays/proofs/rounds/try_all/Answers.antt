use Rattle.std.specs.Prelude.{slice_index}
use Rattle.velo_filter.specs.Tables.{left_of}
use Rattle.velo_delays.proofs.OnFound.{GoesOn-none, GoesOn-takes}
use Rattle.velo_delays.proofs.rounds.try_all.Goals as goal

pub loop-at-init : goal.loop-at-init
loop-at-init c = record {
  stands = c.in_ok-base.ensures;
  goes_on = GoesOn-none c.args.config.now.bounds c.args.rest.now.trace.events (slice_index c.args.rest.now.places.items) (left_of c.args.left.now) c.args.searched.now.found.items;
}

pub loop-at-preserved : goal.loop-at-preserved
loop-at-preserved c = record {
  stands = c.follow_to.ensures;
  goes_on = GoesOn-takes c.args.config.now.bounds c.args.rest.now.trace.events (slice_index c.args.rest.now.places.items) _ _ _ _ _ _ c.loop-at.invariant.goes_on _ c.in_ok-found.ensures c.in_ok-take_in.ensures;
}
