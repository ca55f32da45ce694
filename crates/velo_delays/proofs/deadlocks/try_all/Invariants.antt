use Rattle.std.proofs.Common.{◌≡◌}
use Rattle.std.specs.List.{flat_map}
use Rattle.std.specs.Prelude.{slice_index}
use Rattle.velo_filter.specs.Left.{is_listed}
use Rattle.velo_filter.specs.Tables.{left_of}
use Rattle.velo_delays.specs.Deadlock.{AreDeadlocks, locks_waited_for}
use Rattle.velo_delays.specs.Stands.{Stands}
use Rattle.velo_delays.proofs.deadlocks.try_all.Given as goal

abbrev pub invariant-loop-at : goal.invariant-loop-at
invariant-loop-at l = record {
  stands : Stands l.base.heap;
  done : (left_of l.done).locks ≡ is_listed (flat_map locks_waited_for l.deadlocks.found.items);
  found : AreDeadlocks l.config.bounds l.rest.trace.events (slice_index l.rest.places.items) l.deadlocks.found.items;
}
