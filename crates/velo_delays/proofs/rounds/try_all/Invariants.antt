use Rattle.std.specs.Prelude.{slice_index}
use Rattle.velo_filter.specs.Tables.{left_of}
use Rattle.velo_delays.specs.Found.{GoesOn}
use Rattle.velo_delays.specs.Stands.{Stands}
use Rattle.velo_delays.proofs.rounds.try_all.Given as goal

abbrev pub invariant-loop-at : goal.invariant-loop-at
invariant-loop-at l = record {
  stands : Stands l.base.heap;
  goes_on : GoesOn l.config.bounds l.rest.trace.events (slice_index l.rest.places.items) (left_of l.fn.left) (left_of l.left) l.fn.searched.found.items l.searched.found.items;
}
