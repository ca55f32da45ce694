use Rattle.std.proofs.Common.{◌≡◌, ◌++◌, length}
use Rattle.std.specs.Prelude.{filter}
use Rattle.velo_worker.specs.Counts.{has_event}
use Rattle.velo_worker.specs.Walk.{walk_of}
use Rattle.velo_worker.proofs.listing.list_events.Given as goal

abbrev pub invariant-loop-statement : goal.invariant-loop-statement
invariant-loop-statement l = l.events.items ++ filter has_event l.left ≡ filter has_event (walk_of l.fn.body)

abbrev pub decreases-loop-statement : goal.decreases-loop-statement
decreases-loop-statement l = length l.left
