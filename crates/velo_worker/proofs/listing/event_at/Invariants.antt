use Rattle.std.proofs.Common.{◌≡◌, length}
use Rattle.std.specs.Prelude.{filter, slice_get}
use Rattle.velo_worker.specs.Counts.{has_event}
use Rattle.velo_worker.specs.Walk.{walk_of}
use Rattle.velo_worker.proofs.listing.event_at.Given as goal

abbrev pub invariant-loop-statement : goal.invariant-loop-statement
invariant-loop-statement l = slice_get (filter has_event l.left) l.before ≡ slice_get (filter has_event (walk_of l.fn.body)) l.fn.number

abbrev pub decreases-loop-statement : goal.decreases-loop-statement
decreases-loop-statement l = length l.left
