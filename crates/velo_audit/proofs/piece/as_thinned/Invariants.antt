use Rattle.std.proofs.Common.{◌≡◌, length, take}
use Rattle.velo_audit.proofs.piece.as_thinned.Given as goal

abbrev pub invariant-loop-event : goal.invariant-loop-event
invariant-loop-event l = record {
  events : l.thinned.trace.events ≡ take l.event-index l.prologue.events;
  places : length l.thinned.places.items ≡ l.event-index;
}
