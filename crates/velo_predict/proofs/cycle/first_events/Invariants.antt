use Rattle.std.proofs.Common.{◌≡◌, take}
use Rattle.velo_predict.proofs.cycle.first_events.Given as goal

abbrev pub invariant-loop-event : goal.invariant-loop-event
invariant-loop-event l = l.first.events ≡ take l.event-index l.trace.events
