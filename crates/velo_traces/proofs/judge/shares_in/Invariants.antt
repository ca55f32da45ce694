use Rattle.std.proofs.Common.{◌≡◌, take}
use Rattle.velo_events.specs.Heap.{shares_in}
use Rattle.velo_traces.proofs.judge.shares_in.Given as goal

abbrev pub invariant-loop-event : goal.invariant-loop-event
invariant-loop-event l = l.share ≡ shares_in (take l.event-index l.events) l.m.0 l.t.0
