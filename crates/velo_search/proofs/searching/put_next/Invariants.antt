use Rattle.std.proofs.Common.{◌+◌, ◌≤◌, length}
use Rattle.std.specs.Prelude.{All}
use Rattle.velo_search.specs.Judged.{AlarmsGoOnIn, IsReachedIn, IsTriedIn}
use Rattle.velo_search.specs.Trail.{GoesOn, IsNoted}
use Rattle.velo_search.proofs.searching.put_next.Given as goal

abbrev pub invariant-loop-thread : goal.invariant-loop-thread
invariant-loop-thread l = record {
  tried : IsTriedIn l.fn.terms.bounds l.fn.terms.scripts.now l.fn.state l.fn.next.states.items l.next.states.items l.seen l.thread;
  count : length l.next.states.items ≤ length l.fn.next.states.items + l.thread;
  others : All (IsReachedIn l.fn.terms.bounds l.fn.terms.scripts.now l.trail.steps.items) l.next.states.items;
  goes_on : GoesOn l.fn.trail l.trail;
  alarms : AlarmsGoOnIn l.fn.terms.bounds l.fn.terms.scripts.now l.fn.trail l.trail;
  noted : All (IsNoted l.trail) l.next.states.items;
}
