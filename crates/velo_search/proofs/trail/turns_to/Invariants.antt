use Rattle.std.proofs.Common.{◌≤◌, ◌++◌, List, length, reverse}
use Rattle.velo_events.specs.declared.event.ThreadId.{ThreadId}
use Rattle.velo_search.specs.Steps.{IsWay}
use Rattle.velo_search.proofs.trail.turns_to.Given as goal

abbrev pub invariant-loop-from : goal.invariant-loop-from
invariant-loop-from l = record {
  within : l.from ≤ length l.steps;
  way : (rest : List ThreadId) → IsWay l.steps l.from rest → IsWay l.steps l.place (rest ++ reverse l.turns.items);
}

abbrev pub decreases-loop-from : goal.decreases-loop-from
decreases-loop-from l = l.from
