use Rattle.std.proofs.Common.{◌-◌, ◌<◌, ◌≤◌, length}
use Rattle.velo_traces.specs.Places.{sizes, AllHavePlaces}
use Rattle.velo_certify.specs.Levels.{IsSearched}
use Rattle.velo_certify.proofs.distances.reach_target.Given as goal

abbrev pub invariant-loop-level : goal.invariant-loop-level
invariant-loop-level l = record {
  positive : 0 < l.level;
  low : l.level ≤ l.reached.count;
  names : AllHavePlaces (sizes l.table) l.events (length l.events);
  searched : IsSearched l.events l.target l.level l.reached;
}

abbrev pub decreases-loop-level : goal.decreases-loop-level
decreases-loop-level l = length l.events - l.reached.count
