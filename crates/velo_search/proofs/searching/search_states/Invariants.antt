use Rattle.std.proofs.Common.{◌≡◌, ℕ, ◌+◌, ◌*◌, ◌<◌, ◌≤◌, ◌-◌, false, [], length}
use Rattle.std.specs.Prelude.{All}
use Rattle.velo_search.specs.Judged.{AreShownIn, IsCleanIn, IsFaultIn, IsReachedIn, IsTrueIn}
use Rattle.velo_search.specs.Faults.{Fault}
use Rattle.velo_search.specs.Runs.{NeverWithin}
use Rattle.velo_search.specs.Search.{has_fault, ways}
use Rattle.velo_search.specs.Trail.{IsNoted}
use Rattle.velo_search.proofs.searching.search_states.Given as goal

abbrev pub invariant-loop-states : goal.invariant-loop-states
invariant-loop-states g l = record {
  some : 0 < length l.level.states.items;
  most : l.states ≤ l.fn.most_states;
  true_of : IsTrueIn l.fn.config.bounds l.fn.scripts l.found;
  others : All (IsReachedIn l.fn.config.bounds l.fn.scripts l.trail.steps.items) l.level.states.items;
  shown : AreShownIn l.fn.config.bounds l.fn.scripts l.fn.first l.found l.trail;
  levels : l.levels ≤ l.states;
  leads : (n : ℕ) (fault : Fault) → has_fault l.found fault ≡ false → All (IsCleanIn l.fn.config.bounds l.fn.scripts n fault) l.level.states.items →
      NeverWithin (l.levels + n) (IsFaultIn l.fn.config.bounds l.fn.scripts fault) l.fn.config.bounds l.fn.scripts.kinds [];
  noted : All (IsNoted l.trail) l.level.states.items;
  depth : l.states ≤ ways l.fn.config.bounds.threads l.levels;
  kept : l.states + length l.level.states.items ≤ l.states * l.fn.config.bounds.threads + 1;
  may : g.P.Progress.may_end l.progress ≡ g.P.Progress.may_end l.fn.progress;
}

abbrev pub decreases-loop-states : goal.decreases-loop-states
decreases-loop-states g l = l.fn.most_states - l.states
