use Rattle.std.proofs.Common.{◌≡◌, ℕ, ◌+◌, ◌*◌, ◌≤◌, false, length}
use Rattle.std.specs.Prelude.{All}
use Rattle.velo_search.specs.Judged.{AreShownIn, IsCleanIn, IsReachedIn, IsTrueIn}
use Rattle.velo_search.specs.Faults.{Fault}
use Rattle.velo_search.specs.Search.{has_fault}
use Rattle.velo_search.specs.Trail.{IsNoted}
use Rattle.velo_search.proofs.searching.next_level.Given as goal

abbrev pub invariant-loop-state : goal.invariant-loop-state
invariant-loop-state g l = record {
  true_of : IsTrueIn l.fn.terms.bounds l.fn.terms.scripts.now l.found;
  more : (fault : Fault) → has_fault l.found fault ≡ false → has_fault l.fn.before fault ≡ false;
  others : All (IsReachedIn l.fn.terms.bounds l.fn.terms.scripts.now l.trail.steps.items) l.next.states.items;
  left : All (IsReachedIn l.fn.terms.bounds l.fn.terms.scripts.now l.trail.steps.items) l.level.states.items;
  shown : AreShownIn l.fn.terms.bounds l.fn.terms.scripts.now l.fn.terms.first l.found l.trail;
  leads : (n : ℕ) (fault : Fault) → has_fault l.found fault ≡ false → All (IsCleanIn l.fn.terms.bounds l.fn.terms.scripts.now n fault) l.next.states.items →
      All (IsCleanIn l.fn.terms.bounds l.fn.terms.scripts.now (n + 1) fault) l.level.states.items → All (IsCleanIn l.fn.terms.bounds l.fn.terms.scripts.now (n + 1) fault) l.fn.level.states.items;
  noted : All (IsNoted l.trail) l.next.states.items;
  noted_left : All (IsNoted l.trail) l.level.states.items;
  count : l.states + length l.level.states.items ≡ length l.fn.level.states.items;
  few : length l.next.states.items ≤ l.states * l.fn.terms.bounds.threads;
  may : g.P.Progress.may_end l.progress ≡ g.P.Progress.may_end l.fn.progress;
}

abbrev pub decreases-loop-state : goal.decreases-loop-state
decreases-loop-state g l = length l.level.states.items
