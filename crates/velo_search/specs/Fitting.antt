-- Bounds of fewer variables and locks, in which the operations of scripts name as much.
use Rattle.std.specs.Prelude.{◌≡◌, ◌≤◌, ℕ, ◌↔◌, List, Some, slice_get}
use Rattle.velo_events.specs.declared.config.Bounds.{Bounds}
use Rattle.velo_events.specs.declared.event.Kind.{Kind}
use Rattle.velo_events.specs.WellFormed.{NamesKnown}
use Rattle.velo_search.specs.Runs.{script_of}

-- as many threads, and no more variables and locks
pub record IsWithin (small large : Bounds) : Type 0 where
  pub threads : small.threads ≡ large.threads
  pub variables : small.variables ≤ large.variables
  pub locks : small.locks ≤ large.locks

-- what the operation names in the first is there in the second
abbrev pub NamesStay : Bounds → Bounds → Kind → Type 0
NamesStay one other k = NamesKnown one k → NamesKnown other k

-- as many threads; and what an operation of the scripts names is there in both, or in none
pub record AreAlike (one other : Bounds) (scripts : List (List Kind)) : Type 0 where
  pub threads : one.threads ≡ other.threads
  pub names : (t i : ℕ) (k : Kind) → slice_get (script_of scripts t) i ≡ Some k → (NamesKnown one k ↔ NamesKnown other k)
