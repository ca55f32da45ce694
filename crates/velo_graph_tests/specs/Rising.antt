-- An order of the transactions that no conflict breaks, as ranks. Then there is no cycle.
use Rattle.std.specs.Prelude.{◌≢◌, ℕ, ◌<◌, List, slice_index, IsTrue}
use Rattle.velo_events.specs.declared.event.Event.{Event}
use Rattle.velo_events.specs.Block.{owner}
use Rattle.velo_events.specs.Graph.{conflict_at}

-- where two positions of different transactions conflict, the ranks of these rise
pub record RisesAt (trace : List Event) (ranks : List ℕ) (i j : ℕ) : Type 0 where
  pub rises : IsTrue (conflict_at trace i j) → owner trace i ≢ owner trace j → slice_index ranks (owner trace i) < slice_index ranks (owner trace j)

-- the same of all earlier positions and j
pub record RiseInto (trace : List Event) (ranks : List ℕ) (j : ℕ) : Type 0 where
  pub each : (i : ℕ) → i < j → RisesAt trace ranks i j

-- and of all pairs of the first n positions
pub record RiseBelow (trace : List Event) (ranks : List ℕ) (n : ℕ) : Type 0 where
  pub each : (j : ℕ) → j < n → RiseInto trace ranks j
