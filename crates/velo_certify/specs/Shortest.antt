-- What certifies an alarm: a shortest cycle.
use Rattle.std.specs.Prelude.{◌≡◌, ℕ, ◌+◌, ◌<◌, ◌≤◌, List, take, length, slice_index}
use Rattle.velo_events.specs.declared.event.Event.{Event}
use Rattle.velo_events.specs.Block.{owner}
use Rattle.velo_events.specs.Graph.{Edge, IsCycle}

-- a cycle of the events up to p, beginning with the transaction of p
pub record IsCycleAt (trace : List Event) (p : ℕ) (cycle : List ℕ) : Type 0 where
  pub in_trace : p < length trace
  pub cyclic : IsCycle (Edge (take (p + 1) trace)) cycle
  pub begins : slice_index cycle 0 ≡ owner trace p

-- and no such cycle is shorter
pub record IsShortestCycleAt (trace : List Event) (p : ℕ) (cycle : List ℕ) : Type 0 where
  pub is_cycle : IsCycleAt trace p cycle
  pub shortest : (other : List ℕ) → IsCycleAt trace p other → length cycle ≤ length other
