-- Shortest cycles that begin with a given transaction.
use Rattle.std.specs.Prelude.{◌≡◌, ℕ, ◌+◌, ◌<◌, ◌≤◌, nat_lt, if◌then◌else◌, List, take, length, slice_index, Contains}
use Rattle.velo_events.specs.declared.event.Event.{Event}
use Rattle.velo_events.specs.Block.{owner}
use Rattle.velo_events.specs.Graph.{Edge, IsCycle}
use Rattle.velo_events.specs.Refusals.{GrowthRefused}
use Rattle.velo_certify.specs.declared.fault.CertFault.{CertFault}
use Rattle.velo_certify.specs.declared.fault.CertFault.TheVariants.{HasCycle, NoCycle, NotThere, Memory}

-- position p is there, and no cycle of the events up to it contains its transaction
pub record HasNoCycleAt (trace : List Event) (p : ℕ) : Type 0 where
  pub in_trace : p < length trace
  pub none : (cycle : List ℕ) → IsCycle (Edge (take (p + 1) trace)) cycle → ¬ Contains cycle (owner trace p)

-- why there is no shortest cycle at position p
abbrev pub IsCycleFault : List Event → ℕ → CertFault → Type 0
IsCycleFault trace p HasCycle = ⊥
IsCycleFault trace p NoCycle = HasNoCycleAt trace p
IsCycleFault trace p NotThere = length trace ≤ p
IsCycleFault trace p Memory = GrowthRefused

-- a cycle that begins with the transaction
pub record IsCycleFrom (trace : List Event) (start : ℕ) (cycle : List ℕ) : Type 0 where
  pub cyclic : IsCycle (Edge trace) cycle
  pub begins : slice_index cycle 0 ≡ start

-- and no such cycle is shorter
pub record IsShortestFrom (trace : List Event) (start : ℕ) (cycle : List ℕ) : Type 0 where
  pub is_cycle : IsCycleFrom trace start cycle
  pub shortest : (other : List ℕ) → IsCycleFrom trace start other → length cycle ≤ length other

-- no cycle contains the transaction, or why else there is none that begins with it
pub record IsOnNone (trace : List Event) (start : ℕ) : Type 0 where
  pub none : (cycle : List ℕ) → IsCycle (Edge trace) cycle → ¬ Contains cycle start

abbrev pub IsLastFault : List Event → ℕ → CertFault → Type 0
IsLastFault trace start HasCycle = ⊥
IsLastFault trace start NoCycle = IsOnNone trace start
IsLastFault trace start NotThere = ⊥
IsLastFault trace start Memory = GrowthRefused

-- what comes next in a list, where its first comes after its last
abbrev pub next_in : List ℕ → ℕ → ℕ
next_in cycle k = if nat_lt (k + 1) (length cycle) then slice_index cycle (k + 1) else slice_index cycle 0

-- each of the first k of a list has an edge to what comes next
pub record IsLinked (trace : List Event) (cycle : List ℕ) (k : ℕ) : Type 0 where
  pub each : (i : ℕ) → i < k → Edge trace (slice_index cycle i) (next_in cycle i)
