-- What callers see of a monitor, and the traces that it stands for.
use Rattle.std.specs.Prelude.{◌≡◌, ◌≢◌, ℕ, ◌<◌, ◌≤◌, false, not, ◌⊎◌, List, length, Option, Some, None, IsTrue, IsSomeAnd, slice_index_or}
use Rattle.std.specs.Option.{ForSome}
use Rattle.velo_events.specs.declared.limits.TheConstants.{MAX_THREADS}
use Rattle.velo_events.specs.declared.config.Bounds.{Bounds}
use Rattle.velo_events.specs.declared.event.Event.{Event}
use Rattle.velo_events.specs.Heap.{depth_in}
use Rattle.velo_events.specs.WellFormed.{IsWellFormed}
use Rattle.velo_events.specs.Block.{owner, is_open, IsTransaction, IsUnfinished}
use Rattle.velo_events.specs.Graph.{Edge, Reaches, HasCycle}
use Rattle.velo_monitor.specs.Collection.{IsLive, IsCovered}
use Rattle.velo_arena.specs.declared.step.Step.{Step}
use Rattle.velo_arena.specs.Slots.{bears, is_finished_in}
use Rattle.velo_graph.specs.Nodes.{Nodes, is_ancestor, IsSound}
use Rattle.velo_graph.specs.Collects.{HasNothingLeft}
use Rattle.velo_merge.specs.Named.{Bears}
use Rattle.velo_events.specs.Place.{Place, last_at}
use Rattle.velo_tables.specs.LastAccesses.{LastAccesses, entry}

-- the nodes in use, the step at each place, and how many blocks each thread has open
pub record Watched : Type 0 where
  pub nodes : Nodes
  pub kept : LastAccesses
  pub depths : List ℕ

-- ---- the nodes

-- the nodes in use are transactions of the trace, and every unfinished one is a node
pub record AreFounded (nodes : Nodes) (trace : List Event) : Type 0 where
  pub transaction : (k a : ℕ) → Bears nodes k a → IsTransaction trace a
  pub finished : (k a : ℕ) → Bears nodes k a → is_finished_in nodes.slots k ≡ not (is_open trace a)
  pub unfinished : (a : ℕ) → IsUnfinished trace a → (k : ℕ) × Bears nodes k a

-- the ancestors of a node reach it, and each unfinished one that does is among them
pub record AreAncestors (nodes : Nodes) (trace : List Event) : Type 0 where
  pub sound : (j k a b : ℕ) → Bears nodes j a → Bears nodes k b → IsTrue (is_ancestor nodes j k) → Reaches (Edge trace) a b
  pub complete : (j k a b : ℕ) → Bears nodes j a → Bears nodes k b → IsUnfinished trace a → a ≢ b → Reaches (Edge trace) a b → IsTrue (is_ancestor nodes j k)

-- ---- the tables

-- the step stands for transaction a: it names a node in use only if this is a or covers a, and none only if a is not live
pub record IsStepFor (nodes : Nodes) (trace : List Event) (step : Step) (a : ℕ) : Type 0 where
  pub alive : Bears nodes step.slot step.stamp → (step.stamp ≡ a) ⊎ IsCovered trace a step.stamp
  pub dead : bears nodes.slots step.slot step.stamp ≡ false → ¬ IsLive trace a

abbrev pub IsEntryFor : Nodes → List Event → Option Step → ℕ → Type 0
IsEntryFor nodes trace None a = ¬ IsLive trace a
IsEntryFor nodes trace (Some step) a = IsStepFor nodes trace step a

-- each place has an entry for the transaction of its last event, and no stamp that was not yet given
pub record AreEntries (nodes : Nodes) (kept : LastAccesses) (trace : List Event) : Type 0 where
  pub last : (p : Place) (i : ℕ) → last_at p trace ≡ Some i → IsEntryFor nodes trace (entry kept p) (owner trace i)
  pub never : (p : Place) → last_at p trace ≡ None → entry kept p ≡ None
  pub given : (p : Place) (step : Step) → entry kept p ≡ Some step → IsSomeAnd nodes.slots.newest (λ newest. step.stamp ≤ newest)

-- ---- the whole

-- a founds a node in use, or is covered by one, or is not live
abbrev pub IsAccountedIn : Nodes → List Event → ℕ → Type 0
IsAccountedIn nodes trace a = ((k : ℕ) × Bears nodes k a) ⊎ (((k n : ℕ) × Bears nodes k n × IsCovered trace a n) ⊎ (¬ IsLive trace a))

-- how many blocks each thread has open
abbrev pub AreDepths : Bounds → List ℕ → List Event → Type 0
AreDepths bounds depths trace = (length depths ≡ bounds.threads) × ((t : ℕ) → t < bounds.threads → slice_index_or depths t 0 ≡ depth_in trace t)

-- the monitor is that of the trace, which can come about within the bounds and has no cycle
pub record IsMonitorOf (bounds : Bounds) (monitor : Watched) (trace : List Event) : Type 0 where
  pub few : bounds.threads ≤ MAX_THREADS
  pub well_formed : IsWellFormed bounds trace
  pub acyclic : ¬ HasCycle trace
  pub earlier : ForSome monitor.nodes.slots.newest (λ newest. newest < length trace)
  pub sound : IsSound monitor.nodes
  pub founded : AreFounded monitor.nodes trace
  pub ancestors : AreAncestors monitor.nodes trace
  pub collected : HasNothingLeft monitor.nodes
  pub entries : AreEntries monitor.nodes monitor.kept trace
  pub threads : length monitor.kept.threads ≡ bounds.threads
  pub accounted : (a : ℕ) → IsTransaction trace a → IsAccountedIn monitor.nodes trace a
  pub depths : AreDepths bounds monitor.depths trace

-- a fact about each trace, within any bounds, that the monitor stands for
abbrev pub ForItsTraces : Watched → (Bounds → List Event → Type 0) → Type 0
ForItsTraces monitor Fact = (bounds : Bounds) (trace : List Event) → IsMonitorOf bounds monitor trace → Fact bounds trace
