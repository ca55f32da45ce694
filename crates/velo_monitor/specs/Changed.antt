-- What an event leaves of the nodes, the tables and the depths. Words of private contracts.
use Rattle.std.specs.Prelude.{◌≡◌, ◌≢◌, ℕ, ◌+◌, ◌-◌, ◌<◌, ⊤, ◌⊎◌, List, length, Option, Some, None, true, false, slice_index_or, slice_set}
use Rattle.velo_monitor.specs.declared.monitor.Seen.{Seen}
use Rattle.velo_monitor.specs.declared.monitor.Seen.TheVariants.{Quiet, Closes}
use Rattle.velo_events.specs.declared.event.Event.{Event}
use Rattle.velo_events.specs.declared.event.Kind.{Kind}
use Rattle.velo_events.specs.declared.event.Kind.TheVariants.{Begin, End}
use Rattle.velo_events.specs.Event.{thread_of}
use Rattle.velo_merge.specs.Merge.{GetsNone, GoesInto, GetsNew}
use Rattle.velo_arena.specs.declared.step.Step.{Step}
use Rattle.velo_arena.specs.Slots.{bears, Opens, with_node}
use Rattle.velo_graph.specs.Nodes.{Nodes, IsRoot, IsAlone, IsSound, AddsEdges}
use Rattle.velo_graph.specs.Collects.{Collects}
use Rattle.velo_merge.specs.Named.{Bears, live_stamps, HasFinished, IsAncestor}
use Rattle.velo_events.specs.Place.{Place, LastOf}
use Rattle.velo_tables.specs.LastAccesses.{LastAccesses, entry, steps_looked_up, HasRoomFor, IsRecorded}
use Rattle.velo_monitor.specs.Watched.{Watched}
use Rattle.velo_monitor.specs.Steps.{live_slots, ReachesSome}

-- a new node, after all those that the steps name
pub record OpensAfter (old : Nodes) (steps : List Step) (stamp : ℕ) (own : Step) (new : Nodes) : Type 0 where
  pub mid : Nodes
  pub opens : Opens old.slots mid.slots own.slot stamp
  pub rows : mid.ancestors ≡ old.ancestors
  pub alone : IsAlone mid own.slot
  pub adds : AddsEdges mid new (live_slots mid steps) own.slot
  pub stamped : own.stamp ≡ stamp
  pub sound : IsSound new

-- the node of the step is marked as finished
pub record Marks (old new : Nodes) (own : Step) : Type 0 where
  pub slots : new.slots ≡ with_node old.slots own.slot (Some (record { stamp = own.stamp; finished = true }))
  pub ancestors : new.ancestors ≡ old.ancestors
  pub sound : IsSound new

-- the node of the step is marked as finished; where it has no ancestors, what is unneeded then is gone
pub record EndsBlock (old new : Nodes) (own : Step) : Type 0 where
  pub marked : Nodes
  pub marks : Marks old marked own
  pub collects : Collects marked new ⊎ ((¬ IsRoot old own.slot) × (new ≡ marked))
  pub sound : IsSound new

abbrev pub depth_of : Watched → ℕ → ℕ
depth_of monitor t = slice_index_or monitor.depths t 0

-- the thread has a depth, and room for one more where it begins a block, and one to end where it ends one
abbrev pub CanCount : Watched → ℕ → Kind → Type 0
CanCount monitor t (Begin label) = (t < length monitor.depths) × (depth_of monitor t < 255)
CanCount monitor t End = (t < length monitor.depths) × (0 < depth_of monitor t)
CanCount monitor t _ = ⊤

-- where this was the last open block of the thread, it ends the node
pub record EndsInner (old new : Watched) (t : ℕ) (own : Step) : Type 0 where
  pub depths : new.depths ≡ slice_set old.depths t (depth_of old t - 1)
  pub outermost : depth_of old t - 1 ≡ 0 → EndsBlock old.nodes new.nodes own
  pub inner : depth_of old t - 1 ≢ 0 → new.nodes ≡ old.nodes

-- what an event inside a block makes of the open blocks
abbrev pub CountsBlocks : Watched → Kind → ℕ → Step → Watched → Type 0
CountsBlocks old (Begin label) t own new = (new.nodes ≡ old.nodes) × (new.depths ≡ slice_set old.depths t (depth_of old t + 1))
CountsBlocks old End t own new = EndsInner old new t own
CountsBlocks old _ t own new = (new.nodes ≡ old.nodes) × (new.depths ≡ old.depths)

-- an event inside a block is taken in by the node of its thread's last event
pub record ExtendsBlock (old : Watched) (e : Event) (new : Watched) : Type 0 where
  pub own : Step
  pub current : entry old.kept (LastOf (thread_of e)) ≡ Some own
  pub open_end : ¬ ReachesSome old.nodes own.slot (steps_looked_up old.kept e)
  pub extended : Nodes
  pub adds : AddsEdges old.nodes extended (live_slots old.nodes (steps_looked_up old.kept e)) own.slot
  pub sound : IsSound extended
  pub recorded : IsRecorded old.kept e (Some own) new.kept
  pub threads : length new.kept.threads ≡ length old.kept.threads
  pub blocks : CountsBlocks (record { nodes = extended; kept = new.kept; depths = old.depths }) e.kind (thread_of e) own new

-- or it would close a cycle, and nothing changes
pub record ClosesBlock (old : Watched) (e : Event) (transaction : ℕ) (new : Watched) : Type 0 where
  pub own : Step
  pub current : entry old.kept (LastOf (thread_of e)) ≡ Some own
  pub reached : ReachesSome old.nodes own.slot (steps_looked_up old.kept e)
  pub names : transaction ≡ own.stamp
  pub same : new ≡ old

abbrev pub AfterInside : Watched → Event → Seen → Watched → Type 0
AfterInside old e Quiet new = ExtendsBlock old e new
AfterInside old e (Closes transaction) new = ClosesBlock old e transaction new

-- an outermost begin gets a new node
pub record BeginsBlock (old : Watched) (position : ℕ) (e : Event) (new : Watched) : Type 0 where
  pub own : Step
  pub opened : OpensAfter old.nodes (steps_looked_up old.kept e) position own new.nodes
  pub recorded : IsRecorded old.kept e (Some own) new.kept
  pub threads : length new.kept.threads ≡ length old.kept.threads
  pub depths : new.depths ≡ slice_set old.depths (thread_of e) (depth_of old (thread_of e) + 1)

-- a new node that is finished at once
pub record PlacesNew (old : Nodes) (steps : List Step) (position : ℕ) (own : Step) (new : Nodes) : Type 0 where
  pub opened : Nodes
  pub opens : OpensAfter old steps position own opened
  pub marks : Marks opened new own

-- where an event outside blocks goes by the merge rule
abbrev pub GetsNoNode : Nodes → List Step → Option Step → Nodes → Type 0
GetsNoNode old steps step new = GetsNone (live_stamps old steps) × (step ≡ None) × (new ≡ old)

pub record GoesIntoNode (old : Nodes) (steps : List Step) (step : Option Step) (new : Nodes) : Type 0 where
  pub into : Step
  pub is : step ≡ Some into
  pub borne : Bears old into.slot into.stamp
  pub goes : GoesInto old (live_stamps old steps) into.stamp
  pub same : new ≡ old

pub record GetsOwnNode (old : Nodes) (steps : List Step) (position : ℕ) (step : Option Step) (new : Nodes) : Type 0 where
  pub own : Step
  pub is : step ≡ Some own
  pub gets : GetsNew old (live_stamps old steps)
  pub placed : PlacesNew old steps position own new

abbrev pub IsPlaced : Nodes → List Step → ℕ → Option Step → Nodes → Type 0
IsPlaced old steps position step new = GetsNoNode old steps step new ⊎ (GoesIntoNode old steps step new ⊎ GetsOwnNode old steps position step new)

-- an event outside blocks
pub record AfterOutside (old : Watched) (position : ℕ) (e : Event) (new : Watched) : Type 0 where
  pub step : Option Step
  pub placed : IsPlaced old.nodes (steps_looked_up old.kept e) position step new.nodes
  pub recorded : IsRecorded old.kept e step new.kept
  pub threads : length new.kept.threads ≡ length old.kept.threads
  pub depths : new.depths ≡ old.depths

-- the step, if there is one, names no node in use
pub record IsGone (nodes : Nodes) (step : Option Step) : Type 0 where
  pub each : (s : Step) → step ≡ Some s → bears nodes.slots s.slot s.stamp ≡ false

-- some places whose steps name no node in use have none any more, every other keeps what it has; no room is lost
pub record ForgetsDead (nodes : Nodes) (old new : LastAccesses) : Type 0 where
  pub each : (p : Place) → (entry new p ≡ entry old p) ⊎ ((entry new p ≡ None) × IsGone nodes (entry old p))
  pub room : (e : Event) → HasRoomFor old e → HasRoomFor new e
  pub threads : length new.threads ≡ length old.threads
