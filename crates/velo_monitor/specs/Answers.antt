-- What a monitor answers to the next event of its trace.
use Rattle.std.specs.Prelude.{◌≡◌, ℕ, ◌<◌, ◌⊎◌, List, [], ◌∷◌, ◌++◌, length, IsTrue, IsFalse}
use Rattle.velo_monitor.specs.declared.monitor.Seen.{Seen}
use Rattle.velo_monitor.specs.declared.monitor.Seen.TheVariants.{Quiet, Closes}
use Rattle.velo_events.specs.declared.limits.TheConstants.{MAX_EVENTS}
use Rattle.velo_events.specs.declared.config.Bounds.{Bounds}
use Rattle.velo_events.specs.declared.event.Event.{Event}
use Rattle.velo_events.specs.Event.{thread_of, is_begin}
use Rattle.velo_events.specs.Heap.{depth_in}
use Rattle.velo_events.specs.WellFormed.{MayFollow}
use Rattle.velo_events.specs.Block.{owner}
use Rattle.velo_events.specs.Graph.{HasCycle}
use Rattle.velo_merge.specs.Merge.{GetsNew}
use Rattle.velo_arena.specs.Slots.{used_in, limit_of}
use Rattle.velo_tables.specs.LastAccesses.{steps_looked_up, HasRoomFor}
use Rattle.velo_merge.specs.Named.{live_stamps, HasFinished, IsAncestor}
use Rattle.velo_monitor.specs.Watched.{Watched, IsMonitorOf}

-- the event, which comes after the trace, begins an outermost block
abbrev pub BeginsOutermost : List Event → Event → Type 0
BeginsOutermost trace e = IsTrue (is_begin e.kind) × (depth_in trace (thread_of e) ≡ 0)

-- it is in no block, and begins none
abbrev pub ComesOutside : List Event → Event → Type 0
ComesOutside trace e = IsFalse (is_begin e.kind) × (depth_in trace (thread_of e) ≡ 0)

-- the nodes of the event's live predecessors are such that the merge rule gives a new one
abbrev pub GetsNewNode : Watched → Event → Type 0
GetsNewNode monitor e = GetsNew monitor.nodes (live_stamps monitor.nodes (steps_looked_up monitor.kept e))

-- the event gets a node of its own: it begins an outermost block, or is outside blocks and the merge rule gives a new node
abbrev pub NeedsNode : Watched → List Event → Event → Type 0
NeedsNode monitor trace e = BeginsOutermost trace e ⊎ (ComesOutside trace e × GetsNewNode monitor e)

-- a fact about each trace, within any bounds, that the monitor stands for and the event may follow
abbrev pub ForNext : Watched → Event → (Bounds → List Event → Type 0) → Type 0
ForNext monitor e Fact =
    (bounds : Bounds) (trace : List Event) → IsMonitorOf bounds monitor trace → MayFollow bounds trace e → Fact bounds trace

-- what the monitor is promised of an event: it comes next in a trace whose monitor this is, there is room for what it
-- records, and a slot is free if it needs one
pub record IsNext (monitor : Watched) (position : ℕ) (e : Event) : Type 0 where
  pub bounds : Bounds
  pub trace : List Event
  pub stands : IsMonitorOf bounds monitor trace
  pub at_end : position ≡ length trace
  pub within : position < MAX_EVENTS
  pub follows : MayFollow bounds trace e
  pub room : HasRoomFor monitor.kept e
  pub slot : NeedsNode monitor trace e → used_in monitor.nodes.slots < limit_of monitor.nodes.slots

-- either the event closes no cycle, and the monitor is that of the trace with it; or it closes one, on which is its
-- transaction, and the monitor is that of the same trace, with the nodes as they were
abbrev pub IsSeen : Bounds → Watched → List Event → Event → Seen → Watched → Type 0
IsSeen bounds old trace e Quiet new = (¬ HasCycle (trace ++ e ∷ [])) × IsMonitorOf bounds new (trace ++ e ∷ [])
IsSeen bounds old trace e (Closes transaction) new =
    HasCycle (trace ++ e ∷ []) × (transaction ≡ owner (trace ++ e ∷ []) (length trace)) × IsMonitorOf bounds new trace × (new.nodes ≡ old.nodes)
