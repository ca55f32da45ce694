-- The evidence of an explanation.
use Rattle.std.specs.Prelude.{◌≡◌, ℕ, ◌+◌, ◌<◌, ◌≤◌, List, length, take, slice_index_or, Contains}
use Rattle.velo_events.specs.declared.event.Event.{Event}
use Rattle.velo_events.specs.Block.{open_blocks}
use Rattle.velo_certify.specs.Shortest.{IsShortestCycleAt}
use Rattle.velo_events.specs.Reordering.{IsSelfSerializable}
use Rattle.velo_traces.specs.declared.block.Block.{Block}
use Rattle.velo_certify.specs.declared.edges.EdgeEvents.{EdgeEvents}
use Rattle.velo_certify.specs.Edges.{ShowEdges, edge_at}
use Rattle.velo_certify.specs.Witness.{thread_at, IsWitness}
use Rattle.velo_explain.specs.declared.spans.Span.{Span}
use Rattle.velo_explain.specs.declared.evidence.Blame.{Blame}
use Rattle.velo_explain.specs.declared.evidence.Evidence.{Evidence}
use Rattle.velo_explain.specs.Spans.{AreSpans, span_at}

-- ---- why blocks are to blame

abbrev pub no_block : Block
no_block = record { first = 0; label = record { 0 = 0 } }

abbrev pub blame_at : List Blame → ℕ → Blame
blame_at blames i = slice_index_or blames i (record { block = no_block; witness = 0 })

-- a block of the list, with a witness
pub record IsBlame (trace : List Event) (p : ℕ) (blamed : List Block) (blame : Blame) : Type 0 where
  pub among : Contains blamed blame.block
  pub witness : IsWitness trace blame.block.first p blame.witness

-- one of them is this block
pub record HasBlame (blames : List Blame) (block : Block) : Type 0 where
  pub place : ℕ
  pub within : place < length blames
  pub here : (blame_at blames place).block ≡ block

-- of the first k blocks those that have a witness, each with one
pub record AreBlamesSoFar (trace : List Event) (p : ℕ) (blamed : List Block) (k : ℕ) (blames : List Blame) : Type 0 where
  pub few : length blames ≤ k
  pub sound : (i : ℕ) → i < length blames → IsBlame trace p blamed (blame_at blames i)
  pub complete : (j w : ℕ) → j < k → IsWitness trace (slice_index_or blamed j no_block).first p w → HasBlame blames (slice_index_or blamed j no_block)

abbrev pub AreBlames : List Event → ℕ → List Block → List Blame → Type 0
AreBlames trace p blamed blames = AreBlamesSoFar trace p blamed (length blamed) blames

-- ---- the whole

-- a shortest cycle of the events up to position p that begins with the transaction of p, its
-- transactions' spans there, the events of its edges, and of the blocks to blame those that have a
-- witness
pub record IsEvidence (trace : List Event) (p : ℕ) (blamed : List Block) (evidence : Evidence) : Type 0 where
  pub cycle : List ℕ
  pub shortest : IsShortestCycleAt trace p cycle
  pub spans : AreSpans (take (p + 1) trace) cycle evidence.spans.items
  pub edges : ShowEdges (take (p + 1) trace) cycle evidence.edges.items
  pub blames : AreBlames trace p blamed evidence.blames.items

-- Each block that is to blame by the definition (open at p in its thread, and not self-serializable
-- in the events up to p) has its witness
pub record HaveReasons (trace : List Event) (p : ℕ) (blamed : List Block) (evidence : Evidence) : Type 0 where
  pub each : (j : ℕ) → j < length blamed → Contains (open_blocks (take (p + 1) trace) (thread_at trace p)) (slice_index_or blamed j no_block).first → ¬ IsSelfSerializable (take (p + 1) trace) (slice_index_or blamed j no_block).first → HasBlame evidence.blames.items (slice_index_or blamed j no_block)

-- ---- positions that are there

pub record AreSpansWithin (n : ℕ) (spans : List Span) : Type 0 where
  pub first : (i : ℕ) → i < length spans → (span_at spans i).first < n
  pub last : (i : ℕ) → i < length spans → (span_at spans i).last < n

pub record AreEdgesWithin (n : ℕ) (edges : List EdgeEvents) : Type 0 where
  pub from : (i : ℕ) → i < length edges → (edge_at edges i).from < n
  pub to : (i : ℕ) → i < length edges → (edge_at edges i).to < n

pub record AreBlamesWithin (n : ℕ) (blames : List Blame) : Type 0 where
  pub first : (i : ℕ) → i < length blames → (blame_at blames i).block.first < n
  pub witness : (i : ℕ) → i < length blames → (blame_at blames i).witness < n

pub record IsWithin (n p : ℕ) (evidence : Evidence) : Type 0 where
  pub position : p < n
  pub spans : AreSpansWithin n evidence.spans.items
  pub edges : AreEdgesWithin n evidence.edges.items
  pub blames : AreBlamesWithin n evidence.blames.items
