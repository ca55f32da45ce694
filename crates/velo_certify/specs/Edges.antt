-- The two events of each edge of a cycle.
use Rattle.std.specs.Prelude.{◌≡◌, ◌≢◌, ℕ, ◌+◌, ◌<◌, ◌==◌, cond, List, length, slice_index, slice_index_or, IsTrue}
use Rattle.velo_events.specs.declared.event.Event.{Event}
use Rattle.velo_events.specs.Block.{owner}
use Rattle.velo_events.specs.Graph.{conflict_at}
use Rattle.velo_certify.specs.declared.edges.EdgeEvents.{EdgeEvents}
use Rattle.velo_certify.specs.Cycle.{next_in}

-- the two events are there, in order, conflict, and are of the two transactions, which differ
pub record ShowsEdge (trace : List Event) (a b : ℕ) (edge : EdgeEvents) : Type 0 where
  pub in_order : edge.from < edge.to
  pub in_trace : edge.to < length trace
  pub in_conflict : IsTrue (conflict_at trace edge.from edge.to)
  pub of_from : owner trace edge.from ≡ a
  pub of_to : owner trace edge.to ≡ b
  pub differ : a ≢ b

-- the edge at a place of a list
abbrev pub edge_at : List EdgeEvents → ℕ → EdgeEvents
edge_at edges k = slice_index_or edges k (record { from = 0; to = 0 })

-- the first of the edges lead from the transactions of a cycle to what comes next in it
pub record ShowEdgesSoFar (trace : List Event) (cycle : List ℕ) (k : ℕ) (edges : List EdgeEvents) : Type 0 where
  pub count : length edges ≡ k
  pub each : (i : ℕ) → i < k → ShowsEdge trace (slice_index cycle i) (next_in cycle i) (edge_at edges i)

-- an edge for each transaction of the cycle, in their order: to the next one, and from the last one
-- to the first
abbrev pub ShowEdges : List Event → List ℕ → List EdgeEvents → Type 0
ShowEdges trace cycle edges = ShowEdgesSoFar trace cycle (length cycle) edges

-- the number after each position of a transaction, and 0 for the other positions
unfoldable pub own_places : List Event → ℕ → ℕ → ℕ
own_places trace a i = cond (owner trace i == a) (i + 1) 0
