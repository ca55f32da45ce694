-- Where an operation outside blocks goes, by the nodes of its live predecessors. Nodes are named by their stamps.
use Rattle.std.specs.Prelude.{◌≡◌, ◌≢◌, ℕ, ◌≤◌, List, [], Contains}
use Rattle.velo_graph.specs.Nodes.{Nodes}
use Rattle.velo_merge.specs.Named.{HasFinished, IsAncestor}

-- the node is one of the predecessors and finished, and all the others are among its ancestors
pub record TakesAll (nodes : Nodes) (predecessors : List ℕ) (n : ℕ) : Type 0 where
  pub among : Contains predecessors n
  pub is_finished : HasFinished nodes n
  pub others : (m : ℕ) → Contains predecessors m → m ≢ n → IsAncestor nodes m n

-- the operation is represented by node n: of the nodes that take all, the one with the least stamp
pub record GoesInto (nodes : Nodes) (predecessors : List ℕ) (n : ℕ) : Type 0 where
  pub takes_all : TakesAll nodes predecessors n
  pub least : (m : ℕ) → TakesAll nodes predecessors m → n ≤ m

-- without a predecessor it gets no node
abbrev pub GetsNone : List ℕ → Type 0
GetsNone predecessors = predecessors ≡ []

-- where there are predecessors and none takes all, it gets a node of its own
pub record GetsNew (nodes : Nodes) (predecessors : List ℕ) : Type 0 where
  pub some : predecessors ≢ []
  pub none_takes_all : (n : ℕ) → ¬ TakesAll nodes predecessors n
