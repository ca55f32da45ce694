-- The edges out of one transaction, and the nearest one that they lead to. Private contracts cite
-- these words.
use Rattle.std.specs.Prelude.{◌≡◌, ◌≢◌, ℕ, ◌<◌, ◌≤◌, ◌==◌, ◌⊎◌, cond, List, slice_index, Option, Some, IfSome, IsTrue}
use Rattle.velo_events.specs.declared.event.Event.{Event}
use Rattle.velo_events.specs.Block.{owner}
use Rattle.velo_events.specs.Graph.{conflict_at, Edge}

-- 1 for the positions of the transaction
unfoldable pub own_positions : List Event → ℕ → ℕ → ℕ
own_positions trace a i = cond (owner trace i == a) 1 0

-- an operation of the transaction conflicts with the later one at a position, which is of another
-- transaction
pub record LeadsInto (trace : List Event) (a n : ℕ) : Type 0 where
  pub place : ℕ
  pub before : place < n
  pub in_conflict : IsTrue (conflict_at trace place n)
  pub of_place : owner trace place ≡ a
  pub differ : a ≢ owner trace n

-- of what the transaction has an edge to and has a distance, this is the nearest
pub record IsNearest (trace : List Event) (distance : List ℕ) (a b : ℕ) : Type 0 where
  pub edge : Edge trace a b
  pub reached : 0 < slice_index distance b
  pub nearest : (c : ℕ) → Edge trace a c → 0 < slice_index distance c → slice_index distance b ≤ slice_index distance c

-- the same of the edges that lead into positions below n
pub record IsNearestBelow (trace : List Event) (distance : List ℕ) (a n b : ℕ) : Type 0 where
  pub edge : Edge trace a b
  pub reached : 0 < slice_index distance b
  pub nearest : (i : ℕ) → i < n → LeadsInto trace a i → 0 < slice_index distance (owner trace i) → slice_index distance b ≤ slice_index distance (owner trace i)

pub record IsNoneBelow (trace : List Event) (distance : List ℕ) (a n : ℕ) : Type 0 where
  pub none : (i : ℕ) → i < n → LeadsInto trace a i → slice_index distance (owner trace i) ≡ 0

-- a transaction without a distance changes nothing; otherwise the result is as near as both
pub record IsWithNext (distance : List ℕ) (nearest : Option ℕ) (next : ℕ) (result : Option ℕ) : Type 0 where
  pub without : slice_index distance next ≡ 0 → result ≡ nearest
  pub with_distance : 0 < slice_index distance next → (r : ℕ) × (result ≡ Some r) × (slice_index distance r ≤ slice_index distance next) × IfSome nearest (λ b. slice_index distance r ≤ slice_index distance b) × ((r ≡ next) ⊎ (nearest ≡ Some r))
