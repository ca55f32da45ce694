-- Distances to a transaction, backwards along the edges of the graph. Private contracts cite these
-- words.
use Rattle.std.specs.Prelude.{◌≡◌, ◌≢◌, ℕ, ◌+◌, ◌<◌, ◌≤◌, List, length, slice_index}
use Rattle.velo_events.specs.declared.event.Event.{Event}
use Rattle.velo_events.specs.Graph.{Edge, Path}

-- where a way leads out of the target and back to it, an edge leads from it to one whose number is
-- no greater than the way back is long
pub record AreShortest (trace : List Event) (target : ℕ) (distance : List ℕ) : Type 0 where
  pub count : length distance ≡ length trace
  pub begins : slice_index distance target ≡ 1
  pub least : (b : ℕ) (between : List ℕ) → Edge trace target b → Path (Edge trace) b between target → (c : ℕ) × Edge trace target c × (0 < slice_index distance c) × (slice_index distance c ≤ length between + 2)

-- what each but the target leads to is nearer by one
pub record AreNearer (target : ℕ) (distance next : List ℕ) : Type 0 where
  pub each : (a : ℕ) → 0 < slice_index distance a → a ≢ target → (0 < slice_index distance (slice_index next a)) × (slice_index distance (slice_index next a) + 1 ≡ slice_index distance a)

-- and an edge leads to it
pub record AreTowards (trace : List Event) (target : ℕ) (distance next : List ℕ) : Type 0 where
  pub edges : (a : ℕ) → 0 < slice_index distance a → a ≢ target → Edge trace a (slice_index next a)
  pub nearer : AreNearer target distance next
