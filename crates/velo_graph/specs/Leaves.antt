-- What is left of a graph whose nodes gave way to their heirs.
use Rattle.std.specs.Prelude.{◌≡◌, ℕ, ◌<◌, ◌&&◌, List, Option, None, is_some, IsTrue, if◌then◌else◌}
use Rattle.std.specs.Ordering.{nat_cmp}
use Rattle.std.specs.FinSet as set
use Rattle.std.specs.FinSet.{FinSet}
use Rattle.velo_arena.specs.declared.step.Heir.{Heir}
use Rattle.velo_arena.specs.Slots.{limit_of, node_in, is_used}
use Rattle.velo_arena.specs.Heirs.{heir_in}
use Rattle.velo_graph.specs.Nodes.{Nodes, is_ancestor}

-- exactly the nodes with an heir are gone; the others keep their ancestors without these
pub record LeavesOut (old new : Nodes) (heirs : List (Option Heir)) : Type 0 where
  pub newest : new.slots.newest ≡ old.slots.newest
  pub limit : limit_of new.slots ≡ limit_of old.slots
  pub each : (k : ℕ) → node_in new.slots k ≡ (if is_some (heir_in heirs k) then None else node_in old.slots k)
  pub ancestors : (m n : ℕ) → is_ancestor new m n ≡ (is_used new.slots m && (is_used new.slots n && is_ancestor old m n))

-- the set has exactly those slots below the end that have an heir. Private contracts cite this
pub record HaveHeirs (heirs : List (Option Heir)) (gone : FinSet nat_cmp) (end : ℕ) : Type 0 where
  pub below : (k : ℕ) → IsTrue (set.contains gone k) → k < end
  pub each : (k : ℕ) → IsTrue (set.contains gone k) → IsTrue (is_some (heir_in heirs k))
  pub all : (k : ℕ) → k < end → IsTrue (is_some (heir_in heirs k)) → IsTrue (set.contains gone k)
