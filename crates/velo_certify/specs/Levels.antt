-- A search backwards along the edges of the graph, level by level. Private contracts cite these
-- words.
use Rattle.std.specs.Prelude.{◌≡◌, ◌≢◌, ℕ, ◌+◌, ◌-◌, ◌<◌, ◌≤◌, ◌==◌, ◌⊎◌, cond, List, length, Option, MatchOption, slice_index, IsTrue}
use Rattle.velo_events.specs.declared.event.Event.{Event}
use Rattle.velo_events.specs.Block.{owner}
use Rattle.velo_events.specs.Graph.{conflict_at, Edge}
use Rattle.velo_certify.specs.declared.reached.Reached.{Reached}
use Rattle.velo_certify.specs.Distances.{AreTowards}

-- ---- what was reached

-- only the target is reached
pub record IsStart (count target : ℕ) (reached : Reached) : Type 0 where
  pub long : length reached.distance.items ≡ count
  pub begins : slice_index reached.distance.items target ≡ 1
  pub alone : (a : ℕ) → 0 < slice_index reached.distance.items a → a ≡ target
  pub one : reached.count ≡ 1

-- a transaction without a number gets the next one; where it led to a higher one or nowhere it
-- leads to this one
pub record ReachesOne (level a b : ℕ) (old new : Reached) : Type 0 where
  pub long : length new.distance.items ≡ length old.distance.items
  pub others : (c : ℕ) → c ≢ a → (slice_index new.distance.items c ≡ slice_index old.distance.items c) × (slice_index new.next.items c ≡ slice_index old.next.items c)
  pub fresh : slice_index old.distance.items a ≡ 0 → (slice_index new.distance.items a ≡ level + 1) × (slice_index new.next.items a ≡ b) × (new.count ≡ old.count + 1)
  pub known : 0 < slice_index old.distance.items a → (slice_index new.distance.items a ≡ slice_index old.distance.items a) × (new.count ≡ old.count)
  pub turned : 0 < slice_index old.distance.items a → (slice_index new.next.items a ≡ slice_index old.next.items a) ⊎ ((slice_index old.distance.items a ≡ level + 1) × (slice_index new.next.items a ≡ b))

-- ---- one level

-- the numbers of positions whose transactions are on the level: the lower the transaction the
-- greater
unfoldable pub level_numbers : List Event → List ℕ → ℕ → ℕ → ℕ
level_numbers trace distance level i = cond (slice_index distance (owner trace i) == level) (length trace - owner trace i) 0

-- a transaction on the level has an operation behind this position that conflicts with the one there
pub record MeetsLevel (trace : List Event) (distance : List ℕ) (level at_hand b : ℕ) : Type 0 where
  pub on_level : slice_index distance b ≡ level
  pub place : ℕ
  pub behind : at_hand < place
  pub in_conflict : IsTrue (conflict_at trace at_hand place)
  pub of_place : owner trace place ≡ b

-- the transaction of the position at hand is reached if it meets the level
pub record ReachesBy (trace : List Event) (level at_hand : ℕ) (old new : Reached) (b : ℕ) : Type 0 where
  pub meets : MeetsLevel trace old.distance.items level at_hand b
  pub reaches : ReachesOne level (owner trace at_hand) b old new

pub record ReachesNone (trace : List Event) (level at_hand : ℕ) (old new : Reached) : Type 0 where
  pub same : new ≡ old
  pub none : (b : ℕ) → ¬ MeetsLevel trace old.distance.items level at_hand b

abbrev pub ReachesFrom : List Event → ℕ → ℕ → Reached → Reached → Option ℕ → Type 0
ReachesFrom trace level at_hand old new result = MatchOption result (ReachesNone trace level at_hand old new) (ReachesBy trace level at_hand old new)

-- the positions from n on are passed: what met the level there is reached, and nothing else is new
pub record IsPassed (trace : List Event) (level n : ℕ) (old new : Reached) : Type 0 where
  pub long : length new.distance.items ≡ length old.distance.items
  pub kept : (a : ℕ) → 0 < slice_index old.distance.items a → (slice_index new.distance.items a ≡ slice_index old.distance.items a) × (slice_index new.next.items a ≡ slice_index old.next.items a)
  pub found : (a : ℕ) → slice_index old.distance.items a ≡ 0 → 0 < slice_index new.distance.items a → (slice_index new.distance.items a ≡ level + 1) × Edge trace a (slice_index new.next.items a) × (slice_index old.distance.items (slice_index new.next.items a) ≡ level)
  pub all : (i b : ℕ) → n ≤ i → MeetsLevel trace old.distance.items level i b → 0 < slice_index new.distance.items (owner trace i)
  pub grown : old.count ≤ new.count
  pub none : new.count ≤ old.count → (a : ℕ) → slice_index new.distance.items a ≡ slice_index old.distance.items a

-- what reaches the target by fewer edges than the level has its number, and nothing has a greater one
-- than the level
pub record IsSearched (trace : List Event) (target level : ℕ) (reached : Reached) : Type 0 where
  pub long : length reached.distance.items ≡ length trace
  pub begins : slice_index reached.distance.items target ≡ 1
  pub top : (a : ℕ) → slice_index reached.distance.items a ≤ level
  pub towards : AreTowards trace target reached.distance.items reached.next.items
  pub least : (a b : ℕ) → Edge trace a b → 0 < slice_index reached.distance.items b → slice_index reached.distance.items b < level → (0 < slice_index reached.distance.items a) × (slice_index reached.distance.items a ≤ slice_index reached.distance.items b + 1)
