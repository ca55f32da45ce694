-- What callers see of an arena: the nodes in its slots.
use Rattle.std.specs.Prelude.{◌≡◌, ℕ, ◌<◌, ◌≤◌, Bool, false, List, length, slice_index_or, slice_set, count_by, Option, Some, None, IsSomeAnd, is_some, ◌==◌}
use Rattle.velo_arena.specs.declared.step.Node.{Node}

-- the node of each slot, and the latest stamp given
pub record Slots : Type 0 where
  pub nodes : List (Option Node)
  pub newest : Option ℕ

-- how many slots there are
abbrev pub limit_of : Slots → ℕ
limit_of slots = length slots.nodes

-- the node of a slot, if the slot is there and in use
abbrev pub node_in : Slots → ℕ → Option Node
node_in slots slot = slice_index_or slots.nodes slot None

abbrev pub is_used : Slots → ℕ → Bool
is_used slots slot = is_some (node_in slots slot)

-- how many slots are in use
abbrev pub used_in : Slots → ℕ
used_in slots = count_by is_some slots.nodes

abbrev pub has_stamp : Option Node → ℕ → Bool
has_stamp None stamp = false
has_stamp (Some node) stamp = node.stamp == stamp

-- whether the slot is in use and bears the stamp
abbrev pub bears : Slots → ℕ → ℕ → Bool
bears slots slot stamp = has_stamp (node_in slots slot) stamp

abbrev pub stamp_of_node : Option Node → ℕ
stamp_of_node None = 0
stamp_of_node (Some node) = node.stamp

-- the stamp of a slot in use
abbrev pub stamp_in : Slots → ℕ → ℕ
stamp_in slots slot = stamp_of_node (node_in slots slot)

abbrev pub has_finished : Option Node → Bool
has_finished None = false
has_finished (Some node) = node.finished

-- whether the slot is in use and its node has finished
abbrev pub is_finished_in : Slots → ℕ → Bool
is_finished_in slots slot = has_finished (node_in slots slot)

-- the slots with another node, or none, in one of them
abbrev pub with_node : Slots → ℕ → Option Node → Slots
with_node slots slot node = record { nodes = slice_set slots.nodes slot node; newest = slots.newest }

-- a free slot gets a node with the stamp, not finished; all else stays
pub record Opens (old new : Slots) (slot stamp : ℕ) : Type 0 where
  pub in_range : slot < limit_of old
  pub was_free : node_in old slot ≡ None
  pub nodes : new.nodes ≡ slice_set old.nodes slot (Some (record { stamp = stamp; finished = false }))
  pub newest : new.newest ≡ Some stamp

-- no two slots in use bear one stamp, and none a later one than the newest
pub record HasOwnStamps (slots : Slots) : Type 0 where
  pub apart : (j k : ℕ) (m n : Node) → node_in slots j ≡ Some m → node_in slots k ≡ Some n → m.stamp ≡ n.stamp → j ≡ k
  pub up_to_newest : (k : ℕ) (n : Node) → node_in slots k ≡ Some n → IsSomeAnd slots.newest (λ stamp. n.stamp ≤ stamp)
