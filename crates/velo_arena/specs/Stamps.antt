-- The stamps of the slots in use.
use Rattle.std.specs.Prelude.{ℕ, List, [], ◌∷◌, Option, Some, None, nat_lt, if◌then◌else◌}
use Rattle.velo_arena.specs.declared.step.Node.{Node}
use Rattle.velo_arena.specs.Slots.{Slots}

-- rising numbers with one more in its place
abbrev pub put_in_order : ℕ → List ℕ → List ℕ
put_in_order number [] = number ∷ []
put_in_order number (first ∷ rest) = if nat_lt number first then number ∷ first ∷ rest else first ∷ put_in_order number rest

abbrev pub stamps_of_nodes : List (Option Node) → List ℕ
stamps_of_nodes [] = []
stamps_of_nodes (None ∷ nodes) = stamps_of_nodes nodes
stamps_of_nodes (Some node ∷ nodes) = put_in_order node.stamp (stamps_of_nodes nodes)

-- the stamps of the slots in use, rising
abbrev pub stamps_in : Slots → List ℕ
stamps_in slots = stamps_of_nodes slots.nodes
