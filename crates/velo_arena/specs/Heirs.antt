-- Nodes that give way to others: for each slot its heir, if it has one.
use Rattle.std.specs.Prelude.{ℕ, ◌==◌, List, Option, Some, None, slice_index_or, if◌then◌else◌}
use Rattle.velo_arena.specs.declared.step.Step.{Step}
use Rattle.velo_arena.specs.declared.step.Heir.{Heir}

-- the heir of the node in the slot, if it has one
abbrev pub heir_in : List (Option Heir) → ℕ → Option Heir
heir_in heirs slot = slice_index_or heirs slot None

-- the step, or that of the heir of its node
abbrev pub renamed_by : Option Heir → Step → Step
renamed_by None step = step
renamed_by (Some heir) step = if heir.of == step.stamp then heir.step else step

-- the step by its heir, where its node has one
abbrev pub renamed : List (Option Heir) → Step → Step
renamed heirs step = renamed_by (heir_in heirs step.slot) step
