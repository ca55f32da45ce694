-- The slots of the nodes that steps name. Words of private contracts.
use Rattle.std.specs.Prelude.{◌≢◌, ℕ, List, Option, Some, None, IsTrue, Contains, filter_map, if◌then◌else◌}
use Rattle.velo_arena.specs.declared.step.Step.{Step}
use Rattle.velo_arena.specs.Slots.{bears}
use Rattle.velo_graph.specs.Nodes.{Nodes, reaches}
use Rattle.velo_merge.specs.Named.{Bears}

-- the slot of the step, if the step names a node in use
abbrev pub live_slot : Nodes → Step → Option ℕ
live_slot nodes step = if bears nodes.slots step.slot step.stamp then Some step.slot else None

-- the slots of the nodes that the steps name
unfoldable pub live_slots : Nodes → List Step → List ℕ
live_slots nodes steps = filter_map (live_slot nodes) steps

-- the node in the slot reaches another one that the steps name
pub record ReachesSome (nodes : Nodes) (slot : ℕ) (steps : List Step) : Type 0 where
  pub step : Step
  pub among : Contains steps step
  pub borne : Bears nodes step.slot step.stamp
  pub other : step.slot ≢ slot
  pub reached : IsTrue (reaches nodes slot step.slot)
