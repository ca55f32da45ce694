-- How one more alarm is counted.
use Rattle.std.specs.Prelude.{◌+◌, ◌-◌, ◌^◌, min, List, [], ◌∷◌, ◌++◌, fold, if◌then◌else◌}
use Rattle.velo_traces.specs.declared.block.Block.{Block}
use Rattle.velo_explore.specs.declared.tally.BlamedLabel.{BlamedLabel}
use Rattle.velo_explore.specs.Runs.{has_label}
use Rattle.velo_explore.specs.Tallies.{is_listed}

-- one more for a label that a block has
abbrev pub with_alarm : List Block → BlamedLabel → BlamedLabel
with_alarm blocks b = if has_label b.label.0 blocks then record { label = b.label; alarms = min (b.alarms + 1) (2 ^ 64 - 1) } else b

-- the block's label, with one alarm, unless it is there
abbrev pub with_other : List BlamedLabel → Block → List BlamedLabel
with_other blamed block = if is_listed block.label.0 blamed then blamed else blamed ++ record { label = block.label; alarms = 1 } ∷ []

-- those of all blocks
abbrev pub with_others : List Block → List BlamedLabel → List BlamedLabel
with_others blocks blamed = fold with_other blamed blocks
