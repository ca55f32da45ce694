-- The block that begins at a position, if it is open at the end of the trace.
use Rattle.std.specs.Prelude.{ℕ, List, Option, Some, None, length, if◌then◌else◌}
use Rattle.velo_events.specs.declared.event.Event.{Event}
use Rattle.velo_events.specs.Block.{is_open_at}
use Rattle.velo_traces.specs.Blocks.{block_at}
use Rattle.velo_traces.specs.declared.block.Block.{Block}

-- the block that thread t begins at the position, if it is open at the end
abbrev pub open_block_at : List Event → ℕ → ℕ → Option Block
open_block_at trace t b = if is_open_at trace t b (length trace) then Some (block_at trace b) else None
