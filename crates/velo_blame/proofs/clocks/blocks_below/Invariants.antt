use Rattle.std.proofs.Common.{◌≡◌, ◌≤◌, length, take, filter}
use Rattle.std.specs.Prelude.{nat_lt}
use Rattle.velo_traces.specs.declared.block.Block.{Block}
use Rattle.velo_events.specs.declared.limits.TheConstants.{MAX_OPEN_BLOCKS}
use Rattle.velo_blame.proofs.clocks.blocks_below.Given as goal

abbrev pub invariant-loop-block : goal.invariant-loop-block
invariant-loop-block l = record {
  items : l.below.items ≡ filter (λ (block : Block). nat_lt block.first l.bound) (take l.block-index l.blocks);
  few : length l.below.items ≤ l.block-index;
  capacity : l.below.capacity ≡ MAX_OPEN_BLOCKS;
}
