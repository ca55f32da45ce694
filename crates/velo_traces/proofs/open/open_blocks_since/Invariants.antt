use Rattle.std.proofs.Common.{◌≡◌, ◌+◌, ◌≤◌, length}
use Rattle.std.specs.Prelude.{map}
use Rattle.velo_events.specs.declared.limits.TheConstants.{MAX_OPEN_BLOCKS}
use Rattle.velo_events.specs.Scan.{LeavesEnds, open_from}
use Rattle.velo_traces.specs.Blocks.{block_at}
use Rattle.velo_traces.proofs.open.open_blocks_since.Given as goal

abbrev pub invariant-loop-at : goal.invariant-loop-at
invariant-loop-at l = record {
  few_ends : l.ends + l.at ≤ length l.events;
  ends : LeavesEnds l.events l.thread.0 l.at l.ends;
  blocks : l.blocks.items ≡ map (block_at l.events) (open_from l.events l.thread.0 l.at);
  inline : l.blocks.capacity ≡ MAX_OPEN_BLOCKS;
}

abbrev pub decreases-loop-at : goal.decreases-loop-at
decreases-loop-at l = l.at
