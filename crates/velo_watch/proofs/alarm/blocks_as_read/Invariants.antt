use Rattle.std.proofs.Common.{◌≡◌, ◌≤◌, length, map, take}
use Rattle.std.specs.Prelude.{slice_index, vec_capacity}
use Rattle.velo_audit.specs.Witness.{block_as_read}
use Rattle.velo_watch.proofs.alarm.blocks_as_read.Given as goal

abbrev pub invariant-loop-block : goal.invariant-loop-block
invariant-loop-block l = record {
  items : l.moved.items ≡ map (block_as_read (slice_index l.places)) (take l.block-index l.blocks);
  room : length l.blocks ≤ vec_capacity l.moved;
}
