use Rattle.std.proofs.Common.{◌≡◌, ◌≤◌, length, map, take}
use Rattle.std.specs.Prelude.{vec_capacity}
use Rattle.velo_watch.specs.Piece.{block_in_whole}
use Rattle.velo_watch.proofs.piece.LogPiece.moved_blocks.Given as goal

abbrev pub invariant-loop-block : goal.invariant-loop-block
invariant-loop-block l = record {
  items : l.moved.items ≡ map (block_in_whole l.self.before l.self.prologue) (take l.block-index l.blocks);
  room : length l.blocks ≤ vec_capacity l.moved;
}
