use Rattle.std.proofs.Common.{◌≡◌, length, map, take}
use Rattle.velo_ffi.specs.Answers.{blamed_of}
use Rattle.velo_ffi.proofs.verdicts.put_blocks.Given as goal

abbrev pub invariant-loop-i : goal.invariant-loop-i
invariant-loop-i l = record {
  same_length : length l.buffer ≡ length l.fn.buffer;
  text : take l.i l.buffer ≡ map blamed_of (take l.i l.fn.blocks);
}
