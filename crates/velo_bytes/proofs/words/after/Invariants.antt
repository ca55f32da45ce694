use Rattle.std.proofs.Common.{◌≡◌, drop}
use Rattle.velo_bytes.specs.Parsing.{after_word}
use Rattle.velo_bytes.proofs.words.after.Given as goal

abbrev pub invariant-loop-i : goal.invariant-loop-i
invariant-loop-i l = after_word (drop l.i l.word) (drop l.i l.bytes) ≡ after_word l.word l.bytes
