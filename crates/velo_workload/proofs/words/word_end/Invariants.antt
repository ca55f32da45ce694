use Rattle.std.proofs.Common.{◌≡◌, ◌+◌, drop}
use Rattle.std.specs.List.{position_or_len}
use Rattle.velo_workload.specs.Words.{ends_word}
use Rattle.velo_workload.proofs.words.word_end.Given as goal

abbrev pub invariant-loop-i : goal.invariant-loop-i
invariant-loop-i l = position_or_len ends_word l.bytes ≡ l.i + position_or_len ends_word (drop l.i l.bytes)
