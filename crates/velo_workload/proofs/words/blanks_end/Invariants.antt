use Rattle.std.proofs.Common.{◌≡◌, ◌+◌, drop}
use Rattle.std.specs.List.{position_or_len}
use Rattle.velo_workload.specs.Words.{is_no_blank}
use Rattle.velo_workload.proofs.words.blanks_end.Given as goal

abbrev pub invariant-loop-i : goal.invariant-loop-i
invariant-loop-i l = position_or_len is_no_blank l.bytes ≡ l.i + position_or_len is_no_blank (drop l.i l.bytes)
