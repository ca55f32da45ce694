use Rattle.std.proofs.Common.{◌≡◌, take}
use Rattle.velo_tables.specs.ClockRows.{maxima}
use Rattle.velo_tables.proofs.rows.raise.Given as goal

abbrev pub invariant-loop-i : goal.invariant-loop-i
invariant-loop-i l = l.numbers ≡ maxima l.fn.numbers (take l.i l.others)
