use Rattle.std.proofs.Common.{◌≡◌, ◌≤◌, drop}
use Rattle.velo_bytes.specs.Parsing.{digits_on}
use Rattle.velo_bytes.proofs.numbers.near_digits.Given as goal

abbrev pub invariant-loop-i : goal.invariant-loop-i
invariant-loop-i l =
    record {
      low : l.value ≤ l.most;
      rest : digits_on l.most l.value (drop l.i l.bytes) ≡ digits_on l.most l.start l.bytes;
    }
