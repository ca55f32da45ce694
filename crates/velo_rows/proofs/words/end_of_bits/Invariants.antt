use Rattle.std.proofs.Common.{◌≤◌, ◌*◌, length}
use Rattle.velo_rows.specs.Bits.{AreBelow}
use Rattle.velo_rows.proofs.words.end_of_bits.Given as goal

abbrev pub invariant-loop-end : goal.invariant-loop-end
invariant-loop-end l = record { within : l.end ≤ length l.words; below : AreBelow (64 * l.end) l.words }

abbrev pub decreases-loop-end : goal.decreases-loop-end
decreases-loop-end l = l.end
