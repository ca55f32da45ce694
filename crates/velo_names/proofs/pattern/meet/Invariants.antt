use Rattle.std.proofs.Common.{length}
use Rattle.velo_names.proofs.OnPatterns.{Meets}
use Rattle.velo_names.proofs.pattern.meet.Given as goal

abbrev pub invariant-loop-byte : goal.invariant-loop-byte
invariant-loop-byte l = Meets l.pattern l.text l.piece l.rest

abbrev pub decreases-loop-byte : goal.decreases-loop-byte
decreases-loop-byte l = length l.piece
