use Rattle.std.proofs.Common.{◌≡◌, length}
use Rattle.velo_names.specs.Pattern.{is_like, some_tail}
use Rattle.velo_names.proofs.pattern.meet_tail.Given as goal

abbrev pub invariant-loop-met : goal.invariant-loop-met
invariant-loop-met l = some_tail (is_like l.pattern) l.tail ≡ some_tail (is_like l.pattern) l.text

abbrev pub decreases-loop-met : goal.decreases-loop-met
decreases-loop-met l = length l.tail
