use Rattle.std.proofs.Common.{◌≡◌}
use Rattle.velo_names.specs.Meeting.{left_of, value_of}
use Rattle.velo_names.specs.Pattern.{is_like}
use Rattle.velo_names.proofs.pattern.is_like.Given as goal

abbrev pub invariant-loop-met : goal.invariant-loop-met
invariant-loop-met l = value_of l.met ≡ is_like l.pattern l.text

abbrev pub decreases-loop-met : goal.decreases-loop-met
decreases-loop-met l = left_of l.met
