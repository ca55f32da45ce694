use Rattle.std.proofs.Common.{◌≡◌, ℕ, ◌+◌, length}
use Rattle.std.specs.Prelude.{Option, Some, None, List}
use Rattle.std.specs.Borrow.{Bor}
use Rattle.velo_claims.specs.Line.{numbers_onto, words, words_behind}
use Rattle.velo_claims.proofs.line.append_numbers.Given as goal

abbrev left_in : Option (Bor (List ℕ)) → ℕ
left_in None = 0
left_in (Some rest) = length rest.now + 1

abbrev pub invariant-loop-rest : goal.invariant-loop-rest
invariant-loop-rest l = numbers_onto l.list.items (words_behind l.rest) ≡ numbers_onto l.fn.list.items (words l.fn.bytes)

abbrev pub decreases-loop-rest : goal.decreases-loop-rest
decreases-loop-rest l = left_in l.rest
