use Rattle.velo_rows.proofs.OnBits.{WrittenBefore}
use Rattle.velo_rows.proofs.words.clear_bits.Given as goal

abbrev pub invariant-loop-i : goal.invariant-loop-i
invariant-loop-i l = WrittenBefore (λ _ _. 0) l.fn.words l.fn.words l.words l.i
