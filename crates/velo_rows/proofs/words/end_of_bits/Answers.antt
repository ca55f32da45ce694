use Rattle.velo_rows.proofs.OnBits.{IsEnd-here}
use Rattle.velo_rows.proofs.words.end_of_bits.Goals as goal

pub returns-else-words-end-eq0 : goal.returns-else-words-end-eq0
returns-else-words-end-eq0 c =
    let end = c.loop-end.end in
    IsEnd-here c.args.words.now end c.loop-end.invariant.within c.loop-end.invariant.below (λ _. c.if-words-end-eq0.false) (λ i. (c.type_inv.words i).fits)
