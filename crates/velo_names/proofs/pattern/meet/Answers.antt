use Rattle.std.proofs.Common.{◌≡◌, ◌∷◌, rules}
use Rattle.velo_names.proofs.OnPatterns.{goes_to_star, meets_next}
use Rattle.velo_names.proofs.pattern.meet.Goals as goal

pub returns-then-byte-eq-STAR : goal.returns-then-byte-eq-STAR
returns-then-byte-eq-STAR c =
    let piece : c.loop-byte.piece.now ≡ c.in-Some.byte.now ∷ c.in-Some.more.now = search rules in
    goes_to_star c.args.pattern.now c.args.text.now c.in-Some.byte.now c.in-Some.more c.loop-byte.rest c.loop-byte.piece.now piece c.if-byte-eq-STAR.true c.loop-byte.invariant

pub loop-byte-preserved : goal.loop-byte-preserved
loop-byte-preserved c =
    let piece : c.loop-byte.piece.now ≡ c.in-Some.byte.now ∷ c.in-Some.more.now = search rules in
    let rest : c.loop-byte.rest.now ≡ c.in-Some-split_first.first.now ∷ c.in-Some-split_first.others.now = search rules in
    meets_next c.args.pattern.now c.args.text.now c.in-Some.byte.now c.in-Some.more.now c.in-Some-split_first.first.now c.in-Some-split_first.others.now
    c.loop-byte.piece.now c.loop-byte.rest.now piece rest c.if-byte-eq-STAR.false c.if-first-byte.true c.loop-byte.invariant
