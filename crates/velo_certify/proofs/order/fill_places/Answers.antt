use Rattle.std.proofs.Common.{◌≡◌, ◌<◌, length, sym, subst, ◌∙◌, arith}
use Rattle.std.specs.Prelude.{slice_index}
use Rattle.std.proofs.lemmas.List.{get_or_default}
use Rattle.velo_certify.specs.Order.{HasEachOnce}
use Rattle.velo_certify.proofs.OnOrders.{fails-beyond, fails-twice}
use Rattle.velo_certify.proofs.order.fill_places.Goals as goal

pub returns-then-position-len-clause-no : goal.returns-then-position-len-clause-no
returns-then-position-len-clause-no c = λ _ once.
    fails-beyond c.args.order.now c.loop-k.k c.loop-k.places.items c.loop-k-test.true c.loop-k.invariant.filled
    (omega (arith, c.if-position-len.true, c.len.ensures, c.loop-k.places.ok)) (subst (λ n. HasEachOnce n c.args.order.now) (sym c.loop-k.invariant.count) once)

pub returns-then-index-gt0-clause-no : goal.returns-then-index-gt0-clause-no
returns-then-index-gt0-clause-no c = λ _ once.
    let places = c.loop-k.places.items in
    let at_hand = slice_index c.args.order.now c.loop-k.k in
    let inside : at_hand < length places = omega (arith, c.if-position-len.false, c.len.ensures, c.loop-k.places.ok) in
    let is : c.index.result.now ≡ slice_index places at_hand = c.index.ensures ∙ get_or_default places at_hand c.index.result.now 0 inside in
    fails-twice c.args.order.now c.loop-k.k places c.loop-k-test.true c.loop-k.invariant.filled
    inside (omega (arith, c.if-index-gt0.true, is)) (subst (λ n. HasEachOnce n c.args.order.now) (sym c.loop-k.invariant.count) once)
