use Rattle.std.proofs.Common.{◌≡◌, ◌+◌, ◌-◌, ◌<◌, [], ◌∷◌, ◌++◌, append-nil, length, get_or, reverse, Some, refl, sym, ap, ◌∙◌, subst, arith}
use Rattle.std.specs.Prelude.{slice_get}
use Rattle.std.proofs.lemmas.Option.{slice_get-get_or}
use Rattle.velo_search.specs.declared.step.Step.{Step}
use Rattle.velo_search.specs.Steps.{IsWay}
use Rattle.velo_search.proofs.OnTrails.{way-back}
use Rattle.velo_search.proofs.trail.turns_to.Goals as goal

pub loop-from-init : goal.loop-from-init
loop-from-init c = record {
  within = c.requires.within;
  way = λ rest way. subst (λ ts. IsWay c.args.steps.now c.args.place (rest ++ reverse ts)) (sym c.new-turns.ensures.items) (subst (IsWay c.args.steps.now c.args.place) (sym (append-nil rest)) way);
}

pub loop-from-preserved : goal.loop-from-preserved
loop-from-preserved c =
    let steps = c.args.steps.now in
    let i = c.loop-from.from - 1 in
    let none : Step = record { before = 0; thread = record { 0 = 0 } } in
    let s : Step = get_or steps i none in
    let inv = c.loop-from.invariant in
    let next : c.loop-from.from ≡ i + 1 = omega (arith, c.loop-from-test.true) in
    let inside : i < length steps = omega (arith, c.loop-from-test.true, inv.within) in
    let here : slice_get steps i ≡ Some s = slice_get-get_or steps i none inside in
    record {
      within = (let before = c.requires.earlier i s here in omega (arith, before, inside));
      way = way-back steps c.args.place c.loop-from.from i s c.loop-from.turns.items _ next here inv.way (c.push_reserved.ensures.items ∙ ap (λ xs. xs ++ s.thread ∷ []) c.reserve.ensures.items);
    }

pub returns : goal.returns
returns c =
    let steps = c.args.steps.now in
    let first : c.loop-from.from ≡ 0 = omega (arith, c.loop-from-test.false) in
    subst (IsWay steps c.args.place) (sym c.reverse.ensures.items) (c.loop-from.invariant.way [] (IsWay.none steps c.loop-from.from [] first refl))
