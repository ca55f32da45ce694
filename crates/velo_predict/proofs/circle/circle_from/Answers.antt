use Rattle.std.proofs.Common.{◌≡◌, [], ◌∷◌, ◌++◌, Some, drop, ap, subst, sym, ◌∙◌, arith}
use Rattle.std.specs.Prelude.{slice_get, Contains}
use Rattle.std.proofs.lemmas.Grind.{common_steps}
use Rattle.std.proofs.lemmas.Option.{slice_get_within}
use Rattle.velo_predict.specs.Circles.{IsInRow, IsRing}
use Rattle.velo_predict.proofs.OnCircles.{IsWalk-few, IsWalk-ring, IsWalk-start, IsWalk-step, if_ok_map}
use Rattle.velo_predict.proofs.circle.circle_from.Goals as goal

pub loop-taken-init : goal.loop-taken-init
loop-taken-init c = record {
  walk = IsWalk-start c.args.rows.now c.args.out c.new-path.result.items c.args.first (grind (arith, common_steps)) c.requires.within c.requires.left;
  count = grind (arith, common_steps);
}

pub loop-taken-preserved : goal.loop-taken-preserved
loop-taken-preserved c =
    let new = subst (λ xs. ¬ Contains xs c.loop-taken.next) c.deref.ensures.value c.in-None.ensures.none in
    let same : c.push_reserved.new.self.items ≡ c.loop-taken.path.items ++ c.loop-taken.next ∷ [] = grind (arith, common_steps) in
    record {
      walk = IsWalk-step c.args.rows.now c.args.out c.loop-taken.path.items c.push_reserved.new.self.items c.loop-taken.next c.step_from-next.result c.loop-taken.invariant.walk new c.step_from-next.ensures.waits c.step_from-next.ensures.left (c.requires.known c.loop-taken.next c.step_from-next.result c.step_from-next.ensures.waits) same;
      count = grind (arith, common_steps);
    }

pub rest_from-requires : goal.rest_from-requires
rest_from-requires c =
    let within = slice_get_within c.deref.result.now c.in-Some.start c.loop-taken.next c.in-Some.ensures.found in
    grind (arith, common_steps)

pub returns-in-Some : goal.returns-in-Some
returns-in-Some c =
    let here : slice_get c.loop-taken.path.items c.in-Some.start ≡ Some c.loop-taken.next = ap (λ xs. slice_get xs c.in-Some.start) (sym c.deref.ensures.value) ∙ c.in-Some.ensures.found in
    let ring = IsWalk-ring c.args.rows.now c.args.out c.loop-taken.path.items c.loop-taken.next c.in-Some.start c.loop-taken.invariant.walk here in
    if_ok_map c.rest_from.result _ (λ circle. IsRing (IsInRow c.args.rows.now) circle.items) (λ rest same. subst (IsRing (IsInRow c.args.rows.now)) (sym (same ∙ ap (drop c.in-Some.start) c.deref-in-Some.ensures.value)) ring) c.rest_from.ensures

pub unreachable-requires : goal.unreachable-requires
unreachable-requires c =
    let few = IsWalk-few c.args.rows.now c.args.out c.loop-taken.path.items c.loop-taken.next c.loop-taken.invariant.walk in
    omega (arith, few, c.loop-taken.invariant.count, c.loop-taken-test.false)
