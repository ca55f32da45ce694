use Rattle.std.proofs.Common.{◌≡◌, ◌<◌, ◌++◌, ◌∷◌, [], length, sym, ap, subst, ◌∙◌, arith}
use Rattle.std.specs.Prelude.{slice_index}
use Rattle.std.proofs.lemmas.List.{get_or_default}
use Rattle.velo_certify.proofs.OnCycles.{WalksBack, WalksBack-next, IsShortestFrom-end}
use Rattle.velo_certify.proofs.OnDistances.{reached-within}
use Rattle.velo_certify.proofs.cycle.cycle_through.Goals as goal

pub loop-present-preserved : goal.loop-present-preserved
loop-present-preserved c =
    let distance = c.args.reached.now.distance.items in let next = c.args.reached.now.next.items in let present = c.loop-present.present in
    let reached = c.loop-present.invariant.there in
    let inside : present < length next = let within = reached-within distance present reached in let count = c.args.reached.now.same in omega (arith, within, count) in
    let is : c.index-present.result.now ≡ slice_index next present = c.index-present.ensures ∙ get_or_default next present c.index-present.result.now 0 inside in
    record {
      there = subst (λ a. 0 < slice_index distance a) (sym is) (c.requires.nearer.each present reached c.loop-present-test.true).0;
      walks = λ trace distances towards nearest.
          subst (WalksBack trace distance c.args.start c.args.second c.push_reserved-in-loop-present.new.self.items) (sym is)
          (subst (λ xs. WalksBack trace distance c.args.start c.args.second xs (slice_index next present))
          (sym (c.push_reserved-in-loop-present.ensures.items ∙ ap (λ xs. xs ++ present ∷ []) c.reserve-in-loop-present.ensures.items))
          (WalksBack-next trace distance c.args.start c.args.second distances next towards c.loop-present.cycle.items present c.loop-present-test.true (c.loop-present.invariant.walks trace distances towards nearest)));
    }

pub returns : goal.returns
returns c = λ trace distances towards nearest.
    IsShortestFrom-end trace c.args.reached.now.distance.items c.args.start c.args.second distances c.loop-present.cycle.items c.loop-present.present
    c.loop-present-test.false nearest (c.loop-present.invariant.walks trace distances towards nearest)
