use Rattle.std.proofs.Common.{◌≡◌, None, sym, ◌∙◌, arith}
use Rattle.std.proofs.lemmas.Bool.{both_ways}
use Rattle.std.proofs.lemmas.Grind.{common_steps}
use Rattle.velo_heap.specs.Contents.{bounds_of}
use Rattle.velo_predict.proofs.OnFollowing.{follows_where, refused_where}
use Rattle.velo_predict.proofs.judge.may_follow.Goals as goal

pub returns-then-is_none : goal.returns-then-is_none
returns-then-is_none c = λ trace stands.
    let none : c.refusal.result ≡ None = grind (arith, common_steps) in
    follows_where (bounds_of c.args.heap.now) trace c.args.event.now c.has_its_value.result stands.well_formed (sym (c.refusal.ensures trace stands) ∙ none) (c.has_its_value.ensures trace stands)

pub returns-else-is_none : goal.returns-else-is_none
returns-else-is_none c = λ trace stands.
    let some : ¬ (c.refusal.result ≡ None) = grind (arith, common_steps) in (
      λ yes. absurd (both_ways _ c.if-is_none.false yes),
      λ follows. absurd (refused_where (bounds_of c.args.heap.now) trace c.args.event.now stands.well_formed (λ none. some (c.refusal.ensures trace stands ∙ none)) follows),
    )
