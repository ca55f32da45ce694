use Rattle.std.proofs.Common.{ℕ, ◌≡◌, ◌<◌, ◌∙◌, List, replicate, get_or, ap}
use Rattle.std.proofs.lemmas.List.{get_or-replicate}
use Rattle.velo_explain.specs.Pairs.{latest_below}
use Rattle.velo_explain.proofs.latest.LatestAccesses.new.Goals as goal

blank : (xs : List ℕ) (v : ℕ) → xs ≡ replicate 65536 0 → v < 65536 → get_or xs v 0 ≡ 0
blank xs v is within = ap (λ l. get_or l v 0) is ∙ get_or-replicate 65536 v 0 0 within

pub returns-clause-none : goal.returns-clause-none
unfolding latest_below
returns-clause-none c log a = record {
  accesses = λ v within. blank _ v (c.in_ok-filled.ensures.items_if_clones_equal (λ y e. e)) within;
  writes = λ v within. blank _ v (c.in_ok-filled-2.ensures.items_if_clones_equal (λ y e. e)) within;
}
