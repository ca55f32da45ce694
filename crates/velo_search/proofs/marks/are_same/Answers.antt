use Rattle.std.proofs.Common.{refl, sym, ◌∙◌}
use Rattle.std.proofs.lemmas.Bool.{and_from, and_parts, eq-eqb, eqb-true}
use Rattle.velo_heap.proofs.OnSameness.{Tells, Tells-lists, TellsOwn, same-lists}
use Rattle.velo_search.specs.contracts.mark.MarkPartialEq.TheImpl as of_mark
use Rattle.velo_search.proofs.marks.are_same.Goals as goal

same_mark : Tells (of_mark.eq-value).it
same_mark a b h =
    let parts = and_parts _ _ h in
    let reached = eqb-true a.reached.0 b.reached.0 parts.0 in
    let beyond = eqb-true a.beyond.0 b.beyond.0 parts.1 in
    λ i. record { reached = record { 0 = reached i }; beyond = record { 0 = beyond i } }

same_own : TellsOwn (of_mark.eq-value).it
same_own m = and_from _ _ (eq-eqb m.reached.0 m.reached.0 refl) (eq-eqb m.beyond.0 m.beyond.0 refl)

pub returns : goal.returns
returns c = (
  λ h. Tells-lists (of_mark.eq-value).it same_mark c.args.one.now c.args.other.now (sym c.eq.ensures ∙ h),
  λ is. c.eq.ensures ∙ same-lists (of_mark.eq-value).it same_own c.args.one.now c.args.other.now is,
)
