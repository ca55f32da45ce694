use Rattle.std.proofs.Common.{true, false, refl, sym, ◌∙◌}
use Rattle.std.proofs.lemmas.Bool.{and_from, and_parts, false≢true}
use Rattle.std.proofs.Math.Bool.{beq}
use Rattle.velo_heap.proofs.OnSameness.{Tells, Tells-lists, TellsOwn, same-lists}
use Rattle.velo_search.specs.contracts.hold.HoldPartialEq.TheImpl as of_hold
use Rattle.velo_search.proofs.held.are_same.Goals as goal

same_Bool : Tells beq
same_Bool true true h = refl
same_Bool false false h = refl
same_Bool true false h = absurd (false≢true h)
same_Bool false true h = absurd (false≢true h)

own_Bool : TellsOwn beq
own_Bool true = refl
own_Bool false = refl

same_hold : Tells (of_hold.eq-value).it
same_hold a b h =
    let parts = and_parts _ _ h in
    let alone = same_Bool a.alone b.alone parts.0 in
    let shared = same_Bool a.shared b.shared parts.1 in
    λ i. record { alone = alone i; shared = shared i }

same_own : TellsOwn (of_hold.eq-value).it
same_own h = and_from _ _ (own_Bool h.alone) (own_Bool h.shared)

pub returns : goal.returns
returns c = (
  λ h. Tells-lists (of_hold.eq-value).it same_hold c.args.one.now c.args.other.now (sym c.eq.ensures ∙ h),
  λ is. c.eq.ensures ∙ same-lists (of_hold.eq-value).it same_own c.args.one.now c.args.other.now is,
)
