use Rattle.std.proofs.Common.{ap, refl, sym, ◌∙◌}
use Rattle.std.proofs.lemmas.Bool.{and_from, and_parts, eq-eqb, eqb-true}
use Rattle.std.specs.Option.{option_eq}
use Rattle.velo_events.specs.contracts.event.ThreadIdPartialEq.TheImpl as of_thread
use Rattle.velo_heap.specs.contracts.lock.LockPartialEq.TheImpl as of_lock
use Rattle.velo_heap.proofs.OnSameness.{Tells, Tells-lists, Tells-options, TellsOwn, own-options, same-lists}
use Rattle.velo_heap.proofs.heap.are_held_alike.Goals as goal

same_thread : Tells (of_thread.eq-value).it
same_thread a b h = ap (λ n. record { 0 = n }) (eqb-true a.0 b.0 h)

same_lock : Tells (of_lock.eq-value).it
same_lock a b h =
    let parts = and_parts _ _ h in
    let holder = Tells-options (of_thread.eq-value).it same_thread a.holder b.holder parts.0 in
    let sharers = ap (λ bits. record { 0 = bits }) (eqb-true a.sharers.0 b.sharers.0 parts.1) in
    λ i. record { holder = holder i; sharers = sharers i }

own_thread : TellsOwn (of_thread.eq-value).it
own_thread a = eq-eqb a.0 a.0 refl

own_lock : TellsOwn (of_lock.eq-value).it
own_lock a = and_from _ _ (own-options (of_thread.eq-value).it own_thread a.holder) (eq-eqb a.sharers.0 a.sharers.0 refl)

pub returns : goal.returns
returns c = (
  λ h. Tells-lists (of_lock.eq-value).it same_lock c.args.one.now c.args.other.now (sym c.eq.ensures ∙ h),
  λ same. c.eq.ensures ∙ same-lists (of_lock.eq-value).it own_lock c.args.one.now c.args.other.now same,
)
