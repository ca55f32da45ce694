use Rattle.std.proofs.Common.{◌≡◌, true, subst, refl, sym, ◌∙◌}
use Rattle.std.proofs.lemmas.Bool.{and_from, and_parts, eq-eqb, eqb-true, false≢true}
use Rattle.velo_events.specs.declared.event.Kind.TheVariants.{Read, Write, Acquire, Release, AcquireShared, ReleaseShared, Begin, End, Fork, Join, Exit}
use Rattle.velo_heap.proofs.OnSameness.{Tells, TellsOwn}
use Rattle.velo_events.specs.contracts.event.KindPartialEq.TheImpl as of_kind
use Rattle.velo_search.proofs.listing.is_same_kind.Goals as goal

same_kind : Tells (of_kind.eq-value).it
same_kind (Read x v) (Read y w) h =
    let parts = and_parts _ _ h in
    let var = eqb-true x.0 y.0 parts.0 in
    let value = eqb-true v w parts.1 in
    λ i. Read (record { 0 = var i }) (value i)
same_kind (Write x v) (Write y w) h =
    let parts = and_parts _ _ h in
    let var = eqb-true x.0 y.0 parts.0 in
    let value = eqb-true v w parts.1 in
    λ i. Write (record { 0 = var i }) (value i)
same_kind (Acquire m) (Acquire n) h = let lock = eqb-true m.0 n.0 h in λ i. Acquire (record { 0 = lock i })
same_kind (Release m) (Release n) h = let lock = eqb-true m.0 n.0 h in λ i. Release (record { 0 = lock i })
same_kind (AcquireShared m) (AcquireShared n) h = let lock = eqb-true m.0 n.0 h in λ i. AcquireShared (record { 0 = lock i })
same_kind (ReleaseShared m) (ReleaseShared n) h = let lock = eqb-true m.0 n.0 h in λ i. ReleaseShared (record { 0 = lock i })
same_kind (Begin l) (Begin m) h = let label = eqb-true l.0 m.0 h in λ i. Begin (record { 0 = label i })
same_kind End End h = refl
same_kind (Fork u) (Fork v) h = let thread = eqb-true u.0 v.0 h in λ i. Fork (record { 0 = thread i })
same_kind (Join u) (Join v) h = let thread = eqb-true u.0 v.0 h in λ i. Join (record { 0 = thread i })
same_kind Exit Exit h = refl
same_kind _ _ h = absurd (false≢true h)

own_kind : TellsOwn (of_kind.eq-value).it
own_kind (Read x v) = and_from _ _ (eq-eqb x.0 x.0 refl) (eq-eqb v v refl)
own_kind (Write x v) = and_from _ _ (eq-eqb x.0 x.0 refl) (eq-eqb v v refl)
own_kind (Acquire m) = eq-eqb m.0 m.0 refl
own_kind (Release m) = eq-eqb m.0 m.0 refl
own_kind (AcquireShared m) = eq-eqb m.0 m.0 refl
own_kind (ReleaseShared m) = eq-eqb m.0 m.0 refl
own_kind (Begin l) = eq-eqb l.0 l.0 refl
own_kind End = refl
own_kind (Fork u) = eq-eqb u.0 u.0 refl
own_kind (Join u) = eq-eqb u.0 u.0 refl
own_kind Exit = refl

pub returns : goal.returns
returns c = (
  λ h. same_kind c.args.one c.args.other (sym c.eq.ensures ∙ h),
  λ is. c.eq.ensures ∙ subst (λ k. (of_kind.eq-value).it c.args.one k ≡ true) is (own_kind c.args.one),
)
