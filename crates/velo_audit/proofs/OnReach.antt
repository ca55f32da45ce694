-- How far back a thread is known to events of others that interrupt it, one event after another.
use Rattle.std.proofs.Common.{◌≡◌, ◌≢◌, ℕ, ◌+◌, ◌<◌, max, cond, not, List, Some, refl, sym, ap, ◌∙◌, subst, arith, ⊎_elim, inl, inr}
use Rattle.std.specs.Prelude.{◌⊎◌, ◌↔◌, ◌==◌, slice_get, IsTrue, IsFalse}
use Rattle.std.proofs.lemmas.Bool.{cases_lt, cases_Bool, and_parts, and_from, not-true, not_from_false, eq-eqb, eqb-true, ne_eqb, both_ways}
use Rattle.std.proofs.lemmas.Option.{same_Some}
use Rattle.velo_events.specs.declared.event.Event.{Event}
use Rattle.velo_events.specs.Event.{thread_of, is_by}
use Rattle.velo_events.specs.Block.{passes_at}
use Rattle.velo_events.specs.Conflict.{conflict}
use Rattle.velo_events.proofs.OnScans.{passes_at-event, passes_at-is}
use Rattle.velo_traces.specs.Numbers.{Rows, IsGreatest, IsLookedUp, AreBlank, IsRecorded}
use Rattle.velo_traces.proofs.OnRows.{HasNumbers-none}
use Rattle.velo_blame.specs.Known.{IsOwnBefore, IsKnown, IsEndOf, is_by_others}
use Rattle.velo_blame.proofs.OnKnown.{IsEndOf-same, IsEndOf-none, IsEndOf-either, IsOwnBefore-own, IsOwnBefore-greatest, KnowsUpTo-next, KnowsUpTo-start}
use Rattle.velo_audit.specs.Reach.{IsBroken, OthersKnowUpTo, ReachesUpTo}

-- ---- one number more

with_number : (ℕ → ℕ) → ℕ → ℕ → ℕ → ℕ
with_number numbers n m i = cond (i == n) m (numbers i)

with_number-same : (numbers : ℕ → ℕ) (n m : ℕ) → with_number numbers n m n ≡ m
unfolding with_number
with_number-same numbers n m = ap (λ b. cond {A = ℕ} b m (numbers n)) (eq-eqb n n refl)

with_number-other : (numbers : ℕ → ℕ) (n m i : ℕ) → i ≢ n → with_number numbers n m i ≡ numbers i
unfolding with_number
with_number-other numbers n m i other = ap (λ b. cond {A = ℕ} b m (numbers i)) (ne_eqb i n other)

-- ---- the start

pub ReachesUpTo-start : (log : List Event) (t : ℕ) (known others : Rows) → AreBlank known → AreBlank others → ReachesUpTo log t 0 known others 0
ReachesUpTo-start log t known others blank blank_others = record {
  knows = KnowsUpTo-start log t known blank;
  others_know = record {
    numbers = λ i. 0;
    each = λ i l other. absurd (omega (arith, l));
    own_none = λ i own. refl;
    none_later = λ i g. refl;
    has = HasNumbers-none log (λ i. 0) others (λ i l. refl) blank_others;
  };
  is_bound = IsEndOf-none (IsBroken log t 0) (λ k w. omega (arith, w.before));
}

-- ---- one event more

module _ (log : List Event) (t n : ℕ) (e : Event) (here : slice_get log n ≡ Some e) where
  -- what others know stays where the event is one of the thread
  others-stay : (table : Rows) → IsTrue (is_by t e) → OthersKnowUpTo log t n table → OthersKnowUpTo log t (n + 1) table
  others-stay table own w = record {
    numbers = w.numbers;
    each = λ i l other. ⊎_elim (λ under. w.each i under other)
        (λ above. absurd (both_ways (passes_at log (is_by t) i) other (subst (λ k. IsTrue (passes_at log (is_by t) k)) (let same : n ≡ i = omega (arith, above, l) in same) (passes_at-is log (is_by t) n e here ∙ own))))
        (cases_lt i n);
    own_none = w.own_none;
    none_later = λ i g. w.none_later i (omega (arith, g));
    has = w.has;
  }

  others-next : (old new : Rows) (m : ℕ) → IsFalse (is_by t e) → IsRecorded old e m new → IsEndOf (IsOwnBefore log t n) m → OthersKnowUpTo log t n old → OthersKnowUpTo log t (n + 1) new
  others-next old new m other recorded end w = record {
    numbers = with_number w.numbers n m;
    each = λ i l by_other. ⊎_elim
        (λ under. subst (IsEndOf (IsOwnBefore log t i)) (sym (with_number-other w.numbers n m i (λ same. omega (arith, under, same)))) (w.each i under by_other))
        (λ above.
        let same : n ≡ i = omega (arith, above, l) in
        subst (λ j. IsEndOf (IsOwnBefore log t j) (with_number w.numbers n m j)) same (subst (IsEndOf (IsOwnBefore log t n)) (sym (with_number-same w.numbers n m)) end))
        (cases_lt i n);
    own_none = λ i own. with_number-other w.numbers n m i (λ same. both_ways (is_by t e) other (sym (passes_at-is log (is_by t) n e here) ∙ subst (λ k. IsTrue (passes_at log (is_by t) k)) same own)) ∙ w.own_none i own;
    none_later = λ i g. with_number-other w.numbers n m i (λ same. omega (arith, g, same)) ∙ w.none_later i (omega (arith, g));
    has = recorded.each log n w.numbers (with_number w.numbers n m) here
        (record { before = w.none_later n (omega arith); after = with_number-same w.numbers n m; others = with_number-other w.numbers n m }) w.has;
  }

  -- what conflicts with an event of the thread and is of another knows this position of it
  bound-here : (table : Rows) (m : ℕ) → IsTrue (is_by t e) → (w : OthersKnowUpTo log t n table) → IsGreatest log w.numbers (λ f. conflict f e) m → IsEndOf (IsKnown log t n (is_by_others t (λ f. conflict f e))) m
  bound-here table m own w greatest = record {
    covers = λ k known.
        let f = passes_at-event log (is_by_others t (λ f. conflict f e)) known.place known.passes in
        let parts = and_parts (conflict f.0 e) (not (is_by t f.0)) f.2 in
        let other : IsFalse (passes_at log (is_by t) known.place) = passes_at-is log (is_by t) known.place f.0 f.1 ∙ not-true _ parts.1 in
        let least = (w.each known.place known.below other).covers k known.before in
        let most = greatest.covers known.place (passes_at-is log (λ g. conflict g e) known.place f.0 f.1 ∙ parts.0) in
        omega (arith, least, most);
    reached = λ k is.
        let by = greatest.reached (omega (arith, is)) in
        let early : by.0 < n = ⊎_elim (λ l. l) (λ g. let none = w.none_later by.0 g in absurd (omega (arith, none, by.2, is))) (cases_lt by.0 n) in
        let f = passes_at-event log (λ g. conflict g e) by.0 by.1 in
        let other : IsFalse (passes_at log (is_by t) by.0) = ⊎_elim (λ yes_own. let none = w.own_none by.0 yes_own in absurd (omega (arith, none, by.2, is))) (λ no_own. no_own) (cases_Bool (passes_at log (is_by t) by.0)) in
        record {
          place = by.0;
          below = early;
          passes = passes_at-is log (is_by_others t (λ f. conflict f e)) by.0 f.0 f.1 ∙ and_from _ _ f.2 (not_from_false _ (sym (passes_at-is log (is_by t) by.0 f.0 f.1) ∙ other));
          before = (w.each by.0 early other).reached k (by.2 ∙ is);
        };
  }

  broken-later : (k : ℕ) → IsBroken log t n k → IsBroken log t (n + 1) k
  broken-later k w = record { place = w.place; event = w.event; before = omega (arith, w.before); here = w.here; own = w.own; known = w.known }

  -- an event of the thread raises the bound
  bound-raised : (bound m : ℕ) → IsTrue (is_by t e) → IsEndOf (IsKnown log t n (is_by_others t (λ f. conflict f e))) m → IsEndOf (IsBroken log t n) bound → IsEndOf (IsBroken log t (n + 1)) (max bound m)
  bound-raised bound m own end before = IsEndOf-same _ _ _ same (IsEndOf-either _ _ _ _ before end)
    where
      same : (k : ℕ) → (IsBroken log t n k ⊎ IsKnown log t n (is_by_others t (λ f. conflict f e)) k) ↔ IsBroken log t (n + 1) k
      same k = (
        (λ h. ⊎_elim (broken-later k) (λ known. record { place = n; event = e; before = omega arith; here = here; own = eqb-true (thread_of e) t own; known = known }) h),
        (λ w. ⊎_elim (λ l. inl (record { place = w.place; event = w.event; before = l; here = w.here; own = w.own; known = w.known }))
            (λ g.
            let at : w.place ≡ n = omega (arith, g, w.before) in
            let it : w.event ≡ e = same_Some w.event e (sym w.here ∙ (ap (slice_get log) at ∙ here)) in
            inr (subst (λ j. IsKnown log t j (is_by_others t (λ f. conflict f e)) k) at (subst (λ g. IsKnown log t w.place (is_by_others t (λ f. conflict f g)) k) it w.known)))
            (cases_lt w.place n)),
      )

  -- another one does not
  bound-stays : (bound : ℕ) → IsFalse (is_by t e) → IsEndOf (IsBroken log t n) bound → IsEndOf (IsBroken log t (n + 1)) bound
  bound-stays bound other before = IsEndOf-same _ _ _ same before
    where
      same : (k : ℕ) → IsBroken log t n k ↔ IsBroken log t (n + 1) k
      same k = (
        broken-later k,
        (λ w. ⊎_elim (λ l. record { place = w.place; event = w.event; before = l; here = w.here; own = w.own; known = w.known })
            (λ g.
            let at : w.place ≡ n = omega (arith, g, w.before) in
            let it : w.event ≡ e = same_Some w.event e (sym w.here ∙ (ap (slice_get log) at ∙ here)) in
            absurd (both_ways (is_by t e) other (eq-eqb (thread_of e) t (sym (ap thread_of it) ∙ w.own))))
            (cases_lt w.place n)),
      )

  pub ReachesUpTo-own : (old new others : Rows) (bound m : ℕ) → IsTrue (is_by t e) → IsRecorded old e (n + 1) new → IsLookedUp others e m → ReachesUpTo log t n old others bound → ReachesUpTo log t (n + 1) new others (max bound m)
  ReachesUpTo-own old new others bound m own recorded greatest w = record {
    knows = KnowsUpTo-next log t n e here old new (n + 1) recorded (IsOwnBefore-own log t n e here own) w.knows;
    others_know = others-stay others own w.others_know;
    is_bound = bound-raised bound m own (bound-here others m own w.others_know (greatest.each log w.others_know.numbers w.others_know.has)) w.is_bound;
  }

  pub ReachesUpTo-other : (old new others more : Rows) (bound m : ℕ) → IsFalse (is_by t e) → IsRecorded old e m new → IsRecorded others e m more → IsLookedUp old e m → ReachesUpTo log t n old others bound → ReachesUpTo log t (n + 1) new more bound
  ReachesUpTo-other old new others more bound m other recorded also greatest w =
      let end : IsEndOf (IsOwnBefore log t n) m = IsOwnBefore-greatest log t n e here old w.knows m other (greatest.each log w.knows.numbers w.knows.has) in
      record {
        knows = KnowsUpTo-next log t n e here old new m recorded end w.knows;
        others_know = others-next others more m other also end w.others_know;
        is_bound = bound-stays bound other w.is_bound;
      }
