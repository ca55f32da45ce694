-- What the events of a trace know of one thread: the bound of those so far, and one event more.
use Rattle.std.proofs.Common.{◌≡◌, ◌≢◌, ℕ, ◌+◌, ◌<◌, ◌≤◌, max, Bool, cond, List, Some, refl, sym, ap, ◌∙◌, subst, arith, ⊎_elim, inl, inr}
use Rattle.std.specs.Prelude.{◌⊎◌, ◌↔◌, ◌==◌, slice_get, IsTrue, IsFalse}
use Rattle.std.proofs.lemmas.Bool.{cases_lt, eq-eqb, ne_eqb, both_ways}
use Rattle.velo_events.specs.declared.event.Event.{Event}
use Rattle.velo_events.specs.Event.{is_by}
use Rattle.velo_events.specs.Block.{passes_at}
use Rattle.velo_events.specs.Graph.{conflict_at}
use Rattle.velo_events.specs.Conflict.{conflict}
use Rattle.velo_events.proofs.OnScans.{passes_at-event, passes_at-is, event_at}
use Rattle.velo_events.proofs.OnReorderings.{conflict_at-within}
use Rattle.velo_events.proofs.OnHappening.{IsFrom-last, IsFrom-next, IsFrom-le}
use Rattle.velo_traces.specs.Numbers.{Rows, IsGreatest, AreBlank, IsRecorded}
use Rattle.velo_traces.proofs.OnRows.{HasNumbers-none}
use Rattle.velo_blame.specs.Known.{IsOwnBefore, IsKnown, IsEndOf, KnowsUpTo}

-- ---- the greatest number plus one

pub IsEndOf-same : (P Q : ℕ → Type 0) (m : ℕ) → ((k : ℕ) → P k ↔ Q k) → IsEndOf P m → IsEndOf Q m
IsEndOf-same P Q m same w = record { covers = λ k q. w.covers k ((same k).1 q); reached = λ k e. (same k).0 (w.reached k e) }

pub IsEndOf-none : (P : ℕ → Type 0) → ((k : ℕ) → P k → ⊥) → IsEndOf P 0
IsEndOf-none P none = record { covers = λ k p. absurd (none k p); reached = λ k e. absurd (omega (arith, e)) }

pub IsEndOf-either : (P Q : ℕ → Type 0) (a b : ℕ) → IsEndOf P a → IsEndOf Q b → IsEndOf (λ k. P k ⊎ Q k) (max a b)
IsEndOf-either P Q a b v w = record {
  covers = λ k h. ⊎_elim (λ p. let l = v.covers k p in omega (arith, l)) (λ q. let l = w.covers k q in omega (arith, l)) h;
  reached = λ k e. ⊎_elim (λ l. inr (w.reached k (omega (arith, l, e)))) (λ g. inl (v.reached k (omega (arith, g, e)))) (cases_lt a b);
}

-- ---- one number more

with_number : (ℕ → ℕ) → ℕ → ℕ → ℕ → ℕ
with_number numbers n m i = cond (i == n) m (numbers i)

with_number-same : (numbers : ℕ → ℕ) (n m : ℕ) → with_number numbers n m n ≡ m
unfolding with_number
with_number-same numbers n m = ap (λ b. cond {A = ℕ} b m (numbers n)) (eq-eqb n n refl)

with_number-other : (numbers : ℕ → ℕ) (n m i : ℕ) → i ≢ n → with_number numbers n m i ≡ numbers i
unfolding with_number
with_number-other numbers n m i other = ap (λ b. cond {A = ℕ} b m (numbers i)) (ne_eqb i n other)

-- ---- what is known by events that pass a test, with one event more

module _ (trace : List Event) (t n : ℕ) (e : Event) (here : slice_get trace n ≡ Some e) where
  IsKnown-later : (p : Event → Bool) (k : ℕ) → IsKnown trace t n p k → IsKnown trace t (n + 1) p k
  IsKnown-later p k w = record { place = w.place; below = omega (arith, w.below); passes = w.passes; before = w.before }

  -- where it passes, what is known then is known before or by it
  pub IsKnown-next : (p : Event → Bool) → IsTrue (p e) → (k : ℕ) → (IsKnown trace t n p k ⊎ IsOwnBefore trace t n k) ↔ IsKnown trace t (n + 1) p k
  IsKnown-next p yes_it_does k = (
    (λ h. ⊎_elim (IsKnown-later p k) (λ w. record { place = n; below = omega arith; passes = passes_at-is trace p n e here ∙ yes_it_does; before = w }) h),
    (λ w. ⊎_elim (λ l. inl (record { place = w.place; below = l; passes = w.passes; before = w.before }))
        (λ g. inr (subst (λ i. IsOwnBefore trace t i k) (let same : w.place ≡ n = omega (arith, g, w.below) in same) w.before)) (cases_lt w.place n)),
  )

  -- where it doesn't, nothing more
  pub IsKnown-stays : (p : Event → Bool) → IsFalse (p e) → (k : ℕ) → IsKnown trace t n p k ↔ IsKnown trace t (n + 1) p k
  IsKnown-stays p it_does_not k = (
    IsKnown-later p k,
    (λ w. ⊎_elim (λ l. record { place = w.place; below = l; passes = w.passes; before = w.before })
        (λ g. absurd (both_ways (p e) it_does_not (sym (passes_at-is trace p n e here) ∙ subst (λ i. IsTrue (passes_at trace p i)) (let same : w.place ≡ n = omega (arith, g, w.below) in same) w.passes)))
        (cases_lt w.place n)),
  )

  -- what an event of the thread itself knows
  pub IsOwnBefore-own : IsTrue (is_by t e) → IsEndOf (IsOwnBefore trace t n) (n + 1)
  IsOwnBefore-own own = record {
    covers = λ k w. let under = IsFrom-le trace k n w.from in omega (arith, under);
    reached = λ k h.
        let at_it : n ≡ k = omega (arith, h) in
        subst (IsOwnBefore trace t n) at_it (record { own = passes_at-is trace (is_by t) n e here ∙ own; from = inl refl });
  }

  -- and one of another thread: the greatest of what the events before it know that conflict with it
  pub IsOwnBefore-greatest : (table : Rows) (known : KnowsUpTo trace t n table) (m : ℕ) → IsFalse (is_by t e) → IsGreatest trace known.numbers (λ f. conflict f e) m → IsEndOf (IsOwnBefore trace t n) m
  unfolding conflict_at
  IsOwnBefore-greatest table known m other greatest = record {
    covers = λ k w. ⊎_elim
        (λ at_it. absurd (both_ways (is_by t e) other (sym (passes_at-is trace (is_by t) n e here) ∙ subst (λ i. IsTrue (passes_at trace (is_by t) i)) at_it w.own)))
        (λ link.
        let f = event_at trace link.0 (conflict_at-within trace link.0 n link.2.1).0 in
        let c : IsTrue (conflict f.0 e) = rw (f.1, here) at link.2.1 in
        let least = (known.each link.0 link.2.0).covers k (record { own = w.own; from = link.1 }) in
        let most = greatest.covers link.0 (passes_at-is trace (λ g. conflict g e) link.0 f.0 f.1 ∙ c) in
        omega (arith, least, most))
        (IsFrom-last trace k n w.from);
    reached = λ k is.
        let by = greatest.reached (omega (arith, is)) in
        let early : by.0 < n = ⊎_elim (λ l. l) (λ g. let none = known.none_later by.0 g in absurd (omega (arith, none, by.2, is))) (cases_lt by.0 n) in
        let v = (known.each by.0 early).reached k (by.2 ∙ is) in
        let f = passes_at-event trace (λ g. conflict g e) by.0 by.1 in
        record { own = v.own; from = IsFrom-next trace k by.0 n v.from (early, rw (f.1, here) f.2) };
  }

  -- the table with what it knows
  pub KnowsUpTo-next : (old new : Rows) (m : ℕ) → IsRecorded old e m new → IsEndOf (IsOwnBefore trace t n) m → KnowsUpTo trace t n old → KnowsUpTo trace t (n + 1) new
  KnowsUpTo-next old new m recorded end known = record {
    numbers = with_number known.numbers n m;
    each = λ i l. ⊎_elim
        (λ under. subst (IsEndOf (IsOwnBefore trace t i)) (sym (with_number-other known.numbers n m i (λ same. omega (arith, under, same)))) (known.each i under))
        (λ above.
        let same : n ≡ i = omega (arith, above, l) in
        subst (λ j. IsEndOf (IsOwnBefore trace t j) (with_number known.numbers n m j)) same (subst (IsEndOf (IsOwnBefore trace t n)) (sym (with_number-same known.numbers n m)) end))
        (cases_lt i n);
    none_later = λ i g. with_number-other known.numbers n m i (λ same. omega (arith, g, same)) ∙ known.none_later i (omega (arith, g));
    has = recorded.each trace n known.numbers (with_number known.numbers n m) here
        (record { before = known.none_later n (omega arith); after = with_number-same known.numbers n m; others = with_number-other known.numbers n m }) known.has;
  }

-- a blank table stands for the start
pub KnowsUpTo-start : (trace : List Event) (t : ℕ) (table : Rows) → AreBlank table → KnowsUpTo trace t 0 table
KnowsUpTo-start trace t table blank = record {
  numbers = λ i. 0;
  each = λ i l. absurd (omega (arith, l));
  none_later = λ i g. refl;
  has = HasNumbers-none trace (λ i. 0) table (λ i l. refl) blank;
}

-- ---- the bound

-- before the first event nothing is known
pub bound-start : (trace : List Event) (t : ℕ) (test : Event → Bool) → IsEndOf (IsKnown trace t 0 test) 0
bound-start trace t test = IsEndOf-none _ (λ k w. omega (arith, w.below))

module _ (trace : List Event) (t n : ℕ) (e : Event) (here : slice_get trace n ≡ Some e) (test : Event → Bool) (bound m : ℕ) (end : IsEndOf (IsOwnBefore trace t n) m) (before : IsEndOf (IsKnown trace t n test) bound) where
  -- an event that passes the test raises it to what it knows
  pub bound-raised : IsTrue (test e) → IsEndOf (IsKnown trace t (n + 1) test) (max bound m)
  bound-raised passes = IsEndOf-same _ _ _ (IsKnown-next trace t n e here test passes) (IsEndOf-either _ _ _ _ before end)

  pub bound-stays : IsFalse (test e) → IsEndOf (IsKnown trace t (n + 1) test) bound
  bound-stays fails = IsEndOf-same _ _ _ (IsKnown-stays trace t n e here test fails) before
