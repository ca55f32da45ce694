-- The greatest number of positions whose events pass a test: of two tests, and with one more number.
use Rattle.std.proofs.Common.{◌≡◌, ◌≢◌, ℕ, ◌<◌, max, Bool, List, length, get_or, Option, Some, None, refl, sym, ap, ◌∙◌, subst, arith, ⊎_elim}
use Rattle.std.specs.Prelude.{◌⊎◌, ◌||◌, slice_get, IsTrue, IsFalse}
use Rattle.std.proofs.Math.ListN.{set}
use Rattle.std.proofs.lemmas.Bool.{cases_lt, cases_eq, or_cases, or_left, or_right, eq-eqb, ne_eqb, both_ways}
use Rattle.std.proofs.lemmas.List.{length-set, get_or-set_same, get_or-set_other}
use Rattle.velo_events.specs.declared.event.Event.{Event}
use Rattle.velo_events.specs.About.{is_about}
use Rattle.velo_events.specs.Event.{are_same}
use Rattle.velo_events.specs.Block.{passes_at}
use Rattle.velo_events.proofs.OnScans.{passes_at-event, passes_at-is}
use Rattle.velo_events.proofs.OnOwners.{passes_at-within}
use Rattle.velo_traces.specs.Numbers.{IsGreatest, IsNumbered, IsRow, IsBlank}

module _ (trace : List Event) (numbers : ℕ → ℕ) where
  passes-map : (p q : Event → Bool) (i : ℕ) → ((e : Event) → IsTrue (p e) → IsTrue (q e)) → IsTrue (passes_at trace p i) → IsTrue (passes_at trace q i)
  passes-map p q i h w = let e = passes_at-event trace p i w in passes_at-is trace q i e.0 e.1 ∙ h e.0 e.2

  -- of positions whose events pass one test or the other
  pub IsGreatest-or : (p q : Event → Bool) (a b : ℕ) → IsGreatest trace numbers p a → IsGreatest trace numbers q b → IsGreatest trace numbers (λ e. p e || q e) (max a b)
  IsGreatest-or p q a b v w = record {
    covers = λ i h.
        let e = passes_at-event trace (λ f. p f || q f) i h in
        ⊎_elim (λ l. let most = v.covers i (passes_at-is trace p i e.0 e.1 ∙ l) in omega (arith, most))
        (λ r. let most = w.covers i (passes_at-is trace q i e.0 e.1 ∙ r) in omega (arith, most)) (or_cases _ _ e.2);
    reached = λ some. ⊎_elim
        (λ l. let k = w.reached (omega (arith, l)) in (k.0, passes-map q (λ e. p e || q e) k.0 (λ e i. or_right _ _ i) k.1, let same : numbers k.0 ≡ max a b = omega (arith, l, k.2) in same))
        (λ g. let k = v.reached (omega (arith, g, some)) in (k.0, passes-map p (λ e. p e || q e) k.0 (λ e i. or_left _ _ i) k.1, let same : numbers k.0 ≡ max a b = omega (arith, g, k.2) in same))
        (cases_lt a b);
  }

  -- of positions whose events pass a test in other words
  pub IsGreatest-same : (p q : Event → Bool) (a : ℕ) → ((e : Event) → p e ≡ q e) → IsGreatest trace numbers p a → IsGreatest trace numbers q a
  IsGreatest-same p q a h w = record {
    covers = λ i r. w.covers i (passes-map q p i (λ e s. h e ∙ s) r);
    reached = λ some. let k = w.reached some in (k.0, passes-map p q k.0 (λ e s. sym (h e) ∙ s) k.1, k.2);
  }

  -- of positions without numbers
  pub IsGreatest-none : ((i : ℕ) → i < length trace → numbers i ≡ 0) → (p : Event → Bool) → IsGreatest trace numbers p 0
  IsGreatest-none none p = record {
    covers = λ i h. let e = none i (passes_at-within trace p i h) in omega (arith, e);
    reached = λ some. absurd (omega (arith, some));
  }

-- a blank row, before there are numbers
pub IsRow-none : (trace : List Event) (numbers : ℕ → ℕ) → ((i : ℕ) → i < length trace → numbers i ≡ 0) → (named : Event → Option ℕ) (row : List ℕ) → IsBlank row → IsRow trace numbers named row
IsRow-none trace numbers none named row blank = record {
  each = λ x l. subst (IsGreatest trace numbers (is_about named x)) (sym (blank.each x l)) (IsGreatest-none trace numbers none (is_about named x));
}

-- ---- one more number

module _ (trace : List Event) (n : ℕ) (e : Event) (here : slice_get trace n ≡ Some e) (before after : ℕ → ℕ) (number : ℕ) (step : IsNumbered before after n number) where
  IsGreatest-next : (p : Event → Bool) (a : ℕ) → IsTrue (p e) → IsGreatest trace before p a → IsGreatest trace after p (max a number)
  IsGreatest-next p a passes w = record {
    covers = λ i h. ⊎_elim
        (λ same. let now : after i ≡ number = ap after same ∙ step.after in omega (arith, now))
        (λ other. let was = step.others i other in let most = w.covers i h in omega (arith, was, most))
        (cases_eq i n);
    reached = λ some. ⊎_elim
        (λ l. (n, passes_at-is trace p n e here ∙ passes, let same : after n ≡ max a number = let now = step.after in omega (arith, now, l) in same))
        (λ g.
        let k = w.reached (omega (arith, g, some)) in
        let other : k.0 ≢ n = λ same. let zero_at : before k.0 ≡ 0 = ap before same ∙ step.before in omega (arith, zero_at, k.2, g, some) in
        (k.0, k.1, let same : after k.0 ≡ max a number = let was = step.others k.0 other in omega (arith, was, k.2, g) in same))
        (cases_lt a number);
  }

  IsGreatest-stays : (p : Event → Bool) (a : ℕ) → IsFalse (p e) → IsGreatest trace before p a → IsGreatest trace after p a
  IsGreatest-stays p a fails w = record {
    covers = λ i h. let was = step.others i (other i h) in let most = w.covers i h in omega (arith, was, most);
    reached = λ some. let k = w.reached some in (k.0, k.1, step.others k.0 (other k.0 k.1) ∙ k.2);
  }
    where
      other : (i : ℕ) → IsTrue (passes_at trace p i) → i ≢ n
      other i h same = both_ways (p e) fails (sym (passes_at-is trace p n e here) ∙ subst (λ k. IsTrue (passes_at trace p k)) same h)

  -- an event about the thing: its number is taken there
  pub IsRow-noted : (named : Event → Option ℕ) (row : List ℕ) (x : ℕ) → named e ≡ Some x → x < length row → IsRow trace before named row → IsRow trace after named (set row x (max (get_or row x 0) number))
  IsRow-noted named row x about within w = record {
    each = λ y l.
        let under : y < length row = omega (arith, l, length-set row x (max (get_or row x 0) number)) in
        ⊎_elim
        (λ same.
        subst (λ z. IsGreatest trace after (is_about named z) (get_or (set row x (max (get_or row x 0) number)) z 0)) (sym same)
        (subst (IsGreatest trace after (is_about named x)) (sym (get_or-set_same row x (max (get_or row x 0) number) 0 within))
        (IsGreatest-next (is_about named x) (get_or row x 0) (ap (λ o. are_same o (Some x)) about ∙ eq-eqb x x refl) (w.each x within))))
        (λ differ.
        subst (IsGreatest trace after (is_about named y)) (sym (get_or-set_other row x y (max (get_or row x 0) number) 0 differ))
        (IsGreatest-stays (is_about named y) (get_or row y 0) (ap (λ o. are_same o (Some y)) about ∙ ne_eqb x y (λ h. differ (sym h))) (w.each y under)))
        (cases_eq y x);
  }

  -- an event about none
  pub IsRow-passed : (named : Event → Option ℕ) (row : List ℕ) → named e ≡ None → IsRow trace before named row → IsRow trace after named row
  IsRow-passed named row about w = record { each = λ y l. IsGreatest-stays (is_about named y) (get_or row y 0) (ap (λ o. are_same o (Some y)) about) (w.each y l) }
