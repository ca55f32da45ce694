-- Numbers with a bit for each number that passes a test: one test more, one less, and whether any passes.
use Rattle.std.proofs.Common.{◌≡◌, ℕ, zero, suc, ◌+◌, ◌-◌, ◌*◌, ◌%◌, ◌^◌, ◌<◌, ◌≤◌, Bool, true, false, not, cond, refl, sym, ap, ◌∙◌, subst, arith, ⊎_elim, min}
use Rattle.std.specs.Prelude.{◌==◌, ◌&&◌, ◌||◌, nat_lt, if◌then◌else◌, IsTrue, IsFalse}
use Rattle.std.specs.Int.{bit_at, bit_not}
use Rattle.std.specs.Int.RustNames.{bit_or}
use Rattle.std.specs.Int.Bits.{bit_and}
use mir.Syntax.{w64}
use native.Mathlib.Nat.{pow-suc}
use Rattle.std.proofs.lemmas.Bool.{cases_Bool, cases_lt, cases_eq, lt-ltb, le-ltb, eq-eqb, ne_eqb, or_parts}
use Rattle.std.proofs.lemmas.Nat.{pow_pos}
use Rattle.std.proofs.lemmas.Nat.Bits.{bit_at_above, bit_at_and, bit_at_cat_low, bit_at_cat_high, bit_at_set_same, bit_at_set_other, bit_at_clear_same, bit_at_clear_other, same_from_bits}
use Rattle.velo_events.specs.Block.{any_below}
use Rattle.velo_heap.specs.Contents.{mask_below}

abbrev one_bit : Bool → ℕ
one_bit b = if b then 1 else 0

pub mask_below-lt : (n : ℕ) (test : ℕ → Bool) → mask_below n test < 2 ^ n
unfolding mask_below
mask_below-lt zero test = omega arith
mask_below-lt (suc n) test = by_bit (mask_below-lt n test) (test n)
  where
    by_bit : mask_below n test < 2 ^ n → (b : Bool) → (if b then 1 else 0) * 2 ^ n + mask_below n test < 2 ^ suc n
    by_bit rest true = omega (arith, rest, pow-suc 2 n)
    by_bit rest false = omega (arith, rest, pow-suc 2 n)

bit_of_one : (b : Bool) → bit_at (if b then 1 else 0) 0 ≡ (if b then 1 else 0)
bit_of_one true = refl
bit_of_one false = refl

-- the bits are what the tests say
pub bit_at-mask_below : (n : ℕ) (test : ℕ → Bool) (i : ℕ) → i < n → bit_at (mask_below n test) i ≡ (if test i then 1 else 0)
unfolding mask_below
bit_at-mask_below zero test i l = absurd (omega arith)
bit_at-mask_below (suc n) test i l =
    ⊎_elim
    (λ under. bit_at_cat_low (one_bit (test n)) n (mask_below n test) i under ∙ bit_at-mask_below n test i under)
    (λ above.
    let at : i ≡ n = omega (arith, l, above) in
    let none : n - n ≡ 0 = omega arith in
    subst (λ k. bit_at (one_bit (test n) * 2 ^ n + mask_below n test) k ≡ (if test k then 1 else 0)) (sym at)
    (bit_at_cat_high (one_bit (test n)) n (mask_below n test) n (mask_below-lt n test) (omega arith) ∙ (ap (bit_at (one_bit (test n))) none ∙ bit_of_one (test n))))
    (cases_lt i n)

pub bit_at-mask_above : (n : ℕ) (test : ℕ → Bool) (i : ℕ) → n ≤ i → bit_at (mask_below n test) i ≡ 0
bit_at-mask_above n test i l = bit_at_above (mask_below n test) n i (mask_below-lt n test) l

is_one : (b : Bool) → ((if b then 1 else 0) == 1) ≡ b
is_one true = refl
is_one false = refl

-- where only numbers below n pass
pub is_in-mask_below : (n : ℕ) (test : ℕ → Bool) (i : ℕ) → (IsTrue (test i) → i < n) → (bit_at (mask_below n test) i == 1) ≡ test i
is_in-mask_below n test i few =
    ⊎_elim
    (λ under. ap (λ k. k == 1) (bit_at-mask_below n test i under) ∙ is_one (test i))
    (λ above. ap (λ k. k == 1) (bit_at-mask_above n test i above) ∙ sym (none above))
    (cases_lt i n)
  where
    none : n ≤ i → IsFalse (test i)
    none above = ⊎_elim (λ yes. absurd (let under = few yes in omega (arith, under, above))) (λ no. no) (cases_Bool (test i))

-- ---- one bit is set, or cleared

module _ (n : ℕ) (few : n ≤ 64) (before after : ℕ → Bool) (t : ℕ) (within : t < n) (others : (i : ℕ) → (i ≡ t → ⊥) → after i ≡ before i) where
  small : t < 64
  small = omega (arith, within, few)

  elsewhere : (i : ℕ) → (i ≡ t → ⊥) → bit_at (mask_below n before) i ≡ bit_at (mask_below n after) i
  elsewhere i other =
      ⊎_elim
      (λ under. bit_at-mask_below n before i under ∙ (ap (λ b. if b then 1 else 0) (sym (others i other)) ∙ sym (bit_at-mask_below n after i under)))
      (λ above. bit_at-mask_above n before i above ∙ sym (bit_at-mask_above n after i above))
      (cases_lt i n)

  pub mask_below-set : IsTrue (after t) → bit_or (mask_below n before) (1 * 2 ^ t % 2 ^ 64) ≡ mask_below n after
  mask_below-set is = same_from_bits _ _ (λ i. ⊎_elim
      (λ at. subst (λ k. bit_at (bit_or (mask_below n before) (1 * 2 ^ t % 2 ^ 64)) k ≡ bit_at (mask_below n after) k) (sym at)
      (bit_at_set_same w64 (mask_below n before) t small ∙ sym (bit_at-mask_below n after t within ∙ ap (λ b. if b then 1 else 0) is)))
      (λ other. bit_at_set_other w64 (mask_below n before) t small i other ∙ elsewhere i other)
      (cases_eq i t))

  pub mask_below-cleared : IsFalse (after t) → bit_and (mask_below n before) (bit_not w64 (1 * 2 ^ t % 2 ^ 64)) ≡ mask_below n after
  mask_below-cleared is = same_from_bits _ _ (λ i. ⊎_elim
      (λ at. subst (λ k. bit_at (bit_and (mask_below n before) (bit_not w64 (1 * 2 ^ t % 2 ^ 64))) k ≡ bit_at (mask_below n after) k) (sym at)
      (bit_at_clear_same w64 (mask_below n before) t small ∙ sym (bit_at-mask_below n after t within ∙ ap (λ b. if b then 1 else 0) is)))
      (λ other. ⊎_elim
      (λ under. bit_at_clear_other w64 (mask_below n before) t small i under other ∙ elsewhere i other)
      (λ (above : 64 ≤ i). let beyond : n ≤ i = omega (arith, above, few) in
      let none = bit_at-mask_above n before i beyond in
      let cleared = bit_at_and (mask_below n before) (bit_not w64 (1 * 2 ^ t % 2 ^ 64)) i in
      let gone : bit_at (bit_and (mask_below n before) (bit_not w64 (1 * 2 ^ t % 2 ^ 64))) i ≡ 0 = omega (arith, cleared, none) in
      gone ∙ sym (bit_at-mask_above n after i beyond))
      (cases_lt i 64))
      (cases_eq i t))

pub mask_below-same : (n : ℕ) (before after : ℕ → Bool) → ((i : ℕ) → after i ≡ before i) → mask_below n after ≡ mask_below n before
unfolding mask_below
mask_below-same zero before after same = refl
mask_below-same (suc n) before after same = ap (λ b. (if b then 1 else 0) * 2 ^ n + mask_below n after) (same n) ∙ ap (λ m. (if before n then 1 else 0) * 2 ^ n + m) (mask_below-same n before after same)

-- ---- whether some number passes

or_right_true : (b : Bool) → (b || true) ≡ true
or_right_true true = refl
or_right_true false = refl

or_right_false : (b : Bool) → (b || false) ≡ b
or_right_false true = refl
or_right_false false = refl

pub mask_below-some : (n : ℕ) (test : ℕ → Bool) → not (mask_below n test == 0) ≡ any_below n test
unfolding mask_below any_below
mask_below-some zero test = refl
mask_below-some (suc n) test = by_bit (mask_below-some n test) (test n)
  where
    by_bit : not (mask_below n test == 0) ≡ any_below n test → (b : Bool) → not ((if b then 1 else 0) * 2 ^ n + mask_below n test == 0) ≡ (any_below n test || b)
    by_bit rest true =
        let some : (1 * 2 ^ n + mask_below n test ≡ 0 → ⊥) = λ e. omega (arith, e, pow_pos n) in
        ap not (ne_eqb _ _ some) ∙ sym (or_right_true (any_below n test))
    by_bit rest false =
        let same : 0 * 2 ^ n + mask_below n test ≡ mask_below n test = omega arith in
        ap (λ m. not (m == 0)) same ∙ (rest ∙ sym (or_right_false (any_below n test)))

pub mask_below-none : (n : ℕ) → mask_below n (λ i. false) ≡ 0
unfolding mask_below
mask_below-none zero = refl
mask_below-none (suc n) = let rest = mask_below-none n in omega (arith, rest)
