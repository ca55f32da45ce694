-- Two numbers of paired lists are exchanged, and the lists are paired.
use Rattle.std.proofs.Common.{◌≡◌, ◌≢◌, ℕ, ◌<◌, List, [], length, refl, sym, ap, ◌∙◌, subst, arith, ⊎_elim}
use Rattle.std.specs.Prelude.{slice_set}
use Rattle.std.proofs.lemmas.Bool.{cases_eq}
use Rattle.std.proofs.lemmas.List.{get_or-set_same, get_or-set_other, length-set}
use Rattle.velo_search.specs.Exchanges.{number_in, ArePaired}

-- ---- one number

set-same : (xs : List ℕ) (i v z : ℕ) → i < length xs → z ≡ i → number_in (slice_set xs i v) z ≡ v
set-same xs i v z within is = subst (λ k. number_in (slice_set xs i v) k ≡ v) (sym is) (get_or-set_same xs i v i within)

set-other : (xs : List ℕ) (i v z : ℕ) → z ≢ i → number_in (slice_set xs i v) z ≡ number_in xs z
set-other xs i v z differ = get_or-set_other xs i z v z differ

-- ---- an exchange

-- the list in which x is given y, and what was given y is given what x had
abbrev pub swapped : List ℕ → List ℕ → ℕ → ℕ → List ℕ
swapped to back x y = slice_set (slice_set to x y) (number_in back y) (number_in to x)

module _ (to back : List ℕ) (returns : (z : ℕ) → number_in back (number_in to z) ≡ z) (x y : ℕ) (x_there : x < length to) (other_there : number_in back y < length to) where
  at-other : (z : ℕ) → z ≡ number_in back y → number_in (swapped to back x y) z ≡ number_in to x
  at-other z is = set-same (slice_set to x y) (number_in back y) (number_in to x) z (let long = length-set to x y in omega (arith, long, other_there)) is

  at-own : (z : ℕ) → z ≢ number_in back y → z ≡ x → number_in (swapped to back x y) z ≡ y
  at-own z differ is = set-other (slice_set to x y) (number_in back y) (number_in to x) z differ ∙ set-same to x y z x_there is

  at-rest : (z : ℕ) → z ≢ number_in back y → z ≢ x → number_in (swapped to back x y) z ≡ number_in to z
  at-rest z differ not_own = set-other (slice_set to x y) (number_in back y) (number_in to x) z differ ∙ set-other to x y z not_own

-- the lists lead back from one another
swapped-returns : (to back : List ℕ) → ((z : ℕ) → number_in back (number_in to z) ≡ z) → ((z : ℕ) → number_in to (number_in back z) ≡ z) → (x y : ℕ) →
    x < length to → number_in back y < length to → y < length back → number_in to x < length back →
    (z : ℕ) → number_in (swapped back to y x) (number_in (swapped to back x y) z) ≡ z
swapped-returns to back returns gives x y x_there other_there y_there had_there z =
    let after = swapped back to y x in
    ⊎_elim
    (λ other.
    ap (number_in after) (at-other to back returns x y x_there other_there z other)
    ∙ (at-other back to gives y x y_there had_there (number_in to x) refl ∙ sym other))
    (λ differ. ⊎_elim
    (λ own.
    let y_apart : y ≢ number_in to x = λ is. differ (own ∙ (sym (returns x) ∙ ap (number_in back) (sym is))) in
    ap (number_in after) (at-own to back returns x y x_there other_there z differ own)
    ∙ (at-own back to gives y x y_there had_there y y_apart refl ∙ sym own))
    (λ not_own.
    let apart : number_in to z ≢ number_in to x = λ is. not_own (sym (returns z) ∙ (ap (number_in back) is ∙ returns x)) in
    let not_given : number_in to z ≢ y = λ is. differ (sym (returns z) ∙ ap (number_in back) is) in
    ap (number_in after) (at-rest to back returns x y x_there other_there z differ not_own)
    ∙ (at-rest back to gives y x y_there had_there (number_in to z) apart not_given ∙ returns z))
    (cases_eq z x))
    (cases_eq z (number_in back y))

swapped-within : (to back : List ℕ) → ((z : ℕ) → number_in back (number_in to z) ≡ z) → (x y n : ℕ) → x < length to → number_in back y < length to → y < n → ((z : ℕ) → z < length to → number_in to z < n) →
    (z : ℕ) → z < length to → number_in (swapped to back x y) z < n
swapped-within to back returns x y n x_there other_there y_within within z l = ⊎_elim
    (λ other. subst (λ k. k < n) (sym (at-other to back returns x y x_there other_there z other)) (within x x_there))
    (λ differ. ⊎_elim
    (λ own. subst (λ k. k < n) (sym (at-own to back returns x y x_there other_there z differ own)) y_within)
    (λ not_own. subst (λ k. k < n) (sym (at-rest to back returns x y x_there other_there z differ not_own)) (within z l))
    (cases_eq z x))
    (cases_eq z (number_in back y))

pub length-swapped : (to back : List ℕ) (x y : ℕ) → length (swapped to back x y) ≡ length to
length-swapped to back x y = length-set (slice_set to x y) (number_in back y) (number_in to x) ∙ length-set to x y

pub paired-swapped : (to back : List ℕ) (x y : ℕ) → ArePaired to back → x < length to → y < length to → ArePaired (swapped to back x y) (swapped back to y x)
paired-swapped to back x y paired x_there y_there =
    let count = paired.count in
    let long = length-swapped to back x y in
    let long_back = length-swapped back to y x in
    let other = paired.within_back y y_there in
    let had = paired.within x x_there in
    let y_back : y < length back = omega (arith, y_there, count) in
    let had_back : number_in to x < length back = omega (arith, had, count) in
    record {
      count = long_back ∙ (count ∙ sym long);
      returns = swapped-returns to back paired.returns paired.gives x y x_there other y_back had_back;
      gives = swapped-returns back to paired.gives paired.returns y x y_back had_back x_there other;
      within = λ z l.
          let below = swapped-within to back paired.returns x y (length to) x_there other y_there paired.within z (omega (arith, l, long)) in
          omega (arith, below, long);
      within_back = λ z l.
          let below = swapped-within back to paired.gives y x (length to) y_back had_back x_there (λ w b. paired.within_back w (omega (arith, b, count))) z (omega (arith, l, long, count)) in
          omega (arith, below, long);
    }
