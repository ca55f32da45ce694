-- Lists that are filled up with blanks.
use Rattle.std.proofs.Common.{◌≡◌, ℕ, ◌-◌, ◌≤◌, List, ◌++◌, length, take, get_or, max, refl, sym, ap, ◌∙◌, arith, length-append, ⊎_elim}
use Rattle.std.specs.Prelude.{replicate}
use Rattle.std.proofs.lemmas.Bool.{cases_lt}
use Rattle.std.proofs.lemmas.List.{append-nil, take_all, get_or_append_left, get_or-append_right, get_or_past, get_or-replicate, length-replicate}
use Rattle.velo_events.specs.Growth.{filled_up}

pub filled_up-long : {X : Type 0} (blank : X) (n : ℕ) (xs : List X) → n ≤ length xs → filled_up blank n xs ≡ xs
unfolding filled_up
filled_up-long blank n xs h = ap (λ k. xs ++ replicate k blank) (let none : n - length xs ≡ 0 = omega arith in none) ∙ append-nil xs

-- what `resize` leaves of a list of k elements
pub filled_up-short : {X : Type 0} (blank : X) (n k : ℕ) (xs : List X) → length xs ≡ k → k ≤ n → take n xs ++ replicate (n - k) blank ≡ filled_up blank n xs
unfolding filled_up
filled_up-short blank n k xs all h =
    ap (λ ys. ys ++ replicate (n - k) blank) (take_all n xs (omega (arith, all, h)))
    ∙ ap (λ m. xs ++ replicate m blank) (let same : n - k ≡ n - length xs = omega (arith, all) in same)

pub get_or-blanks : {X : Type 0} (blank : X) (n i : ℕ) → get_or (replicate n blank) i blank ≡ blank
get_or-blanks blank n i =
    ⊎_elim (λ under. get_or-replicate n i blank blank under)
    (λ past. get_or_past (replicate n blank) i blank (omega (arith, past, length-replicate n blank))) (cases_lt i n)

-- no entry is changed by it
pub get_or-filled_up : {X : Type 0} (blank : X) (n : ℕ) (xs : List X) (i : ℕ) → get_or (filled_up blank n xs) i blank ≡ get_or xs i blank
unfolding filled_up
get_or-filled_up blank n xs i =
    ⊎_elim (λ under. get_or_append_left xs (replicate (n - length xs) blank) blank i under)
    (λ past. get_or-append_right xs (replicate (n - length xs) blank) (length xs) i blank refl past
    ∙ (get_or-blanks blank (n - length xs) (i - length xs) ∙ sym (get_or_past xs i blank past))) (cases_lt i (length xs))

pub length-filled_up : {X : Type 0} (blank : X) (n : ℕ) (xs : List X) → length (filled_up blank n xs) ≡ max n (length xs)
unfolding filled_up
length-filled_up blank n xs = omega (arith, length-append xs (replicate (n - length xs) blank), length-replicate (n - length xs) blank)
