-- The digits of numbers that are written in decimal.
use Rattle.std.proofs.Common.{◌≡◌, ℕ, ◌+◌, ◌*◌, ◌/◌, ◌%◌, ◌^◌, ◌<◌, ◌≤◌, true, [], ◌∷◌, ◌++◌, ap, ◌∙◌, arith}
use Rattle.std.specs.Prelude.{decimal}
use Rattle.std.specs.Char.{is_ascii_digit}
use Rattle.std.proofs.lemmas.Fmt.{decimal_step}
use Rattle.std.proofs.lemmas.Bool.Decides.{nat_tests}

-- a digit is one of ten bytes, and these are digits
pub digit_is : (c : ℕ) → is_ascii_digit c ≡ true → (48 ≤ c) × (c ≤ 57)
digit_is c e = (grind (arith, nat_tests), grind (arith, nat_tests))

pub is_digit : (d : ℕ) → d < 10 → is_ascii_digit (48 + d) ≡ true
is_digit d h = grind (arith, nat_tests)

-- one digit more
pub decimal_more : (n d : ℕ) → 0 < n → d < 10 → n * 10 + d < 2 ^ 64 → decimal (n * 10 + d) ≡ decimal n ++ (48 + d) ∷ []
decimal_more n d some small fits =
    let q : (n * 10 + d) / 10 ≡ n = omega arith in
    let r : (n * 10 + d) % 10 ≡ d = omega arith in
    let s = decimal_step (n * 10 + d) (omega arith) fits in
    s ∙ ap (λ (k : ℕ). decimal k ++ (48 + (n * 10 + d) % 10) ∷ []) q ∙ ap (λ (k : ℕ). decimal n ++ (48 + k) ∷ []) r
