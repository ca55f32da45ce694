-- Lists of numbers that are raised to others.
use Rattle.std.proofs.Common.{◌≡◌, ℕ, zero, suc, ◌+◌, ◌<◌, ◌≤◌, max, List, [], ◌∷◌, length, take, get_or, refl, ap, ◌∙◌, arith}
use Rattle.std.proofs.Math.ListN.{set}
use Rattle.velo_tables.specs.ClockRows.{maxima}

pub raised-nil : (xs : List ℕ) → maxima xs [] ≡ xs
unfolding maxima
raised-nil [] = refl
raised-nil (x ∷ xs) = refl

pub length-raised : (xs ys : List ℕ) → length (maxima xs ys) ≡ length xs
unfolding maxima
length-raised [] ys = refl
length-raised (x ∷ xs) [] = refl
length-raised (x ∷ xs) (y ∷ ys) = ap suc (length-raised xs ys)

-- number by number
pub get_or-raised : (xs ys : List ℕ) (i : ℕ) → length ys ≤ length xs → get_or (maxima xs ys) i 0 ≡ max (get_or xs i 0) (get_or ys i 0)
unfolding maxima
get_or-raised [] [] i h = omega arith
get_or-raised [] (y ∷ ys) i h = absurd (omega (arith, h))
get_or-raised (x ∷ xs) [] i h = omega arith
get_or-raised (x ∷ xs) (y ∷ ys) zero h = refl
get_or-raised (x ∷ xs) (y ∷ ys) (suc i) h = get_or-raised xs ys i (omega (arith, h))

-- one number more
pub raised-more : (xs ys : List ℕ) (i : ℕ) → i < length ys → length ys ≤ length xs → maxima xs (take (i + 1) ys) ≡ set (maxima xs (take i ys)) i (max (get_or (maxima xs (take i ys)) i 0) (get_or ys i 0))
unfolding maxima
raised-more [] ys i l h = absurd (omega (arith, l, h))
raised-more (x ∷ xs) [] i l h = absurd (omega (arith, l))
raised-more (x ∷ xs) (y ∷ ys) zero l h = ap (λ zs. max x y ∷ zs) (raised-nil xs)
raised-more (x ∷ xs) (y ∷ ys) (suc i) l h =
    ap (λ k. maxima (x ∷ xs) (take k (y ∷ ys))) (let next : suc i + 1 ≡ suc (i + 1) = omega arith in next) ∙ ap (λ zs. max x y ∷ zs) (raised-more xs ys i (omega (arith, l)) (omega (arith, h)))
