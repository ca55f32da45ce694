-- Which way a test or a step that may fail went.
use Rattle.std.proofs.Common.{◌≡◌, ℕ, ◌≤◌, Bool, true, false, cond, List, [], ◌∷◌, ◌++◌, length, Option, Some, None, ◌⊎◌, inl, inr, refl, ap, ◌∙◌, arith}
use Rattle.std.specs.Prelude.{option_and_then}
use Rattle.velo_bytes.specs.Parsing.{by_word}

pub chosen : {X : Type 0} (b : Bool) (x y z : X) → cond b x y ≡ z → ((b ≡ true) × (x ≡ z)) ⊎ ((b ≡ false) × (y ≡ z))
chosen true x y z e = inl (refl, e)
chosen false x y z e = inr (refl, e)

pub some_is : {X : Type 0} (x y : X) → Some x ≡ Some y → x ≡ y
some_is x y e = cc

pub bind_some : {A B : Type 0} (o : Option A) (f : A → Option B) (y : B) → option_and_then f o ≡ Some y → (x : A) × (o ≡ Some x) × (f x ≡ Some y)
bind_some (Some x) f y e = (x, refl, e)
bind_some None f y e = absurd cc

pub by_word_is : {X : Type 0} (o : Option (List ℕ)) (f : List ℕ → Option X) (other : Option X) (y : X) → by_word o f other ≡ Some y → ((rest : List ℕ) × (o ≡ Some rest) × (f rest ≡ Some y)) ⊎ (other ≡ Some y)
by_word_is (Some rest) f other y e = inl (rest, refl, e)
by_word_is None f other y e = inr e

-- a longer front has the shorter one at its own front
pub front_of : (a b c d : List ℕ) → a ++ b ≡ c ++ d → length c ≤ length a → (x : List ℕ) × (a ≡ c ++ x)
front_of a b [] d e le = (a, refl)
front_of [] b (y ∷ c) d e le = absurd (omega arith)
front_of (x ∷ a) b (y ∷ c) d e le =
    let head : x ≡ y = cc in
    let tail : a ++ b ≡ c ++ d = cc in
    let found = front_of a b c d tail (omega arith) in
    (found.0, ap (λ (k : ℕ). k ∷ a) head ∙ ap (λ (t : List ℕ). y ∷ t) found.1)
