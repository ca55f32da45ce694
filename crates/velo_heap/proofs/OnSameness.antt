-- Lists whose items are the same by a test.
use Rattle.std.proofs.Common.{◌≡◌, Bool, true, List, [], ◌∷◌, Some, None, refl, ap, ◌∙◌, subst}
use Rattle.std.specs.Cmp.Lexicographic.{pointwise}
use Rattle.std.specs.Option.{option_eq}
use Rattle.std.proofs.lemmas.Bool.{and_from, and_parts, false≢true}

abbrev pub Tells : {A : Type 0} → (A → A → Bool) → Type 0
Tells {A} E = (a b : A) → E a b ≡ true → a ≡ b

pub Tells-lists : {A : Type 0} (E : A → A → Bool) → Tells E → Tells (pointwise E)
Tells-lists E tells [] [] h = refl
Tells-lists E tells [] (y ∷ ys) h = absurd (false≢true h)
Tells-lists E tells (x ∷ xs) [] h = absurd (false≢true h)
Tells-lists E tells (x ∷ xs) (y ∷ ys) h =
    let parts = and_parts (E x y) (pointwise E xs ys) h in
    ap (λ a. a ∷ xs) (tells x y parts.0) ∙ ap (λ rest. y ∷ rest) (Tells-lists E tells xs ys parts.1)

pub Tells-options : {A : Type 0} (E : A → A → Bool) → Tells E → Tells (option_eq E)
Tells-options E tells None None h = refl
Tells-options E tells None (Some y) h = absurd (false≢true h)
Tells-options E tells (Some x) None h = absurd (false≢true h)
Tells-options E tells (Some x) (Some y) h = ap (λ a. Some a) (tells x y h)

-- ---- each is the same as itself

abbrev pub TellsOwn : {A : Type 0} → (A → A → Bool) → Type 0
TellsOwn {A} E = (a : A) → E a a ≡ true

own-lists : {A : Type 0} (E : A → A → Bool) → TellsOwn E → TellsOwn (pointwise E)
own-lists E own [] = refl
own-lists E own (x ∷ xs) = and_from (E x x) (pointwise E xs xs) (own x) (own-lists E own xs)

pub own-options : {A : Type 0} (E : A → A → Bool) → TellsOwn E → TellsOwn (option_eq E)
own-options E own None = refl
own-options E own (Some x) = own x

pub same-lists : {A : Type 0} (E : A → A → Bool) → TellsOwn E → (xs ys : List A) → xs ≡ ys → pointwise E xs ys ≡ true
same-lists E own xs ys same = subst (λ zs. pointwise E xs zs ≡ true) same (own-lists E own xs)
