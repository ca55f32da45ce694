-- A list for each of some things, one more.
use Rattle.std.proofs.Common.{◌≡◌, ℕ, ◌+◌, List, [], ◌∷◌, ◌++◌, take, sym, ap, ◌∙◌, append_assoc}
use Rattle.std.specs.List.{flat_map}
use Rattle.std.proofs.lemmas.Grind.{flat_map-append}
use Rattle.std.proofs.lemmas.List.{append-nil}

flat_map-more : {X Y : Type 0} (f : X → List Y) (xs : List X) (i : ℕ) (x : X) → take (i + 1) xs ≡ take i xs ++ x ∷ []
    → flat_map f (take i xs) ++ f x ≡ flat_map f (take (i + 1) xs)
flat_map-more {X} {Y} f xs i x is =
    ap (λ (t : List Y). flat_map f (take i xs) ++ t) (sym (append-nil (f x)))
    ∙ sym (flat_map-append f (take i xs) (x ∷ []))
    ∙ ap (flat_map f) (sym is)

-- behind what stood there before
pub flat_map-next : {X Y : Type 0} (f : X → List Y) (xs : List X) (i : ℕ) (x : X) (start before after : List Y) → take (i + 1) xs ≡ take i xs ++ x ∷ []
    → before ≡ start ++ flat_map f (take i xs) → after ≡ before ++ f x → after ≡ start ++ flat_map f (take (i + 1) xs)
flat_map-next {X} {Y} f xs i x start before after is stood more =
    more ∙ ap (λ (t : List Y). t ++ f x) stood
    ∙ append_assoc start (flat_map f (take i xs)) (f x)
    ∙ ap (λ (t : List Y). start ++ t) (flat_map-more f xs i x is)
