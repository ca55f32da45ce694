-- Sums and lists over bodies, one after another.
use Rattle.std.proofs.Common.{◌≡◌, ℕ, ◌+◌, ◌-◌, ◌^◌, min, List, [], ◌∷◌, ◌++◌, take, map, Some, sym, ap, ◌∙◌, arith}
use Rattle.std.specs.Prelude.{slice_get, sum_by}
use Rattle.std.proofs.lemmas.List.{map_more, map-append}
use Rattle.std.proofs.lemmas.List.Sums.{sum_by_more}
use Rattle.std.proofs.lemmas.Option.{slice_get_within, get_or_from_slice_get}

pub sum-next : {X : Type 0} (f : X → ℕ) (xs : List X) (i : ℕ) (x : X) → slice_get xs i ≡ Some x → sum_by f (take (i + 1) xs) ≡ sum_by f (take i xs) + f x
sum-next f xs i x here =
    sum_by_more f xs i x (slice_get_within xs i x here) ∙ ap (λ y. sum_by f (take i xs) + f y) (get_or_from_slice_get xs i x x here)

pub map-next : {X Y : Type 0} (f : X → Y) (xs : List X) (i : ℕ) (x : X) → slice_get xs i ≡ Some x → map f (take (i + 1) xs) ≡ map f (take i xs) ++ f x ∷ []
map-next f xs i x here =
    map_more f xs i x (slice_get_within xs i x here) ∙ ap (λ y. map f (take i xs) ++ f y ∷ []) (get_or_from_slice_get xs i x x here)

-- a list that is built beside another, element by element
pub map-pushed : {V X Y : Type 0} (g : V → Y) (f : X → Y) (xs : List X) (i : ℕ) (x : X) (before now : List V) (v : V) → slice_get xs i ≡ Some x → map g before ≡ map f (take i xs) → now ≡ before ++ v ∷ [] → g v ≡ f x → map g now ≡ map f (take (i + 1) xs)
map-pushed g f xs i x before now v here so_far pushed same =
    ap (map g) pushed
    ∙ (map-append g before (v ∷ [])
    ∙ (ap (λ ys. ys ++ g v ∷ []) so_far ∙ (ap (λ y. map f (take i xs) ++ y ∷ []) same ∙ sym (map-next f xs i x here))))

-- sums up to the largest number
pub capped-next : (s e total count more result : ℕ) → total ≡ s + e → count ≡ min s (2 ^ 64 - 1) → more ≡ min e (2 ^ 64 - 1) → result ≡ min (count + more) (2 ^ 64 - 1) → result ≡ min total (2 ^ 64 - 1)
capped-next s e total count more result all before one sum = omega (arith, all, before, one, sum)
