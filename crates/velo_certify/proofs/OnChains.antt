-- Lists that are kept in one store, with one link more.
use Rattle.std.proofs.Common.{◌≡◌, ℕ, zero, suc, ◌+◌, ◌<◌, List, [], ◌∷◌, ◌++◌, length, set, Some, refl, sym, ap, ◌∙◌, subst, arith, ⊎_elim, inl, inr, Result, Ok, Err}
use Rattle.std.specs.Prelude.{◌⊎◌, OnOk, slice_get, slice_index}
use Rattle.std.proofs.lemmas.Bool.{cases_eq}
use Rattle.std.proofs.lemmas.List.{length-set, get_or-set_same, get_or-set_other}
use Rattle.std.proofs.lemmas.Option.{slice_get_within}
use Rattle.velo_certify.specs.declared.chains.Link.{Link}
use Rattle.velo_certify.specs.declared.chains.Links.{Links}
use Rattle.velo_certify.specs.Chains.{IsIn, IsChain}
use Rattle.velo_certify.specs.Links.{list_of}

-- what was there stays
slice_get-more : (links more : List Link) (j : ℕ) (e : Link) → slice_get links j ≡ Some e → slice_get (links ++ more) j ≡ Some e
slice_get-more [] more j e h = absurd (let l = slice_get_within [] j e h in omega (arith, l))
slice_get-more (x ∷ links) more zero e h = h
slice_get-more (x ∷ links) more (suc j) e h = slice_get-more links more j e h

slice_get-last : (links : List Link) (e : Link) → slice_get (links ++ e ∷ []) (length links) ≡ Some e
slice_get-last [] e = refl
slice_get-last (x ∷ links) e = slice_get-last links e

IsChain-more : (links more : List Link) (k : ℕ) (xs : List ℕ) → IsChain links k xs → IsChain (links ++ more) k xs
IsChain-more links more k [] c = c
IsChain-more links more k (x ∷ xs) (j, is, (e, there, at, rest)) = (j, is, (e, slice_get-more links more j e there, at, IsChain-more links more e.next xs rest))

-- a list has grown by what was put in front of it, and the others are as they were
pub record IsAdded (old new : Links) (from to : ℕ) : Type 0 where
  pub count : length new.heads.items ≡ length old.heads.items
  pub grown : (a : ℕ) (xs : List ℕ) → list_of old a xs → (ys : List ℕ) × list_of new a ys × ((b : ℕ) → IsIn b xs → IsIn b ys) × ((b : ℕ) → IsIn b ys → IsIn b xs ⊎ ((b ≡ from) × (a ≡ to))) × (a ≡ to → IsIn from ys)

pub IsAdded-by : (old new : Links) (from to : ℕ) → to < length old.heads.items
    → new.links.items ≡ old.links.items ++ record { before = from; next = slice_index old.heads.items to } ∷ []
    → new.heads.items ≡ set old.heads.items to (length old.links.items + 1) → IsAdded old new from to
IsAdded-by old new from to within links heads = record {
  count = ap length heads ∙ length-set old.heads.items to (length old.links.items + 1);
  grown = λ a xs chain. ⊎_elim
      (λ same. (
        from ∷ xs,
        subst (λ n. IsChain new.links.items n (from ∷ xs)) (sym (ap (λ hs. slice_index hs a) heads ∙ (ap (slice_index (set old.heads.items to (length old.links.items + 1))) same ∙ get_or-set_same old.heads.items to (length old.links.items + 1) 0 within)))
            (subst (λ ls. IsChain ls (length old.links.items + 1) (from ∷ xs)) (sym links)
            (length old.links.items, omega arith, (link, slice_get-last old.links.items link, refl, IsChain-more old.links.items (link ∷ []) (slice_index old.heads.items to) xs (subst (λ b. IsChain old.links.items (slice_index old.heads.items b) xs) same chain)))),
        (λ b h. inr h),
        (λ b h. ⊎_elim (λ e. inr (sym e, same)) (λ g. inl g) h),
        (λ at. inl refl),
      ))
      (λ other. (
        xs,
        subst (λ n. IsChain new.links.items n xs) (sym (ap (λ hs. slice_index hs a) heads ∙ get_or-set_other old.heads.items to a (length old.links.items + 1) 0 other))
            (subst (λ ls. IsChain ls (slice_index old.heads.items a) xs) (sym links) (IsChain-more old.links.items (link ∷ []) (slice_index old.heads.items a) xs chain)),
        (λ b h. h),
        (λ b h. inl h),
        (λ at. absurd (other at)),
      ))
      (cases_eq a to);
}
  where
    link : Link
    link = record { before = from; next = slice_index old.heads.items to }

pub OnOk-both : {T E : Type 0} (P Q R : Type 0) (r : Result T E) → (P → Q → R) → OnOk r P → OnOk r Q → OnOk r R
OnOk-both P Q R (Ok x) f p q = f p q
OnOk-both P Q R (Err e) f p q = q
