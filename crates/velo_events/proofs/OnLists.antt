-- Elements of a list by their places, after a write and in a list of one element.
use Rattle.std.proofs.Common.{◌≡◌, ◌≢◌, ℕ, zero, suc, ◌<◌, List, [], ◌∷◌, length, get_or, Some, set, replicate, refl, sym, ap, ◌∙◌, arith, ⊎_elim}
use Rattle.std.specs.Prelude.{◌==◌, slice_get, if◌then◌else◌}
use Rattle.std.proofs.lemmas.Bool.{cases_eq, ne_eqb, eq-eqb}
use Rattle.std.proofs.lemmas.List.{get_or-set_same, get_or-set_other}

pub slice_get-set_same : {X : Type 0} (xs : List X) (k : ℕ) (x : X) → k < length xs → slice_get (set xs k x) k ≡ Some x
slice_get-set_same [] k x lt = absurd (omega arith)
slice_get-set_same (y ∷ xs) zero x lt = refl
slice_get-set_same (y ∷ xs) (suc k) x lt = slice_get-set_same xs k x (omega arith)

pub slice_get-set_other : {X : Type 0} (xs : List X) (k j : ℕ) (x : X) → k ≢ j → slice_get (set xs k x) j ≡ slice_get xs j
slice_get-set_other [] k j x ne = refl
slice_get-set_other (y ∷ xs) zero zero x ne = absurd (ne refl)
slice_get-set_other (y ∷ xs) zero (suc j) x ne = refl
slice_get-set_other (y ∷ xs) (suc k) zero x ne = refl
slice_get-set_other (y ∷ xs) (suc k) (suc j) x ne = slice_get-set_other xs k j x (λ e. ne (ap suc e))

pub slice_get-replicate : {X : Type 0} (n k : ℕ) (x : X) → k < n → slice_get (replicate n x) k ≡ Some x
slice_get-replicate zero k x lt = absurd (omega arith)
slice_get-replicate (suc n) zero x lt = refl
slice_get-replicate (suc n) (suc k) x lt = slice_get-replicate n k x (omega arith)

pub get_or-set : {X : Type 0} (xs : List X) (i j : ℕ) (v d : X) → i < length xs → get_or (set xs i v) j d ≡ (if i == j then v else get_or xs j d)
get_or-set xs i j v d within =
    ⊎_elim
    (λ at. ap (λ k. get_or (set xs i v) k d) (sym at) ∙ (get_or-set_same xs i v d within ∙ ap (λ b. if b then v else get_or xs j d) (sym (eq-eqb i j at))))
    (λ off. get_or-set_other xs i j v d (λ e. off (sym e)) ∙ ap (λ b. if b then v else get_or xs j d) (sym (ne_eqb i j off)))
    (cases_eq i j)
