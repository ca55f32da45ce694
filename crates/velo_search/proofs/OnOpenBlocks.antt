-- Open blocks, the innermost last: how many stay, and the parts of operations one after another.
use Rattle.std.proofs.Common.{◌≡◌, ℕ, ◌+◌, ◌<◌, ◌≤◌, Bool, true, false, not, cond, List, [], ◌∷◌, ◌++◌, length, map, reverse, Some, refl, sym, ap, ◌∙◌, subst, arith, ⊎_elim}
use Rattle.std.specs.Prelude.{◌||◌, count_by, nat_lt, slice_get, unwrap_or}
use Rattle.std.specs.List.{list_any}
use Rattle.std.proofs.lemmas.Bool.{cases_lt, lt-ltb}
use Rattle.std.proofs.lemmas.List.{reverse-append}
use Rattle.std.proofs.lemmas.List.Folds.{list_any-append}
use Rattle.std.proofs.lemmas.List.Sums.{sum_by-append, sum_by-cons}
use Rattle.velo_events.specs.declared.event.Kind.{Kind}
use Rattle.velo_search.specs.Parts.{Part, LeftOut, part_at}
use Rattle.velo_search.specs.Runs.{script_of}
use Rattle.velo_search.proofs.OnNoting.{list-pushed_before, list-pushed_here}

-- ---- how many stay

count-push : (outs : List Bool) (out : Bool) → count_by not (outs ++ out ∷ []) ≡ count_by not outs + count_by not (out ∷ [])
count-push outs out = sum_by-append (λ (b : Bool). cond {A = ℕ} (not b) 1 0) outs (out ∷ [])

-- some block stays
pub any-count : (outs : List Bool) → list_any not (reverse outs) ≡ nat_lt 0 (count_by not outs)
any-count [] = refl
any-count (out ∷ outs) =
    ap (list_any not) (reverse-append (out ∷ []) outs)
    ∙ (list_any-append not (reverse outs) (out ∷ [])
    ∙ (ap (λ b. b || list_any not (out ∷ [])) (any-count outs) ∙ (at out (count_by not outs) ∙ ap (nat_lt 0) (sym (sum_by-cons (λ (b : Bool). cond {A = ℕ} (not b) 1 0) out outs)))))
  where
    or_none : (b : Bool) → (b || false) ≡ b
    or_none true = refl
    or_none false = refl

    or_some : (b : Bool) → (b || true) ≡ true
    or_some true = refl
    or_some false = refl

    at : (b : Bool) (n : ℕ) → (nat_lt 0 n || list_any not (b ∷ [])) ≡ nat_lt 0 (cond {A = ℕ} (not b) 1 0 + n)
    at true n = or_none (nat_lt 0 n) ∙ ap (nat_lt 0) (let same : n ≡ 0 + n = omega arith in same)
    at false n = or_some (nat_lt 0 n) ∙ sym (lt-ltb 0 (1 + n) (omega arith))

-- ---- the parts of one thread more

module _ {V : Type 0} (items : V → List Part) (scripts : List (List Kind)) (parts : List V) (own : V) where
  pub parts-next : (P : ℕ → ℕ → Kind → Part → Type 0) →
      ((t i : ℕ) (k : Kind) → t < length parts → slice_get (script_of scripts t) i ≡ Some k → P t i k (part_at (map items parts) t i)) →
      ((i : ℕ) (k : Kind) → slice_get (script_of scripts (length parts)) i ≡ Some k → P (length parts) i k (unwrap_or (slice_get (items own) i) LeftOut)) →
      (t i : ℕ) (k : Kind) → t < length parts + 1 → slice_get (script_of scripts t) i ≡ Some k → P t i k (part_at (map items (parts ++ own ∷ [])) t i)
  parts-next P before here t i k below there = ⊎_elim
      (λ (earlier : t < length parts). subst (λ xs. P t i k (unwrap_or (slice_get xs i) LeftOut)) (sym (list-pushed_before items parts t own earlier)) (before t i k earlier there))
      (λ (past : length parts ≤ t).
      let same : length parts ≡ t = omega (arith, past, below) in
      subst (λ u. P u i k (part_at (map items (parts ++ own ∷ [])) u i)) same
      (subst (λ xs. P (length parts) i k (unwrap_or (slice_get xs i) LeftOut)) (sym (list-pushed_here items parts own))
      (here i k (ap (λ u. slice_get (script_of scripts u) i) same ∙ there))))
      (cases_lt t (length parts))
