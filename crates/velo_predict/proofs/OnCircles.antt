-- Rings, cycles, and who is in none.
use Rattle.std.proofs.Common.{◌≡◌, ℕ, zero, suc, ◌<◌, ◌≤◌, Bool, true, false, List, [], ◌∷◌, ◌++◌, length, drop, Some, refl, sym, ap, ◌∙◌, subst, arith, ⊎_elim, inl, inr}
use Rattle.std.specs.Prelude.{◌⊎◌, ◌||◌, ◌==◌, nat_eq, not, slice_get, Contains, IfOk, IsTrue, IsFalse, Result, Ok, Err}
use Rattle.std.specs.List.{IsDistinct, list_any}
use Rattle.std.proofs.lemmas.Bool.{both_ways, eq-eqb, eqb-true, ne_eqb, false≢true, false_from_ne_true, or_cases, or_left, or_right}
use Rattle.std.proofs.lemmas.Cmp.{nat_eq_equiv}
use Rattle.std.proofs.lemmas.Map.Keys.{IsDistinct-push}
use Rattle.std.proofs.lemmas.Map.Steps.{length-le_from_distinct_below}
use Rattle.std.proofs.lemmas.Map.Views.{Contains-from_any}
use Rattle.std.proofs.lemmas.Option.{none-some, same_Some}
use Rattle.velo_events.specs.declared.thread_set.ThreadSet.{ThreadSet}
use Rattle.velo_events.specs.Graph.{Path, IsCycle}
use Rattle.velo_events.specs.ThreadSets.{has_thread}
use Rattle.velo_events.proofs.OnWellFormed.{count_below, count_below-one_more}
use Rattle.velo_predict.specs.Circles.{IsRing, IsChain, IsAmong, IsInRow, IsWalk}

-- ---- chains and rings

module _ (R : ℕ → ℕ → Type 0) where
  pub chain_push : (xs : List ℕ) (a b : ℕ) → IsChain R (xs ++ a ∷ []) → R a b → IsChain R ((xs ++ a ∷ []) ++ b ∷ [])
  chain_push [] a b h r = (r, tt)
  chain_push (x ∷ []) a b h r = (h.0, (r, tt))
  chain_push (x ∷ y ∷ ys) a b h r = (h.0, chain_push (y ∷ ys) a b h.1 r)

  chain_tail : (x : ℕ) (xs : List ℕ) → IsChain R (x ∷ xs) → IsChain R xs
  chain_tail x [] h = tt
  chain_tail x (y ∷ ys) h = h.1

  chain_path : (a : ℕ) (xs : List ℕ) (b : ℕ) → IsChain R ((a ∷ xs) ++ b ∷ []) → Path R a xs b
  chain_path a [] b h = h.0
  chain_path a (c ∷ cs) b h = (h.0, chain_path c cs b h.1)

  -- a chain that comes back has a ring
  pub ring_from : (xs : List ℕ) (k a : ℕ) → slice_get xs k ≡ Some a → IsChain R (xs ++ a ∷ []) → IsRing R (drop k xs)
  ring_from [] k a at h = absurd (none-some a at)
  ring_from (x ∷ xs) zero a at h = chain_path x xs x (subst (λ n. IsChain R ((x ∷ xs) ++ n ∷ [])) (sym (same_Some x a at)) h)
  ring_from (x ∷ xs) (suc k) a at h = ring_from xs k a at (chain_tail x (xs ++ a ∷ []) h)

  -- a ring is a cycle, if that of one is written twice
  pub ring_cycle : (xs : List ℕ) → IsRing R xs → (cycle : List ℕ) × IsCycle R cycle
  ring_cycle [] r = absurd r
  ring_cycle (a ∷ []) r = (a ∷ a ∷ [], (r, r))
  ring_cycle (a ∷ b ∷ rest) r = (a ∷ b ∷ rest, r)

  path_next : (a : ℕ) (between : List ℕ) (b t : ℕ) → Path R a between b → (t ≡ a) ⊎ IsAmong t between → (u : ℕ) × R t u × ((u ≡ b) ⊎ IsAmong u between)
  path_next a [] b t p among = ⊎_elim (λ its. (b, subst (λ s. R s b) (sym its) p, inl refl)) (λ none. absurd none) among
  path_next a (c ∷ cs) b t p among =
      ⊎_elim (λ its. (c, subst (λ s. R s c) (sym its) p.0, inr (inl refl)))
      (λ later. let n = path_next c cs b t p.1 later in (n.0, n.1, ⊎_elim (λ last. inl last) (λ inner. inr (inr inner)) n.2)) among

  -- whoever is in a cycle is related to one who is
  pub cycle_next : (cycle : List ℕ) (t : ℕ) → IsCycle R cycle → IsAmong t cycle → (u : ℕ) × R t u × IsAmong u cycle
  cycle_next [] t c among = absurd c
  cycle_next (a ∷ []) t c among = absurd c
  cycle_next (a ∷ b ∷ rest) t c among = path_next a (b ∷ rest) a t c among

  pub cycle_has : (cycle : List ℕ) → IsCycle R cycle → (t : ℕ) × IsAmong t cycle
  cycle_has [] c = absurd c
  cycle_has (a ∷ rest) c = (a, inl refl)

pub ring_alike : (R S : ℕ → ℕ → Type 0) → ((a b : ℕ) → R a b → S a b) → (xs : List ℕ) → IsRing R xs → IsRing S xs
ring_alike R S f [] r = r
ring_alike R S f (a ∷ rest) r = path a rest a r
  where
    path : (a : ℕ) (between : List ℕ) (b : ℕ) → Path R a between b → Path S a between b
    path a [] b p = f a b p
    path a (c ∷ cs) b p = (f a c p.0, path c cs b p.1)

pub cycle_alike : (R S : ℕ → ℕ → Type 0) → ((a b : ℕ) → R a b → S a b) → (cycle : List ℕ) → IsCycle R cycle → IsCycle S cycle
cycle_alike R S f [] c = c
cycle_alike R S f (a ∷ []) c = c
cycle_alike R S f (a ∷ b ∷ rest) c = ring_alike R S f (a ∷ b ∷ rest) c

-- ---- rows

pub row_within : (rows : List ThreadSet) (t u : ℕ) → IsInRow rows t u → t < length rows
row_within [] t u h = absurd (false≢true h)
row_within (row ∷ rows) zero u h = omega arith
row_within (row ∷ rows) (suc t) u h = omega (arith, row_within rows t u h)

-- ---- those that are out

pub in_none_after : (rows : List ThreadSet) (out out' : ThreadSet) (t : ℕ) →
    ((cycle : List ℕ) → IsCycle (IsInRow rows) cycle → (s : ℕ) → IsAmong s cycle → IsFalse (has_thread out s)) →
    ((u : ℕ) → IsInRow rows t u → IsTrue (has_thread out u)) →
    ((u : ℕ) → has_thread out' u ≡ (t == u || has_thread out u)) →
    (cycle : List ℕ) → IsCycle (IsInRow rows) cycle → (s : ℕ) → IsAmong s cycle → IsFalse (has_thread out' s)
in_none_after rows out out' t none stuck members cycle c s among = decide (t == s) refl
  where
    decide : (b : Bool) → (t == s) ≡ b → IsFalse (has_thread out' s)
    decide true its =
        let n = cycle_next (IsInRow rows) cycle s c among in
        let same : t ≡ s = eqb-true t s its in
        absurd (both_ways (has_thread out n.0) (none cycle c n.0 n.2) (stuck n.0 (subst (λ k. IsInRow rows k n.0) (sym same) n.1)))
    decide false other = members s ∙ (ap (λ b. b || has_thread out s) other ∙ none cycle c s among)

pub fewer_left : (n t : ℕ) (out out' : ThreadSet) → t < n → IsFalse (has_thread out t) → ((u : ℕ) → has_thread out' u ≡ (t == u || has_thread out u)) → count_below n (λ u. not (has_thread out' u)) < count_below n (λ u. not (has_thread out u))
fewer_left n t out out' within left members =
    let more = count_below-one_more n (λ u. not (has_thread out u)) (λ u. not (has_thread out' u)) t within (ap not left) (ap not (members t ∙ ap (λ b. b || has_thread out t) (itself t))) (λ k other. ap not (sym (members k ∙ ap (λ b. b || has_thread out k) (ne_eqb t k (λ same. other (sym same)))))) in
    omega (arith, more)
  where
    itself : (t : ℕ) → (t == t) ≡ true
    itself t = eq-eqb t t refl

-- ---- a walk

pub IsWalk-start : (rows : List ThreadSet) (out : ThreadSet) (path : List ℕ) (first : ℕ) → path ≡ [] → first < length rows → IsFalse (has_thread out first) → IsWalk rows out path first
unfolding IsDistinct
IsWalk-start rows out path first empty within left = subst (λ xs. IsWalk rows out xs first) (sym empty) (record {
  within = within;
  left = left;
  chain = tt;
  below = λ t h. absurd (false≢true h);
  distinct = tt;
})

not_among : (path : List ℕ) (t : ℕ) → ¬ Contains path t → IsFalse (list_any (nat_eq t) path)
not_among path t none = false_from_ne_true _ (λ some. none (Contains-from_any {eq = nat_eq} (λ x y h. eqb-true x y h) t path some))

pub IsWalk-step : (rows : List ThreadSet) (out : ThreadSet) (path longer : List ℕ) (next other : ℕ) → IsWalk rows out path next → ¬ Contains path next → IsInRow rows next other → IsFalse (has_thread out other) → other < length rows → longer ≡ path ++ next ∷ [] → IsWalk rows out longer other
IsWalk-step rows out path longer next other walk new waits left within same = subst (λ xs. IsWalk rows out xs other) (sym same) (record {
  within = within;
  left = left;
  chain = chain_push (IsInRow rows) path next other walk.chain waits;
  below = λ t h. ⊎_elim (λ before. walk.below t before) (λ now. subst (λ n. n < length rows) (sym (eqb-true t next now)) walk.within) (any_push path next t h);
  distinct = IsDistinct-push nat_eq_equiv path next walk.distinct (not_among path next new);
})
  where
    any_push : (xs : List ℕ) (y t : ℕ) → IsTrue (list_any (nat_eq t) (xs ++ y ∷ [])) → IsTrue (list_any (nat_eq t) xs) ⊎ IsTrue (nat_eq t y)
    any_push [] y t h = ⊎_elim (λ here. inr here) (λ none. absurd (false≢true none)) (or_cases (nat_eq t y) false h)
    any_push (x ∷ xs) y t h = ⊎_elim (λ here. inl (or_left (nat_eq t x) (list_any (nat_eq t) xs) here)) (λ later. ⊎_elim (λ old. inl (or_right (nat_eq t x) (list_any (nat_eq t) xs) old)) (λ new. inr new) (any_push xs y t later)) (or_cases (nat_eq t x) (list_any (nat_eq t) (xs ++ y ∷ [])) h)

-- it is no longer than there are threads
pub IsWalk-few : (rows : List ThreadSet) (out : ThreadSet) (path : List ℕ) (next : ℕ) → IsWalk rows out path next → length path ≤ length rows
IsWalk-few rows out path next walk = length-le_from_distinct_below path (length rows) walk.distinct walk.below

pub IsWalk-ring : (rows : List ThreadSet) (out : ThreadSet) (path : List ℕ) (next k : ℕ) → IsWalk rows out path next → slice_get path k ≡ Some next → IsRing (IsInRow rows) (drop k path)
IsWalk-ring rows out path next k walk at = ring_from (IsInRow rows) path k next at walk.chain

pub if_ok_map : {A E : Type 0} (r : Result A E) (P Q : A → Type 0) → ((a : A) → P a → Q a) → IfOk r P → IfOk r Q
if_ok_map (Ok a) P Q f h = f a h
if_ok_map (Err e) P Q f h = tt
