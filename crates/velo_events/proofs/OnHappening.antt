-- Which positions happen after a given one: a test that decides it, and what follows from the test.
use Rattle.std.proofs.Common.{◌≡◌, ℕ, zero, suc, ◌<◌, ◌≤◌, Bool, List, [], ◌∷◌, ◌++◌, length, refl, sym, ap, ◌∙◌, subst, arith, ⊎_elim, inl, inr}
use Rattle.std.specs.Prelude.{◌⊎◌, ◌↔◌, ◌&&◌, ◌||◌, ◌==◌, nat_lt, IsTrue}
use Rattle.std.proofs.lemmas.Bool.{cases_eq, cases_lt, and_parts, and_from, or_cases, or_left, or_right, eqb-true, eq-eqb, ltb-true, lt-ltb}
use Rattle.velo_events.specs.declared.event.Event.{Event}
use Rattle.velo_events.specs.Event.{thread_of, is_by}
use Rattle.velo_events.specs.Block.{any_below, passes_at, owner, IsTransaction}
use Rattle.velo_events.specs.Graph.{Path, Reaches, conflict_at, Edge, ConflictsInOrder, HappensBefore}
use Rattle.velo_events.proofs.OnBlocks.{any_below-at, any_below-some}
use Rattle.velo_events.proofs.OnScans.{passes_at-event}
use Rattle.velo_events.proofs.OnGraphs.{Path-rises, Reaches-trans, Reaches-map, conflict_at-append}
use Rattle.velo_events.proofs.OnReorderings.{conflict_at-within}

-- i is b, or happens after it: position b reaches i by conflicts along rising positions
abbrev pub IsFrom : List Event → ℕ → ℕ → Type 0
IsFrom trace b i = Reaches (ConflictsInOrder trace) b i

-- the same as a test that follows at most n conflicts
unfoldable pub is_from_within : List Event → ℕ → ℕ → ℕ → Bool
is_from_within trace b zero i = i == b
is_from_within trace b (suc n) i =
    is_from_within trace b n i || any_below i (λ j. is_from_within trace b n j && conflict_at trace j i)

-- and as a test: a chain that ends at i has at most i conflicts
abbrev pub is_from : List Event → ℕ → ℕ → Bool
is_from trace b i = is_from_within trace b i i

is_from_within-next : (trace : List Event) (b n i : ℕ) → IsTrue (is_from_within trace b n i) → IsTrue (is_from_within trace b (suc n) i)
unfolding is_from_within
is_from_within-next trace b n i h = or_left _ _ h

is_from_within-more : (trace : List Event) (b n m i : ℕ) → n ≤ m → IsTrue (is_from_within trace b n i) → IsTrue (is_from_within trace b m i)
is_from_within-more trace b n zero i l h = subst (λ k. IsTrue (is_from_within trace b k i)) (let same : n ≡ 0 = omega arith in same) h
is_from_within-more trace b n (suc m) i l h =
    ⊎_elim (λ less. is_from_within-next trace b m i (is_from_within-more trace b n m i (omega arith) h))
    (λ at. subst (λ k. IsTrue (is_from_within trace b k i)) (let same : n ≡ suc m = omega (arith, at, l) in same) h)
    (cases_lt n (suc m))

is_from_within-step : (trace : List Event) (b n i j : ℕ) → i < j → IsTrue (conflict_at trace i j) → IsTrue (is_from_within trace b n i) → IsTrue (is_from_within trace b (suc n) j)
unfolding is_from_within
is_from_within-step trace b n i j l c h = or_right _ _ (any_below-at j _ i l (and_from _ _ h c))

is_from_within-start : (trace : List Event) (b : ℕ) → IsTrue (is_from_within trace b 0 b)
unfolding is_from_within
is_from_within-start trace b = eq-eqb b b refl

-- b is from b
pub is_from-start : (trace : List Event) (b : ℕ) → IsTrue (is_from trace b b)
is_from-start trace b = is_from_within-more trace b 0 b b (omega arith) (is_from_within-start trace b)

-- what conflicts with an earlier position that is from b is from b
pub is_from-step : (trace : List Event) (b i j : ℕ) → ConflictsInOrder trace i j → IsTrue (is_from trace b i) → IsTrue (is_from trace b j)
is_from-step trace b i zero c h = absurd (omega (arith, c.0))
is_from-step trace b i (suc j) c h =
    is_from_within-step trace b j i (suc j) c.0 c.1 (is_from_within-more trace b i j i (omega (arith, c.0)) h)

is_from-path : (trace : List Event) (b i : ℕ) (between : List ℕ) (j : ℕ) → Path (ConflictsInOrder trace) i between j → IsTrue (is_from trace b i) → IsTrue (is_from trace b j)
is_from-path trace b i [] j p h = is_from-step trace b i j p h
is_from-path trace b i (k ∷ ks) j p h = is_from-path trace b k ks j p.1 (is_from-step trace b i k p.0 h)

-- the test passes what is from b
pub is_from-of : (trace : List Event) (b i : ℕ) → IsFrom trace b i → IsTrue (is_from trace b i)
is_from-of trace b i r =
    ⊎_elim (λ at. subst (λ k. IsTrue (is_from trace b k)) at (is_from-start trace b)) (λ p. is_from-path trace b b p.0 i p.1 (is_from-start trace b)) r

is_from_within-sound : (trace : List Event) (b n i : ℕ) → IsTrue (is_from_within trace b n i) → IsFrom trace b i
unfolding is_from_within
is_from_within-sound trace b zero i h = inl (sym (eqb-true i b h))
is_from_within-sound trace b (suc n) i h =
    ⊎_elim (λ before. is_from_within-sound trace b n i before)
    (λ some.
    let w = any_below-some i (λ j. is_from_within trace b n j && conflict_at trace j i) some in
    let p = and_parts _ _ w.2 in
    Reaches-trans (ConflictsInOrder trace) b w.0 i (is_from_within-sound trace b n w.0 p.0) (inr ([], (w.1, p.1))))
    (or_cases _ _ h)

-- what it passes is from b
pub is_from-sound : (trace : List Event) (b i : ℕ) → IsTrue (is_from trace b i) → IsFrom trace b i
is_from-sound trace b i h = is_from_within-sound trace b i i h

-- what happens after a position stands after it
pub HappensBefore-lt : (trace : List Event) (i j : ℕ) → HappensBefore trace i j → i < j
HappensBefore-lt trace i j h = Path-rises (ConflictsInOrder trace) (λ k. k) (λ a b c. c.0) i h.0 j h.1

Path-within : (trace : List Event) (i : ℕ) (between : List ℕ) (j : ℕ) → Path (ConflictsInOrder trace) i between j → (i < length trace) × (j < length trace)
Path-within trace i [] j p = conflict_at-within trace i j p.1
Path-within trace i (k ∷ ks) j p = ((conflict_at-within trace i k p.0.1).0, (Path-within trace k ks j p.1).1)

-- and both are in the trace
pub HappensBefore-within : (trace : List Event) (i j : ℕ) → HappensBefore trace i j → (i < length trace) × (j < length trace)
HappensBefore-within trace i j h = Path-within trace i h.0 j h.1

-- what is from b does not stand before it
pub IsFrom-le : (trace : List Event) (b i : ℕ) → IsFrom trace b i → b ≤ i
IsFrom-le trace b i r = ⊎_elim (λ at. omega (arith, at)) (λ p. omega (arith, HappensBefore-lt trace b i p)) r

-- to happen before is decided
pub HappensBefore-decides : (trace : List Event) (i j : ℕ) → IsTrue (nat_lt i j && is_from trace i j) ↔ HappensBefore trace i j
HappensBefore-decides trace i j = (
  (λ h. let p = and_parts (nat_lt i j) (is_from trace i j) h in
      ⊎_elim (λ at. absurd (omega (arith, at, ltb-true i j p.0))) (λ before. before) (is_from-sound trace i j p.1)),
  (λ h. and_from _ _ (lt-ltb i j (HappensBefore-lt trace i j h)) (is_from-of trace i j (inr h))),
)

-- ---- by the events at the positions

-- earlier and later positions of one thread are in conflict
pub ConflictsInOrder-same_thread : (trace : List Event) (t i j : ℕ) → i < j → IsTrue (passes_at trace (is_by t) i) → IsTrue (passes_at trace (is_by t) j) → ConflictsInOrder trace i j
unfolding conflict_at
ConflictsInOrder-same_thread trace t i j l own_i own_j =
    let e = passes_at-event trace (is_by t) i own_i in
    let f = passes_at-event trace (is_by t) j own_j in
    let same : IsTrue (thread_of e.0 == thread_of f.0) = eq-eqb _ _ (eqb-true _ _ e.2 ∙ sym (eqb-true _ _ f.2)) in
    (l, rw (e.1, f.1) (or_left _ _ (or_left _ _ (or_left _ _ same))))

-- what happens after a position leads, in the graph, from its transaction to the other's
pub ConflictsInOrder-reaches : (trace : List Event) (i j : ℕ) → ConflictsInOrder trace i j → Reaches (Edge trace) (owner trace i) (owner trace j)
ConflictsInOrder-reaches trace i j c = ⊎_elim (λ same. inl same)
    (λ differ. inr ([], record { from = i; to = j; in_order = c.0; in_trace = (conflict_at-within trace i j c.1).1; in_conflict = c.1; of_from = refl; of_to = refl; differ = differ }))
    (cases_eq (owner trace i) (owner trace j))

Path-reaches : (trace : List Event) (i : ℕ) (between : List ℕ) (j : ℕ) → Path (ConflictsInOrder trace) i between j → Reaches (Edge trace) (owner trace i) (owner trace j)
Path-reaches trace i [] j p = ConflictsInOrder-reaches trace i j p
Path-reaches trace i (k ∷ ks) j p =
    Reaches-trans (Edge trace) (owner trace i) (owner trace k) (owner trace j) (ConflictsInOrder-reaches trace i k p.0) (Path-reaches trace k ks j p.1)

-- so the transaction of a position reaches that of each position from it
pub IsFrom-reaches : (trace : List Event) (i j : ℕ) → IsFrom trace i j → Reaches (Edge trace) (owner trace i) (owner trace j)
IsFrom-reaches trace i j r = ⊎_elim (λ at. inl (ap (owner trace) at)) (λ p. Path-reaches trace i p.0 j p.1) r

-- ---- chains in a longer trace

-- a link stays
pub ConflictsInOrder-append : (trace more : List Event) (i j : ℕ) → ConflictsInOrder trace i j → ConflictsInOrder (trace ++ more) i j
ConflictsInOrder-append trace more i j c =
    let within = conflict_at-within trace i j c.1 in
    (c.0, conflict_at-append trace more i j within.0 within.1 ∙ c.1)

-- and was there, if its later position was
pub ConflictsInOrder-before : (trace more : List Event) (i j : ℕ) → j < length trace → ConflictsInOrder (trace ++ more) i j → ConflictsInOrder trace i j
ConflictsInOrder-before trace more i j l c = (c.0, sym (conflict_at-append trace more i j (omega (arith, l, c.0)) l) ∙ c.1)

-- so was a whole chain
pub Path-before : (trace more : List Event) (i : ℕ) (between : List ℕ) (j : ℕ) → j < length trace → Path (ConflictsInOrder (trace ++ more)) i between j → Path (ConflictsInOrder trace) i between j
Path-before trace more i [] j l p = ConflictsInOrder-before trace more i j l p
Path-before trace more i (k ∷ ks) j l p =
    let later = HappensBefore-lt (trace ++ more) k j (ks, p.1) in
    (ConflictsInOrder-before trace more i k (omega (arith, later, l)) p.0, Path-before trace more k ks j l p.1)

-- which of the first positions are from b does not change
pub IsFrom-append : (trace more : List Event) (b i : ℕ) → IsFrom trace b i → IsFrom (trace ++ more) b i
IsFrom-append trace more b i r = Reaches-map (ConflictsInOrder trace) (ConflictsInOrder (trace ++ more)) (ConflictsInOrder-append trace more) b i r

-- and is as it was
pub IsFrom-before : (trace more : List Event) (b i : ℕ) → i < length trace → IsFrom (trace ++ more) b i → IsFrom trace b i
IsFrom-before trace more b i l r = ⊎_elim (λ at. inl at) (λ p. inr (p.0, Path-before trace more b p.0 i l p.1)) r

-- ---- the last link

last_link : (R : ℕ → ℕ → Type 0) (a : ℕ) (between : List ℕ) (c : ℕ) → Path R a between c → (j : ℕ) × Reaches R a j × R j c
last_link R a [] c p = (a, inl refl, p)
last_link R a (d ∷ ds) c p = let w = last_link R d ds c p.1 in (w.0, Reaches-trans R a d w.0 (inr ([], p.0)) w.1, w.2)

-- what is from b is b, or conflicts with an earlier position that is
pub IsFrom-last : (trace : List Event) (b i : ℕ) → IsFrom trace b i → (b ≡ i) ⊎ ((j : ℕ) × IsFrom trace b j × ConflictsInOrder trace j i)
IsFrom-last trace b i r = ⊎_elim (λ at. inl at) (λ p. inr (last_link (ConflictsInOrder trace) b p.0 i p.1)) r

-- and the other way round
pub IsFrom-next : (trace : List Event) (b j i : ℕ) → IsFrom trace b j → ConflictsInOrder trace j i → IsFrom trace b i
IsFrom-next trace b j i r c = Reaches-trans (ConflictsInOrder trace) b j i r (inr ([], c))

-- of two positions of one thread the later is from the earlier
pub IsFrom-same_thread : (trace : List Event) (t b i : ℕ) → b ≤ i → IsTrue (passes_at trace (is_by t) b) → IsTrue (passes_at trace (is_by t) i) → IsFrom trace b i
IsFrom-same_thread trace t b i l own_b own_i =
    ⊎_elim (λ later. inr ([], ConflictsInOrder-same_thread trace t b i later own_b own_i)) (λ at. inl (let e : b ≡ i = omega (arith, at, l) in e)) (cases_lt b i)

-- so an earlier transaction of a thread reaches a later one
pub Reaches-same_thread : (trace : List Event) (t a b : ℕ) → IsTransaction trace a → IsTransaction trace b → IsTrue (passes_at trace (is_by t) a) → IsTrue (passes_at trace (is_by t) b) → a ≤ b → Reaches (Edge trace) a b
Reaches-same_thread trace t a b ta tb own_a own_b l =
    subst (λ z. Reaches (Edge trace) z b) ta.first
    (subst (λ z. Reaches (Edge trace) (owner trace a) z) tb.first (IsFrom-reaches trace a b (IsFrom-same_thread trace t a b l own_a own_b)))
