-- The positions of a trace as a list, what a filter keeps of a list, and lists with some elements brought to the front.
use Rattle.std.proofs.Common.{◌≡◌, ℕ, zero, suc, ◌+◌, ◌<◌, Bool, cond, not, List, [], ◌∷◌, ◌++◌, length, sym, ap, ◌∙◌, subst, arith, ⊎_elim}
use Rattle.std.specs.Prelude.{◌↔◌, ◌&&◌, ◌==◌, nat_le, nat_lt, if◌then◌else◌, count_by, filter, slice_index_or, IsTrue, IsFalse, All, AllPairs, Contains}
use Rattle.std.specs.List.{range_with_len}
use Rattle.std.specs.List.Sorted.{IsStrictlyIncreasing}
use Rattle.std.proofs.lemmas.List.Sums.{sum_by-cons}
use Rattle.std.proofs.lemmas.List.Elements.{All-append, All-contains, All-contains_itself, All-filter, filter_passes}
use Rattle.std.proofs.lemmas.List.Kept.{AllPairs-cons, AllPairs-filter}
use Rattle.std.proofs.lemmas.List.FromFn.{length-range_with_len, get_or-range_with_len}
use Rattle.std.proofs.lemmas.Bool.{cases_eq, cases_lt, and_parts, and_from, and_left, not-true, eq-eqb, ne_eqb, le-leb, leb-true, lt-ltb, ltb-true, lt-leb, cond-true, cond_both, both_ways, false_from_ne_true}
use Rattle.velo_events.specs.declared.event.Event.{Event}
use Rattle.velo_events.specs.Block.{positions}

-- ---- all positions, rising

count_range : (a n i : ℕ) → count_by (λ k. k == i) (range_with_len a n) ≡ cond (nat_le a i && nat_lt i (a + n)) 1 0
count_range a zero i = sym (ap (λ b. cond {A = ℕ} b 1 0) (false_from_ne_true _ (λ h.
    let p = and_parts (nat_le a i) (nat_lt i (a + 0)) h in
    omega (arith, leb-true a i p.0, ltb-true i (a + 0) p.1))))
count_range a (suc n) i =
    let rest = count_range (a + 1) n i in
    let step = sum_by-cons (λ k. cond {A = ℕ} (k == i) 1 0) a (range_with_len (a + 1) n) in
    ⊎_elim
    (λ here.
    let one : cond {A = ℕ} (a == i) 1 0 ≡ 1 = ap (λ b. cond {A = ℕ} b 1 0) (eq-eqb a i here) in
    let none : cond {A = ℕ} (nat_le (a + 1) i && nat_lt i (a + 1 + n)) 1 0 ≡ 0 = ap (λ b. cond {A = ℕ} b 1 0) (and_left _ _ (lt-leb (a + 1) i (omega (arith, here)))) in
    let all : cond {A = ℕ} (nat_le a i && nat_lt i (a + suc n)) 1 0 ≡ 1 = ap (λ b. cond {A = ℕ} b 1 0) (and_from _ _ (le-leb a i (omega (arith, here))) (lt-ltb i (a + suc n) (omega (arith, here)))) in
    omega (arith, rest, step, one, none, all))
    (λ other.
    let none : cond {A = ℕ} (a == i) 1 0 ≡ 0 = ap (λ b. cond {A = ℕ} b 1 0) (ne_eqb a i other) in
    let all : cond {A = ℕ} (nat_le (a + 1) i && nat_lt i (a + 1 + n)) 1 0 ≡ cond {A = ℕ} (nat_le a i && nat_lt i (a + suc n)) 1 0 = ap (λ b. cond {A = ℕ} b 1 0) (same other) in
    omega (arith, rest, step, none, all))
    (cases_eq a i)
  where
    same : (a ≡ i → ⊥) → (nat_le (a + 1) i && nat_lt i (a + 1 + n)) ≡ (nat_le a i && nat_lt i (a + suc n))
    same other = ⊎_elim
        (λ l. rw (le-leb (a + 1) i (omega arith), le-leb a i (omega arith)) (ap (nat_lt i) (let e : a + 1 + n ≡ a + suc n = omega arith in e)))
        (λ g. let below : i < a = ⊎_elim (λ l. l) (λ m. absurd (other (omega arith))) (cases_lt i a) in
        and_left _ _ (lt-leb (a + 1) i (omega arith)) ∙ sym (and_left _ _ (lt-leb a i below)))
        (cases_lt a i)

-- each position once, and in rising order
pub count_positions : (trace : List Event) (i : ℕ) → count_by (λ k. k == i) (positions trace) ≡ (if nat_lt i (length trace) then 1 else 0)
count_positions trace i =
    count_range 0 (length trace) i
    ∙ ap (λ b. cond {A = ℕ} b 1 0) (rw (le-leb 0 i (omega arith)) (ap (nat_lt i) (let all : 0 + length trace ≡ length trace = omega arith in all)))

-- each is below all later ones
pub positions-rise : (trace : List Event) → AllPairs (λ x y. x < y) (positions trace)
positions-rise trace i j d l within =
    let all = length-range_with_len 0 (length trace) in
    omega (arith, get_or-range_with_len 0 (length trace) i d (omega (arith, all, within)), get_or-range_with_len 0 (length trace) j d (omega (arith, all, within)))

-- the same of neighbours
pub positions-increase : (trace : List Event) → IsStrictlyIncreasing (positions trace)
positions-increase trace k l = positions-rise trace k (k + 1) 0 (omega arith) l

-- they are all there
pub Contains-positions : (trace : List Event) (i : ℕ) → i < length trace → Contains (positions trace) i
Contains-positions trace i l = (i, omega (arith, l, length-range_with_len 0 (length trace)), omega (arith, get_or-range_with_len 0 (length trace) i i l))

-- ---- what a filter keeps

filter-contains : (p : ℕ → Bool) (xs : List ℕ) (y k : ℕ) → IsTrue (p y) → k < length xs → slice_index_or xs k y ≡ y → Contains (filter p xs) y
filter-contains p [] y k h l e = absurd (omega arith)
filter-contains p (x ∷ xs) y zero h l e =
    subst (λ zs. Contains zs y) (sym (cond-true (p x) (x ∷ filter p xs) (filter p xs) (ap p e ∙ h))) (0, omega arith, e)
filter-contains p (x ∷ xs) y (suc k) h l e =
    let w = filter-contains p xs y k h (omega arith) e in
    cond_both (p x) (x ∷ filter p xs) (filter p xs) (λ zs. Contains zs y) (λ is. (suc w.0, omega (arith, w.1), w.2)) (λ is. w)

-- what a filter keeps, and only this
pub Contains-filter : (p : ℕ → Bool) (xs : List ℕ) (y : ℕ) → Contains (filter p xs) y ↔ (Contains xs y × IsTrue (p y))
Contains-filter p xs y = (
  (λ w. (All-contains (λ x. Contains xs x) (filter p xs) y (All-filter p (λ x. Contains xs x) xs (All-contains_itself xs)) w, All-contains (λ x. IsTrue (p x)) (filter p xs) y (filter_passes p xs) w)),
  (λ w. filter-contains p xs y w.0.0 w.1 w.0.1 w.0.2),
)

-- ---- some elements brought to the front

-- a relation of each to all later ones holds in a joined list, where it holds in both parts and across
pub AllPairs-append : (R : ℕ → ℕ → Type 0) (xs ys : List ℕ) → AllPairs R xs → AllPairs R ys → All (λ x. All (R x) ys) xs → AllPairs R (xs ++ ys)
AllPairs-append R [] ys first second across = second
AllPairs-append R (x ∷ xs) ys first second across =
    AllPairs-cons R x (xs ++ ys) (All-append (R x) xs ys (λ k d l. first 0 (suc k) d (omega arith) (omega arith)) (across 0 x (omega arith)))
    (AllPairs-append R xs ys (λ i j d l within. first (suc i) (suc j) d (omega arith) (omega arith)) second (λ k d l. across (suc k) d (omega arith)))

-- those that pass before those that do not, each in their order
abbrev pub to_front : (ℕ → Bool) → List ℕ → List ℕ
to_front p xs = filter p xs ++ filter (λ x. not (p x)) xs

-- a relation of each to all later ones stays where it holds from those that pass to those that do not
pub AllPairs-to_front : (R : ℕ → ℕ → Type 0) (p : ℕ → Bool) (xs : List ℕ) → AllPairs R xs → ((x y : ℕ) → IsTrue (p x) → IsFalse (p y) → R x y) → AllPairs R (to_front p xs)
AllPairs-to_front R p xs h across =
    AllPairs-append R (filter p xs) (filter (λ x. not (p x)) xs) (AllPairs-filter R p xs h) (AllPairs-filter R (λ x. not (p x)) xs h)
    (λ k d l j c m. across _ _ (filter_passes p xs k d l) (not-true _ (filter_passes (λ x. not (p x)) xs j c m)))

-- of two, the first passes if the second does
pub to_front-in_order : (p : ℕ → Bool) (xs : List ℕ) → AllPairs (λ x y. IsTrue (p y) → IsTrue (p x)) (to_front p xs)
to_front-in_order p xs =
    AllPairs-append (λ x y. IsTrue (p y) → IsTrue (p x)) (filter p xs) (filter (λ x. not (p x)) xs)
    (λ i j d l within h. filter_passes p xs i d (omega arith))
    (λ i j d l within h. absurd (both_ways _ (not-true _ (filter_passes (λ x. not (p x)) xs j d within)) h))
    (λ k d l j c m h. filter_passes p xs k d l)
