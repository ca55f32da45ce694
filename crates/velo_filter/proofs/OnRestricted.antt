-- A reordering of a trace, restricted to the positions that stay: it is a reordering of the events there.
use Rattle.std.proofs.Common.{◌≡◌, ◌≢◌, ℕ, suc, ◌+◌, ◌<◌, ◌≤◌, Bool, cond, List, [], ◌∷◌, length, take, drop, map, refl, sym, ap, ◌∙◌, subst, arith, ⊎_elim}
use Rattle.std.specs.Prelude.{◌↔◌, ◌==◌, nat_lt, if◌then◌else◌, count_by, filter, slice_get, slice_index, slice_index_or, IsTrue, All, AllPairs}
use Rattle.std.proofs.lemmas.Bool.{cases_Bool, cases_eq, cases_lt, cases_order, eq-eqb, ne_eqb, lt-ltb, le-ltb, both_ways}
use Rattle.std.proofs.lemmas.List.{get_or-map, get_or_default, length-map, take-append-drop}
use Rattle.std.proofs.lemmas.List.Elements.{filter_passes, All-filter}
use Rattle.std.proofs.lemmas.List.Kept.{AllPairs-filter}
use Rattle.std.proofs.lemmas.List.Sums.{sum_by-append, sum_by-cons, count_by_more_yes}
use Rattle.velo_events.specs.declared.event.Event.{Event}
use Rattle.velo_events.specs.Graph.{conflict_at}
use Rattle.velo_events.specs.Reordering.{IsReordering, StandTogether}
use Rattle.velo_events.proofs.OnBlame.{KeepsOrder, IsReordering-by}
use Rattle.velo_events.proofs.OnScans.{take-take_le}
use Rattle.velo_filter.proofs.OnRanks.{rank, rank-lt, rank-lt_back, rank-one, rank-from, events_staying, events_staying-at, length-events_staying}

-- ---- places and positions of a reordering

count_take : (p : ℕ → Bool) (k : ℕ) (xs : List ℕ) → count_by p (take k xs) ≤ count_by p xs
count_take p k xs =
    let both = sum_by-append (λ x. cond {A = ℕ} (p x) 1 0) (take k xs) (drop k xs) in
    let all = ap (count_by p) (take-append-drop k xs) in
    omega (arith, both, all)

module _ (trace : List Event) (order : List ℕ) (r : IsReordering trace order) where
  counted_here : (k : ℕ) → k < length order → count_by (λ m. m == slice_index order k) (take (k + 1) order) ≡ count_by (λ m. m == slice_index order k) (take k order) + 1
  counted_here k l = count_by_more_yes (λ m. m == slice_index order k) order k 0 l (eq-eqb (slice_index order k) (slice_index order k) refl)

  pub position_within : (k : ℕ) → k < length order → slice_index order k < length trace
  position_within k l = ⊎_elim (λ h. h)
      (λ g. absurd (
      let all = r.each_once (slice_index order k) ∙ ap (λ b. cond {A = ℕ} b 1 0) (le-ltb (slice_index order k) (length trace) g) in
      let more = counted_here k l in
      let most = count_take (λ m. m == slice_index order k) (k + 1) order in
      omega (arith, all, more, most)))
      (cases_lt (slice_index order k) (length trace))

  apart : (a b : ℕ) → a < b → b < length order → slice_index order a ≢ slice_index order b
  apart a b less l same =
      let x = slice_index order b in
      let all = r.each_once x ∙ ap (λ t. cond {A = ℕ} t 1 0) (lt-ltb x (length trace) (position_within b l)) in
      let second = counted_here b l in
      let first : count_by (λ m. m == x) (take (a + 1) order) ≡ count_by (λ m. m == x) (take a order) + 1 = count_by_more_yes (λ m. m == x) order a 0 (omega (arith, less, l)) (eq-eqb (slice_index order a) x same) in
      let some = count_take (λ m. m == x) (a + 1) (take b order) in
      let cut : count_by (λ m. m == x) (take (a + 1) (take b order)) ≡ count_by (λ m. m == x) (take (a + 1) order) = ap (count_by (λ m. m == x)) (take-take_le (a + 1) b order (omega (arith, less))) in
      let most = count_take (λ m. m == x) (b + 1) order in
      omega (arith, all, second, first, some, cut, most)

  -- a position has one place
  pub one_place : (a b : ℕ) → a < length order → b < length order → slice_index order a ≡ slice_index order b → a ≡ b
  one_place a b l h same = ⊎_elim (λ e. e) (⊎_elim (λ less. absurd (apart a b less h same)) (λ less. absurd (apart b a less l (sym same)))) (cases_order a b)

-- ---- the restriction

-- the places, among those that stay, of the positions that stay, in the new order
abbrev pub restricted : (ℕ → Bool) → List ℕ → List ℕ
restricted stays order = map (rank stays) (filter stays order)

module _ (stays : ℕ → Bool) where
  count-yes : (x i : ℕ) → IsTrue (stays x) → IsTrue (stays i) → cond {A = ℕ} (rank stays x == rank stays i) 1 0 ≡ cond {A = ℕ} (x == i) 1 0
  count-yes x i h g = ap (λ b. cond {A = ℕ} b 1 0) (⊎_elim
      (λ e. eq-eqb _ _ (ap (rank stays) e) ∙ sym (eq-eqb x i e))
      (λ d. ne_eqb _ _ (λ e. d (rank-one stays x i h g e)) ∙ sym (ne_eqb x i d))
      (cases_eq x i))

  count-kept : (i : ℕ) → IsTrue (stays i) → (xs : List ℕ) → count_by (λ k. k == rank stays i) (restricted stays xs) ≡ count_by (λ k. k == i) xs
  count-kept i g [] = refl
  count-kept i g (x ∷ xs) =
      let rest = count-kept i g xs in
      let all = sum_by-cons (λ k. cond {A = ℕ} (k == i) 1 0) x xs in
      ⊎_elim
      (λ h.
      let kept = ap (λ b. count_by (λ k. k == rank stays i) (map (rank stays) (cond b (x ∷ filter stays xs) (filter stays xs)))) h in
      let step = sum_by-cons (λ k. cond {A = ℕ} (k == rank stays i) 1 0) (rank stays x) (restricted stays xs) in
      omega (arith, rest, all, kept, step, count-yes x i h g))
      (λ h.
      let kept = ap (λ b. count_by (λ k. k == rank stays i) (map (rank stays) (cond b (x ∷ filter stays xs) (filter stays xs)))) h in
      let none : cond {A = ℕ} (x == i) 1 0 ≡ 0 = ap (λ b. cond {A = ℕ} b 1 0) (ne_eqb x i (λ e. both_ways (stays x) h (ap stays e ∙ g))) in
      omega (arith, rest, all, kept, none))
      (cases_Bool (stays x))

  count-past : (n j : ℕ) → rank stays n ≤ j → (xs : List ℕ) → ((k : ℕ) → k < length xs → slice_index xs k < n) → count_by (λ k. k == j) (restricted stays xs) ≡ 0
  count-past n j past [] h = refl
  count-past n j past (x ∷ xs) within =
      let rest = count-past n j past xs (λ k l. within (suc k) (omega (arith, l))) in
      ⊎_elim
      (λ h.
      let kept = ap (λ b. count_by (λ k. k == j) (map (rank stays) (cond b (x ∷ filter stays xs) (filter stays xs)))) h in
      let step = sum_by-cons (λ k. cond {A = ℕ} (k == j) 1 0) (rank stays x) (restricted stays xs) in
      let less = rank-lt stays x n h (within 0 (omega arith)) in
      let none : cond {A = ℕ} (rank stays x == j) 1 0 ≡ 0 = ap (λ b. cond {A = ℕ} b 1 0) (ne_eqb (rank stays x) j (λ e. omega (arith, e, less, past))) in
      omega (arith, rest, kept, step, none))
      (λ h. ap (λ b. count_by (λ k. k == j) (map (rank stays) (cond b (x ∷ filter stays xs) (filter stays xs)))) h ∙ rest)
      (cases_Bool (stays x))

module _ (trace : List Event) (stays : ℕ → Bool) where
  abbrev sub : List Event
  sub = events_staying trace stays (length trace)

  sub_at : (i : ℕ) → i < length trace → IsTrue (stays i) → slice_get sub (rank stays i) ≡ slice_get trace i
  sub_at i l h = events_staying-at trace stays (length trace) i (omega arith) l h

  long : length sub ≡ rank stays (length trace)
  long = length-events_staying trace stays (length trace) (omega arith)

  pub conflict-sub : (i j : ℕ) → i < length trace → j < length trace → IsTrue (stays i) → IsTrue (stays j) → conflict_at sub (rank stays i) (rank stays j) ≡ conflict_at trace i j
  unfolding conflict_at
  conflict-sub i j l m h g = rw (sub_at i l h, sub_at j m g) refl

  module _ (order : List ℕ) (r : IsReordering trace order) where
    abbrev ys : List ℕ
    ys = filter stays order

    member-within : All (λ x. x < length trace) ys
    member-within = All-filter stays (λ x. x < length trace) order (λ k d l. subst (λ x. x < length trace) (get_or_default order k 0 d l) (position_within trace order r k l))

    once : (j : ℕ) → count_by (λ k. k == j) (restricted stays order) ≡ (if nat_lt j (length sub) then 1 else 0)
    once j = ⊎_elim
        (λ below.
        let w = rank-from stays (length trace) j (let e = long in omega (arith, below, e)) in
        ap (λ k. count_by (λ m. m == k) (restricted stays order)) (sym w.3)
        ∙ (count-kept stays w.0 w.2 order ∙ (r.each_once w.0 ∙ (ap (λ b. cond {A = ℕ} b 1 0) (lt-ltb w.0 (length trace) w.1) ∙ sym (ap (λ b. cond {A = ℕ} b 1 0) (lt-ltb j (length sub) below))))))
        (λ above.
        count-past stays (length trace) j (let e = long in omega (arith, above, e)) order (position_within trace order r)
        ∙ sym (ap (λ b. cond {A = ℕ} b 1 0) (le-ltb j (length sub) above)))
        (cases_lt j (length sub))

    at_place : (k d : ℕ) → k < length ys → slice_index_or (restricted stays order) k d ≡ rank stays (slice_index ys k)
    at_place k d l = get_or-map (rank stays) ys k 0 d l

    as_many : length (restricted stays order) ≡ length ys
    as_many = length-map ys (rank stays)

    kept : AllPairs (KeepsOrder sub) (restricted stays order)
    kept i j d l within =
        let m : j < length ys = (let e = as_many in omega (arith, within, e)) in
        let x = slice_index ys i in
        let y = slice_index ys j in
        let old : KeepsOrder trace x y = AllPairs-filter (KeepsOrder trace) stays order (λ a b e less inside. r_pair a b e less inside) i j 0 l m in
        let new : KeepsOrder sub (rank stays x) (rank stays y) = λ moved. conflict-sub y x (member-within j 0 m) (member-within i 0 (omega (arith, l, m))) (filter_passes stays order j 0 m) (filter_passes stays order i 0 (omega (arith, l, m))) ∙ old (rank-lt_back stays y x moved) in
        subst (λ k. KeepsOrder sub k (slice_index_or (restricted stays order) j d)) (sym (at_place i d (omega (arith, l, m)))) (subst (KeepsOrder sub (rank stays x)) (sym (at_place j d m)) new)
      where
        r_pair : AllPairs (KeepsOrder trace) order
        r_pair a b e less inside =
            subst (λ k. KeepsOrder trace k (slice_index_or order b e)) (get_or_default order a 0 e (omega (arith, less, inside)))
            (subst (KeepsOrder trace (slice_index order a)) (get_or_default order b 0 e inside) (λ moved. r.keeps_order a b less inside moved))

    pub IsReordering-restricted : IsReordering (events_staying trace stays (length trace)) (restricted stays order)
    IsReordering-restricted = IsReordering-by sub (restricted stays order) once kept

    -- ---- three that follow one another in the restriction do so in the order

    abbrev Before : ℕ → ℕ → Type 0
    Before x y = (a : ℕ) × (b : ℕ) × (a < b) × (b < length order) × (slice_index order a ≡ x) × (slice_index order b ≡ y)

    before : AllPairs Before ys
    before = AllPairs-filter Before stays order (λ a b d less l. (a, b, less, l, get_or_default order a 0 d (omega (arith, less, l)), get_or_default order b 0 d l))

    pub record AreThree (k l m : ℕ) : Type 0 where
      pub first : ℕ
      pub middle : ℕ
      pub last : ℕ
      pub rise : first < middle
      pub rise_more : middle < last
      pub within : last < length order
      pub first_stays : IsTrue (stays (slice_index order first))
      pub middle_stays : IsTrue (stays (slice_index order middle))
      pub last_stays : IsTrue (stays (slice_index order last))
      pub at_first : slice_index (restricted stays order) k ≡ rank stays (slice_index order first)
      pub at_middle : slice_index (restricted stays order) l ≡ rank stays (slice_index order middle)
      pub at_last : slice_index (restricted stays order) m ≡ rank stays (slice_index order last)

    pub three : (k l m : ℕ) → k < l → l < m → m < length (restricted stays order) → AreThree k l m
    three k l m less more inside =
        let most : m < length ys = (let e = as_many in omega (arith, inside, e)) in
        let v = before k l 0 less (omega (arith, more, most)) in
        let w = before l m 0 more most in
        let same : v.1 ≡ w.0 = one_place trace order r v.1 w.0 v.3 (omega (arith, w.2, w.3)) (v.5 ∙ sym w.4) in
        record {
          first = v.0;
          middle = v.1;
          last = w.1;
          rise = v.2;
          rise_more = omega (arith, w.2, same);
          within = w.3;
          first_stays = ap stays v.4 ∙ filter_passes stays order k 0 (omega (arith, less, more, most));
          middle_stays = ap stays v.5 ∙ filter_passes stays order l 0 (omega (arith, more, most));
          last_stays = ap stays w.5 ∙ filter_passes stays order m 0 most;
          at_first = at_place k 0 (omega (arith, less, more, most)) ∙ ap (rank stays) (sym v.4);
          at_middle = at_place l 0 (omega (arith, more, most)) ∙ ap (rank stays) (sym v.5);
          at_last = at_place m 0 most ∙ ap (rank stays) (sym w.5);
        }

    -- positions that stand together do so in the restriction
    pub together : (member member' : ℕ → Bool) → ((x : ℕ) → x < length trace → IsTrue (stays x) → IsTrue (member' (rank stays x)) ↔ IsTrue (member x)) → StandTogether member order → StandTogether member' (restricted stays order)
    together member member' same stand k l m less more inside in_k in_m =
        let w = three k l m less more inside in
        let p = position_within trace order r in
        ap member' w.at_middle ∙ (same (slice_index order w.middle) (p w.middle (omega (arith, w.rise_more, w.within))) w.middle_stays).1
        (stand w.first w.middle w.last w.rise w.rise_more w.within
        ((same (slice_index order w.first) (p w.first (omega (arith, w.rise, w.rise_more, w.within))) w.first_stays).0 (sym (ap member' w.at_first) ∙ in_k))
        ((same (slice_index order w.last) (p w.last w.within) w.last_stays).0 (sym (ap member' w.at_last) ∙ in_m)))
