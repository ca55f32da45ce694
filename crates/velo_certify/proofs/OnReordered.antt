-- Every reordering of a well-formed trace is well-formed, and leaves the same heap.
use Rattle.std.proofs.Common.{◌≡◌, ◌≢◌, ℕ, zero, suc, ◌+◌, ◌<◌, ◌≤◌, Bool, true, false, cond, List, [], ◌∷◌, ◌++◌, length, take, map, get_or, Option, Some, None, refl, sym, ap, ◌∙◌, subst, arith, ⊎_elim}
use Rattle.std.specs.Prelude.{◌↔◌, ◌==◌, ◌&&◌, ◌||◌, if◌then◌else◌, count_by, filter, filter_map, slice_get, slice_index, slice_index_or, option_and_then, IsTrue, IsFalse, AllPairs, Contains}
use Rattle.std.specs.List.{range_with_len, cons_option}
use Rattle.std.specs.Option.{option_map_or, option_or}
use Rattle.std.proofs.lemmas.Bool.{cases_Bool, cases_eq, cases_lt, cases_order, and_parts, and_from, or_cases, or_left, or_right, eq-eqb, eqb-true, lt-ltb, le-ltb, both_ways, false≢true, false_from_ne_true}
use Rattle.std.proofs.lemmas.List.{get_or_default, get_or-take, length-take-le, take-map, map-append, length-map}
use Rattle.std.proofs.Math.Seq.{take-length}
use Rattle.std.proofs.lemmas.List.FromFn.{length-range_with_len, get_or-range_with_len}
use Rattle.std.proofs.lemmas.List.Elements.{filter_passes}
use Rattle.std.proofs.lemmas.List.Kept.{AllPairs-filter}
use Rattle.std.proofs.lemmas.List.Sums.{sum_by-cons, count_by_more_yes}
use Rattle.std.proofs.lemmas.Option.{slice_get-get_or, slice_get_within, same_Some}
use Rattle.velo_events.specs.declared.config.Bounds.{Bounds}
use Rattle.velo_events.specs.declared.event.Event.{Event}
use Rattle.velo_events.specs.declared.event.Kind.{Kind}
use Rattle.velo_events.specs.declared.event.Kind.TheVariants.{Read, Write, Acquire, Release, AcquireShared, ReleaseShared, Begin, End, Fork, Join, Exit}
use Rattle.velo_events.specs.Event.{are_same, thread_of, variable_of, thread_forked, thread_joined, thread_forked_or_joined, value_of, is_write, is_acquire, is_release, is_begin, is_end, is_by, is_begin_by, is_end_by, is_exit_by, is_write_of, is_on_lock, is_fork_of, is_join_of, access_of, cell_of, is_exclusive, exclusive_lock_of, shared_lock_of, is_on_share, is_acquire_shared, is_release_shared}
use Rattle.velo_events.specs.Conflict.{conflict}
use Rattle.velo_events.specs.Graph.{conflict_at}
use Rattle.velo_events.specs.Heap.{latest, happened, times}
use Rattle.velo_events.specs.Reordering.{IsReordering, events_in_order}
use Rattle.velo_events.specs.WellFormed.{IsInTurn, MayFollow, IsWellFormed}
use Rattle.velo_events.proofs.OnScans.{take-next, take-take_le}
use Rattle.velo_events.proofs.OnPositions.{Contains-filter}
use Rattle.velo_events.proofs.OnReorderings.{IsReordering-place, IsReordering-pair}
use Rattle.velo_traces.proofs.Past.{past}
use Rattle.velo_certify.specs.Reordered.{LeavesSameHeap}
use Rattle.velo_certify.proofs.OnGreatest.{conflict-comm}
use Rattle.velo_certify.proofs.OnOrders.{count_take}
use Rattle.velo_certify.proofs.OnSerial.{range_push}

-- ---- what a list of events tells, by those that pass a test

option_or-none : {X : Type 0} (o : Option X) → option_or o None ≡ o
option_or-none None = refl
option_or-none (Some x) = refl

latest-step : (test : Event → Bool) (e : Event) (es : List Event) → latest test (filter test es) ≡ latest test es → (b : Bool) → test e ≡ b → latest test (cond b (e ∷ filter test es) (filter test es)) ≡ option_or (latest test es) (if test e then Some e else None)
unfolding latest
latest-step test e es rest true is = ap (λ o. option_or o (if test e then Some e else None)) rest
latest-step test e es rest false is = rest ∙ sym (ap (λ b. option_or (latest test es) (cond b (Some e) None)) is ∙ option_or-none (latest test es))

latest-filter : (test : Event → Bool) (es : List Event) → latest test (filter test es) ≡ latest test es
unfolding latest
latest-filter test [] = refl
latest-filter test (e ∷ es) = latest-step test e es (latest-filter test es) (test e) refl

times-cons : (test : Event → Bool) (e : Event) (es : List Event) → times test (e ∷ es) ≡ cond {A = ℕ} (test e) 1 0 + times test es
unfolding times
times-cons test e es = sum_by-cons (λ x. cond {A = ℕ} (test x) 1 0) e es

times-step : (test : Event → Bool) (e : Event) (es : List Event) → times test (filter test es) ≡ times test es → (b : Bool) → test e ≡ b → times test (cond b (e ∷ filter test es) (filter test es)) ≡ times test (e ∷ es)
times-step test e es rest true is = times-cons test e (filter test es) ∙ (ap (λ n. cond {A = ℕ} (test e) 1 0 + n) rest ∙ sym (times-cons test e es))
times-step test e es rest false is =
    let all = times-cons test e es in
    let none : cond {A = ℕ} (test e) 1 0 ≡ 0 = ap (λ b. cond {A = ℕ} b 1 0) is in
    omega (arith, all, none, rest)

times-filter : (test : Event → Bool) (es : List Event) → times test (filter test es) ≡ times test es
times-filter test [] = refl
times-filter test (e ∷ es) = times-step test e es (times-filter test es) (test e) refl

map-step : (test : Event → Bool) (E : ℕ → Event) (x : ℕ) (xs : List ℕ) → filter test (map E xs) ≡ map E (filter (λ i. test (E i)) xs) → (b : Bool) → cond b (E x ∷ filter test (map E xs)) (filter test (map E xs)) ≡ map E (cond b (x ∷ filter (λ i. test (E i)) xs) (filter (λ i. test (E i)) xs))
map-step test E x xs rest true = ap (λ es. E x ∷ es) rest
map-step test E x xs rest false = rest

filter-map : (test : Event → Bool) (E : ℕ → Event) (xs : List ℕ) → filter test (map E xs) ≡ map E (filter (λ i. test (E i)) xs)
filter-map test E [] = refl
filter-map test E (x ∷ xs) = map-step test E x xs (filter-map test E xs) (test (E x))

-- two lists of positions tell the same where the same ones pass, in the same order
pub record TellTheSame (test : Event → Bool) (es fs : List Event) : Type 0 where
  pub last : latest test es ≡ latest test fs
  pub count : times test es ≡ times test fs

TellTheSame-by : (test : Event → Bool) (E : ℕ → Event) (xs ys : List ℕ) → filter (λ i. test (E i)) xs ≡ filter (λ i. test (E i)) ys → TellTheSame test (map E xs) (map E ys)
TellTheSame-by test E xs ys same =
    let both : filter test (map E xs) ≡ filter test (map E ys) = filter-map test E xs ∙ (ap (map E) same ∙ sym (filter-map test E ys)) in
    record {
      last = sym (latest-filter test (map E xs)) ∙ (ap (latest test) both ∙ latest-filter test (map E ys));
      count = sym (times-filter test (map E xs)) ∙ (ap (times test) both ∙ times-filter test (map E ys));
    }

-- some event of the list passes
happened-from : (test : Event → Bool) (E : ℕ → Event) (xs : List ℕ) (y k : ℕ) → k < length xs → slice_index_or xs k y ≡ y → IsTrue (test (E y)) → IsTrue (happened test (map E xs))
unfolding happened
happened-from test E [] y k l e h = absurd (omega (arith, l))
happened-from test E (x ∷ xs) y zero l e h = or_left _ _ (ap (λ i. test (E i)) e ∙ h)
happened-from test E (x ∷ xs) y (suc k) l e h = or_right (test (E x)) _ (happened-from test E xs y k (omega (arith, l)) e h)

happened-by : (test : Event → Bool) (E : ℕ → Event) (xs : List ℕ) (y : ℕ) → Contains xs y → IsTrue (test (E y)) → IsTrue (happened test (map E xs))
happened-by test E xs y w h = happened-from test E xs y w.0 w.1 w.2 h

happened-some : (test : Event → Bool) (E : ℕ → Event) (xs : List ℕ) → IsTrue (happened test (map E xs)) → (y : ℕ) × Contains xs y × IsTrue (test (E y))
unfolding happened
happened-some test E [] h = absurd (false≢true h)
happened-some test E (x ∷ xs) h = ⊎_elim
    (λ here. (x, (0, omega arith, refl), here))
    (λ later. let w = happened-some test E xs later in (w.0, (suc w.1.0, let l = w.1.1 in omega (arith, l), w.1.2), w.2))
    (or_cases _ _ h)

-- ---- rising lists with the same members

pub same_rising : (xs ys : List ℕ) → AllPairs (λ x y. x < y) xs → AllPairs (λ x y. x < y) ys → ((y : ℕ) → Contains xs y → Contains ys y) → ((y : ℕ) → Contains ys y → Contains xs y) → xs ≡ ys
same_rising [] [] up down there back = refl
same_rising [] (y ∷ ys) up down there back = absurd (let w = (back y (0, omega arith, refl)).1 in omega (arith, w))
same_rising (x ∷ xs) [] up down there back = absurd (let w = (there x (0, omega arith, refl)).1 in omega (arith, w))
same_rising (x ∷ xs) (y ∷ ys) up down there back =
    ap (λ z. z ∷ xs) first ∙ ap (λ zs. y ∷ zs)
    (same_rising xs ys (λ i j d l h. up (suc i) (suc j) d (omega (arith, l)) (omega (arith, h))) (λ i j d l h. down (suc i) (suc j) d (omega (arith, l)) (omega (arith, h)))
    (λ z w. later y ys z (let above = above_first x xs up z w in omega (arith, above, first)) (there z (behind x xs z w)))
    (λ z w. later x xs z (let above = above_first y ys down z w in omega (arith, above, first)) (back z (behind y ys z w))))
  where
    behind : (a : ℕ) (zs : List ℕ) (z : ℕ) → Contains zs z → Contains (a ∷ zs) z
    behind a zs z w = (suc w.0, let l = w.1 in omega (arith, l), w.2)

    above_first : (a : ℕ) (zs : List ℕ) → AllPairs (λ x y. x < y) (a ∷ zs) → (z : ℕ) → Contains zs z → a < z
    above_first a zs rises z w =
        let less = rises 0 (suc w.0) z (omega arith) (let l = w.1 in omega (arith, l)) in
        let is = w.2 in omega (arith, less, is)

    from_first : (a : ℕ) (zs : List ℕ) → AllPairs (λ x y. x < y) (a ∷ zs) → (z : ℕ) → Contains (a ∷ zs) z → a ≤ z
    from_first a zs rises z w = at w.0 w.1 w.2
      where
        at : (k : ℕ) → k < length (a ∷ zs) → slice_index_or (a ∷ zs) k z ≡ z → a ≤ z
        at zero l e = omega (arith, e)
        at (suc k) l e = let less = rises 0 (suc k) z (omega arith) l in omega (arith, less, e)

    first : x ≡ y
    first =
        let one = from_first y ys down x (there x (0, omega arith, refl)) in
        let two = from_first x xs up y (back y (0, omega arith, refl)) in
        omega (arith, one, two)

    later : (a : ℕ) (zs : List ℕ) (z : ℕ) → a < z → Contains (a ∷ zs) z → Contains zs z
    later a zs z less w = at w.0 w.1 w.2
      where
        at : (k : ℕ) → k < length (a ∷ zs) → slice_index_or (a ∷ zs) k z ≡ z → Contains zs z
        at zero l e = absurd (omega (arith, less, e))
        at (suc k) l e = (k, omega (arith, l), e)

-- ---- the positions of a list, and those below a bound

Contains-range : (n y : ℕ) → Contains (range_with_len 0 n) y ↔ (y < n)
Contains-range n y = (
  (λ w. let long = length-range_with_len 0 n in let l = w.1 in let is = get_or-range_with_len 0 n w.0 y (omega (arith, l, long)) in let at_it = w.2 in omega (arith, is, at_it, l, long)),
  (λ l. (y, (let long = length-range_with_len 0 n in omega (arith, l, long)), get_or-range_with_len 0 n y y l ∙ omega arith)),
)

range-rises : (n : ℕ) → AllPairs (λ x y. x < y) (range_with_len 0 n)
range-rises n i j d l within =
    let long = length-range_with_len 0 n in
    let at_i = get_or-range_with_len 0 n i d (omega (arith, l, within, long)) in
    let at_j = get_or-range_with_len 0 n j d (omega (arith, within, long)) in
    omega (arith, at_i, at_j, l)

-- ---- a trace by its positions

module _ (trace : List Event) where
  abbrev pub E : ℕ → Event
  E i = get_or trace i past

  conflict-is : (i j : ℕ) → i < length trace → j < length trace → conflict_at trace i j ≡ conflict (E i) (E j)
  unfolding conflict_at
  conflict-is i j h l = rw (slice_get-get_or trace i past h, slice_get-get_or trace j past l) refl

  take-is : (n : ℕ) → n ≤ length trace → take n trace ≡ map E (range_with_len 0 n)
  take-is zero l = refl
  take-is (suc n) l =
      ap (λ k. take k trace) (let more : suc n ≡ n + 1 = omega arith in more)
      ∙ (take-next trace n (E n) (slice_get-get_or trace n past (omega (arith, l)))
      ∙ (ap (λ es. es ++ E n ∷ []) (take-is n (omega (arith, l)))
      ∙ (sym (map-append E (range_with_len 0 n) (n ∷ [])) ∙ ap (map E) (sym (range_push 0 n ∙ ap (λ k. range_with_len 0 n ++ k ∷ []) (let same : 0 + n ≡ n = omega arith in same))))))

  all-is : trace ≡ map E (range_with_len 0 (length trace))
  all-is = sym (take-length trace) ∙ take-is (length trace) (omega arith)

  filter_map-is : (xs : List ℕ) → ((k : ℕ) → k < length xs → slice_index xs k < length trace) → filter_map (slice_get trace) xs ≡ map E xs
  filter_map-is [] h = refl
  filter_map-is (x ∷ xs) h =
      ap (λ o. cons_option o (filter_map (slice_get trace) xs)) (slice_get-get_or trace x past (h 0 (omega arith)))
      ∙ ap (λ es. E x ∷ es) (filter_map-is xs (λ k l. h (suc k) (omega (arith, l))))

  map-at : (xs : List ℕ) (k : ℕ) → k < length xs → slice_get (map E xs) k ≡ Some (E (slice_index xs k))
  map-at [] k l = absurd (omega (arith, l))
  map-at (x ∷ xs) zero l = refl
  map-at (x ∷ xs) (suc k) l = map-at xs k (omega (arith, l))

  module _ (order : List ℕ) (r : IsReordering trace order) where
    more_here : (k : ℕ) → k < length order → count_by (λ m. m == slice_index order k) (take (k + 1) order) ≡ count_by (λ m. m == slice_index order k) (take k order) + 1
    more_here k l = count_by_more_yes (λ m. m == slice_index order k) order k 0 l (eq-eqb (slice_index order k) (slice_index order k) refl)

    inside : (k : ℕ) → k < length order → slice_index order k < length trace
    inside k l = ⊎_elim (λ h. h)
        (λ g. absurd (
        let all = r.each_once (slice_index order k) ∙ ap (λ b. cond {A = ℕ} b 1 0) (le-ltb (slice_index order k) (length trace) g) in
        let more = more_here k l in
        let most = count_take (λ m. m == slice_index order k) (k + 1) order in
        omega (arith, all, more, most)))
        (cases_lt (slice_index order k) (length trace))

    -- two places have two positions
    apart : (a b : ℕ) → a < b → b < length order → slice_index order a ≢ slice_index order b
    apart a b less l same =
        let x = slice_index order b in
        let all = r.each_once x ∙ ap (λ t. cond {A = ℕ} t 1 0) (lt-ltb x (length trace) (inside b l)) in
        let second = more_here b l in
        let first : count_by (λ m. m == x) (take (a + 1) order) ≡ count_by (λ m. m == x) (take a order) + 1 = count_by_more_yes (λ m. m == x) order a 0 (omega (arith, less, l)) (eq-eqb (slice_index order a) x same) in
        let some = count_take (λ m. m == x) (a + 1) (take b order) in
        let cut : count_by (λ m. m == x) (take (a + 1) (take b order)) ≡ count_by (λ m. m == x) (take (a + 1) order) = ap (count_by (λ m. m == x)) (take-take_le (a + 1) b order (omega (arith, less))) in
        let most = count_take (λ m. m == x) (b + 1) order in
        omega (arith, all, second, first, some, cut, most)

    in_take : (k a y : ℕ) → k ≤ length order → a < k → slice_index order a ≡ y → Contains (take k order) y
    in_take k a y l h is = (a, (let long = length-take-le k order l in omega (arith, h, long)), get_or-take k order a y h ∙ (get_or_default order a y 0 (omega (arith, h, l)) ∙ is))

    of_take : (k y : ℕ) → k ≤ length order → Contains (take k order) y → (a : ℕ) × (a < k) × (slice_index order a ≡ y)
    of_take k y l w =
        let long = length-take-le k order l in
        let below : w.0 < k = let h = w.1 in omega (arith, h, long) in
        (w.0, below, sym (get_or-take k order w.0 y below ∙ get_or_default order w.0 y 0 (omega (arith, below, l))) ∙ w.2)

    -- which passing positions stand in the first k places: those below n
    module _ (test : Event → Bool) (pairs : (x y : ℕ) → x < length trace → y < length trace → IsTrue (test (E x)) → IsTrue (test (E y)) → IsTrue (conflict (E x) (E y))) (k n : ℕ) (places : k ≤ length order) (bound : n ≤ length trace) (members : (y : ℕ) → y < length trace → IsTrue (test (E y)) → Contains (take k order) y ↔ (y < n)) where
      rises : AllPairs (λ x y. IsTrue (test (E x)) → IsTrue (test (E y)) → x < y) (take k order)
      rises i j d l within first second =
          let long = length-take-le k order places in
          let at_i : slice_index_or (take k order) i d ≡ slice_index order i = get_or-take k order i d (omega (arith, l, within, long)) ∙ get_or_default order i d 0 (omega (arith, l, within, long, places)) in
          let at_j : slice_index_or (take k order) j d ≡ slice_index order j = get_or-take k order j d (omega (arith, within, long)) ∙ get_or_default order j d 0 (omega (arith, within, long, places)) in
          let in_i = inside i (omega (arith, l, within, long, places)) in
          let in_j = inside j (omega (arith, within, long, places)) in
          let clash : IsTrue (conflict_at trace (slice_index order j) (slice_index order i)) = conflict-is (slice_index order j) (slice_index order i) in_j in_i ∙ pairs (slice_index order j) (slice_index order i) in_j in_i (subst (λ x. IsTrue (test (E x))) at_j second) (subst (λ x. IsTrue (test (E x))) at_i first) in
          let less : slice_index order i < slice_index order j = ⊎_elim (λ h. absurd (apart i j l (omega (arith, within, long, places)) h)) (⊎_elim (λ h. h) (λ h. absurd (both_ways _ (r.keeps_order i j l (omega (arith, within, long, places)) h) clash))) (cases_order (slice_index order i) (slice_index order j)) in
          omega (arith, at_i, at_j, less)

      same_passing : filter (λ i. test (E i)) (take k order) ≡ filter (λ i. test (E i)) (range_with_len 0 n)
      same_passing = same_rising _ _
          (λ i j d l within. AllPairs-filter (λ x y. IsTrue (test (E x)) → IsTrue (test (E y)) → x < y) (λ i. test (E i)) (take k order) rises i j d l within
          (filter_passes (λ i. test (E i)) (take k order) i d (omega (arith, l, within))) (filter_passes (λ i. test (E i)) (take k order) j d within))
          (AllPairs-filter (λ x y. x < y) (λ i. test (E i)) (range_with_len 0 n) (range-rises n))
          (λ y w.
          let v = (Contains-filter (λ i. test (E i)) (take k order) y).0 w in
          let a = of_take k y places v.0 in
          let small : y < length trace = subst (λ z. z < length trace) a.2 (inside a.0 (let l = a.1 in omega (arith, l, places))) in
          (Contains-filter (λ i. test (E i)) (range_with_len 0 n) y).1 ((Contains-range n y).1 ((members y small v.1).0 v.0), v.1))
          (λ y w.
          let v = (Contains-filter (λ i. test (E i)) (range_with_len 0 n) y).0 w in
          let l = (Contains-range n y).0 v.0 in
          (Contains-filter (λ i. test (E i)) (take k order) y).1 ((members y (omega (arith, l, bound)) v.1).1 l, v.1))

      pub told_same : TellTheSame test (map E (take k order)) (map E (range_with_len 0 n))
      told_same = TellTheSame-by test E (take k order) (range_with_len 0 n) same_passing

    -- ---- what stands before the event at place k

    module _ (k : ℕ) (within : k < length order) where
      abbrev j : ℕ
      j = slice_index order k

      before_both : (y : ℕ) → y < length trace → y ≢ j → IsTrue (conflict (E y) (E j)) → Contains (take k order) y ↔ (y < j)
      before_both y l other clash = (
        (λ w.
            let a = of_take k y (omega (arith, within)) w in
            ⊎_elim (λ e. absurd (other e)) (⊎_elim (λ h. h)
            (λ h. absurd (let back = IsReordering-pair trace order r j y k a.0 (h, conflict-is j y (inside k within) l ∙ (conflict-comm (E j) (E y) ∙ clash)) within (let s = a.1 in omega (arith, s, within)) refl a.2 in let s = a.1 in omega (arith, back, s))))
            (cases_order y j)),
        (λ h.
            let a = IsReordering-place trace order r y l in
            let first = IsReordering-pair trace order r y j a.0 k (h, conflict-is y j l (inside k within) ∙ clash) a.1 within a.2 refl in
            in_take k a.0 y (omega (arith, within)) first a.2),
      )

      -- a test of events that conflict with the one at hand, which does not pass it by itself, or passes it and is not looked at
      module _ (test : Event → Bool) (clash : (f : Event) → IsTrue (test f) → IsTrue (conflict f (E j))) where
        members-before : (y : ℕ) → y < length trace → IsTrue (test (E y)) → Contains (take k order) y ↔ (y < j)
        members-before y l h = ⊎_elim
            (λ same. (
              (λ w. absurd (let a = of_take k y (omega (arith, within)) w in apart a.0 k a.1 within (a.2 ∙ same))),
              (λ less. absurd (omega (arith, less, same))),
            ))
            (λ other. before_both y l other (clash (E y) h)) (cases_eq y j)

        pub same_before : ((f g : Event) → IsTrue (test f) → IsTrue (test g) → IsTrue (conflict f g)) → TellTheSame test (map E (take k order)) (map E (range_with_len 0 j))
        same_before pairs = told_same test (λ x y h l p q. pairs (E x) (E y) p q) k j (omega (arith, within)) (let l = inside k within in omega (arith, l)) members-before

        pub happened-before : IsTrue (happened test (map E (range_with_len 0 j))) → IsTrue (happened test (map E (take k order)))
        happened-before h =
            let w = happened-some test E (range_with_len 0 j) h in
            let l = (Contains-range j w.0).0 w.1 in
            happened-by test E (take k order) w.0 ((members-before w.0 (let s = inside k within in omega (arith, s, l)) w.2).1 l) w.2

        pub never-before : IsFalse (happened test (map E (range_with_len 0 j))) → IsFalse (happened test (map E (take k order)))
        never-before none = false_from_ne_true _ (λ h.
            let w = happened-some test E (take k order) h in
            let a = of_take k w.0 (omega (arith, within)) w.1 in
            let small : w.0 < length trace = subst (λ z. z < length trace) a.2 (inside a.0 (let l = a.1 in omega (arith, l, within))) in
            both_ways _ none (happened-by test E (range_with_len 0 j) w.0 ((Contains-range j w.0).1 ((members-before w.0 small w.2).0 w.1)) w.2))

      -- a test that passes at one position of the trace at most
      pub never_twice : (test : Event → Bool) → IsTrue (test (E j)) → ((y : ℕ) → y < length trace → IsTrue (test (E y)) → IsFalse (happened test (map E (range_with_len 0 y)))) → IsFalse (happened test (map E (take k order)))
      never_twice test here once = false_from_ne_true _ (λ h.
          let w = happened-some test E (take k order) h in
          let a = of_take k w.0 (omega (arith, within)) w.1 in
          let small : w.0 < length trace = subst (λ z. z < length trace) a.2 (inside a.0 (let l = a.1 in omega (arith, l, within))) in
          ⊎_elim (λ e. apart a.0 k a.1 within (a.2 ∙ e))
          (⊎_elim
          (λ less. both_ways _ (once j (inside k within) here) (happened-by test E (range_with_len 0 j) w.0 ((Contains-range j w.0).1 less) w.2))
          (λ less. both_ways _ (once w.0 small w.2) (happened-by test E (range_with_len 0 w.0) j ((Contains-range w.0 j).1 less) here)))
          (cases_order w.0 j))

-- ---- events that conflict by what they are about

are_same-join : (a b : Option ℕ) (x : ℕ) → IsTrue (are_same a (Some x)) → IsTrue (are_same b (Some x)) → IsTrue (are_same a b)
are_same-join (Some a) (Some b) x h k = eq-eqb a b (eqb-true a x h ∙ sym (eqb-true b x k))
are_same-join None b x h k = absurd (false≢true h)
are_same-join (Some a) None x h k = absurd (false≢true k)

clash-thread : (f g : Event) (t : ℕ) → IsTrue (is_by t f) → IsTrue (is_by t g) → IsTrue (conflict f g)
clash-thread f g t h k = or_left _ _ (or_left _ _ (or_left _ _ (eq-eqb (thread_of f) (thread_of g) (eqb-true (thread_of f) t h ∙ sym (eqb-true (thread_of g) t k)))))

clash-cell : (f g : Event) (c : ℕ) → IsTrue (are_same (cell_of (access_of f.kind)) (Some c)) → IsTrue (are_same (cell_of (access_of g.kind)) (Some c)) → IsTrue (is_exclusive (access_of f.kind) || is_exclusive (access_of g.kind)) → IsTrue (conflict f g)
clash-cell f g c h k w = or_left _ _ (or_left _ _ (or_right (thread_of f == thread_of g) _ (and_from _ _ (are_same-join (cell_of (access_of f.kind)) (cell_of (access_of g.kind)) c h k) w)))

clash-handled : (f g : Event) → IsTrue (are_same (thread_forked_or_joined f.kind) (Some (thread_of g))) → IsTrue (conflict f g)
clash-handled f g h = or_left _ _ (or_right ((thread_of f == thread_of g) || (are_same (cell_of (access_of f.kind)) (cell_of (access_of g.kind)) && (is_exclusive (access_of f.kind) || is_exclusive (access_of g.kind)))) _ h)

clash-handles : (f g : Event) → IsTrue (are_same (thread_forked_or_joined g.kind) (Some (thread_of f))) → IsTrue (conflict f g)
clash-handles f g h = or_right ((thread_of f == thread_of g) || (are_same (cell_of (access_of f.kind)) (cell_of (access_of g.kind)) && (is_exclusive (access_of f.kind) || is_exclusive (access_of g.kind))) || are_same (thread_forked_or_joined f.kind) (Some (thread_of g))) _ h

forked-handled : (k : Kind) (u : ℕ) → IsTrue (are_same (thread_forked k) (Some u)) → IsTrue (are_same (thread_forked_or_joined k) (Some u))
forked-handled (Fork v) u h = h
forked-handled _ u h = absurd (false≢true h)

-- what writes a variable, and what takes or leaves a lock alone, is an exclusive access of its cell; what does so shared is a shared one
write-cell : (x : ℕ) (k : Kind) → IsTrue (is_write k && are_same (variable_of k) (Some x)) → IsTrue (are_same (cell_of (access_of k)) (Some (x + x))) × IsTrue (is_exclusive (access_of k))
write-cell x (Write y v) h = (let same = eqb-true y.0 x h in eq-eqb _ _ (ap (λ n. n + n) same), refl)
write-cell x _ h = absurd (false≢true h)

lock-cell : (m : ℕ) (k : Kind) → IsTrue (are_same (exclusive_lock_of k) (Some m)) → IsTrue (are_same (cell_of (access_of k)) (Some (m + m + 1))) × IsTrue (is_exclusive (access_of k))
lock-cell m (Acquire n) h = (let same = eqb-true n.0 m h in eq-eqb _ _ (ap (λ i. i + i + 1) same), refl)
lock-cell m (Release n) h = (let same = eqb-true n.0 m h in eq-eqb _ _ (ap (λ i. i + i + 1) same), refl)
lock-cell m _ h = absurd (false≢true h)

share-cell : (m : ℕ) (k : Kind) → IsTrue (are_same (shared_lock_of k) (Some m)) → IsTrue (are_same (cell_of (access_of k)) (Some (m + m + 1)))
share-cell m (AcquireShared n) h = let same = eqb-true n.0 m h in eq-eqb _ _ (ap (λ i. i + i + 1) same)
share-cell m (ReleaseShared n) h = let same = eqb-true n.0 m h in eq-eqb _ _ (ap (λ i. i + i + 1) same)
share-cell m _ h = absurd (false≢true h)

writes-pair : (x : ℕ) (f g : Event) → IsTrue (is_write_of x f) → IsTrue (is_write_of x g) → IsTrue (conflict f g)
writes-pair x f g h k = let p = write-cell x f.kind h in let q = write-cell x g.kind k in clash-cell f g (x + x) p.0 q.0 (or_left _ _ p.1)

locks-pair : (m : ℕ) (f g : Event) → IsTrue (is_on_lock m f) → IsTrue (is_on_lock m g) → IsTrue (conflict f g)
locks-pair m f g h k = let p = lock-cell m f.kind h in let q = lock-cell m g.kind k in clash-cell f g (m + m + 1) p.0 q.0 (or_left _ _ p.1)

own-pair : (t : ℕ) (part : Event → Bool) (f g : Event) → IsTrue (is_by t f && part f) → IsTrue (is_by t g && part g) → IsTrue (conflict f g)
own-pair t part f g h k = clash-thread f g t (and_parts _ _ h).0 (and_parts _ _ k).0

-- a fork or join of a thread may come once
fork-once : (earlier : List Event) (t u : ℕ) (k : Kind) → IsTrue (are_same (thread_forked k) (Some u)) → IsInTurn earlier t k → IsFalse (happened (is_fork_of u) earlier)
fork-once earlier t u (Fork v) h w = subst (λ x. IsFalse (happened (is_fork_of x) earlier)) (eqb-true v.0 u h) w.1
fork-once earlier t u _ h w = absurd (false≢true h)

join-once : (earlier : List Event) (t u : ℕ) (k : Kind) → IsTrue (are_same (thread_joined k) (Some u)) → IsInTurn earlier t k → IsFalse (happened (is_join_of u) earlier)
join-once earlier t u (Join v) h w = subst (λ x. IsFalse (happened (is_join_of x) earlier)) (eqb-true v.0 u h) w.1
join-once earlier t u _ h w = absurd (false≢true h)

-- ---- the law

module _ (bounds : Bounds) (trace : List Event) (well : IsWellFormed bounds trace) (order : List ℕ) (r : IsReordering trace order) where
  may_follow : (y : ℕ) → y < length trace → MayFollow bounds (map (E trace) (range_with_len 0 y)) (E trace y)
  may_follow y l = subst (λ es. MayFollow bounds es (E trace y)) (take-is trace y (omega (arith, l))) (well.each y (E trace y) (slice_get-get_or trace y past l))

  module _ (k : ℕ) (within : k < length order) where
    abbrev here : Event
    here = E trace (slice_index order k)

    abbrev old_past : List Event
    old_past = map (E trace) (range_with_len 0 (slice_index order k))

    abbrev new_past : List Event
    new_past = map (E trace) (take k order)

    -- the own thread's events of a kind
    own_same : (part : Event → Bool) → TellTheSame (λ f. is_by (thread_of here) f && part f) new_past old_past
    own_same part = same_before trace order r k within (λ f. is_by (thread_of here) f && part f)
        (λ f h. clash-thread f here (thread_of here) (and_parts _ _ h).0 (eq-eqb (thread_of here) (thread_of here) refl))
        (own-pair (thread_of here) part)

    -- the events that take or leave a lock alone, where the event at hand accesses it
    lock_same : (m : ℕ) → IsTrue (are_same (cell_of (access_of here.kind)) (Some (m + m + 1))) → TellTheSame (is_on_lock m) new_past old_past
    lock_same m h = same_before trace order r k within (is_on_lock m) (λ f w. let p = lock-cell m f.kind w in clash-cell f here (m + m + 1) p.0 h (or_left _ _ p.1)) (locks-pair m)

    -- the events of a thread's share, where the event at hand takes the lock alone
    share_same : (m u : ℕ) → IsTrue (are_same (cell_of (access_of here.kind)) (Some (m + m + 1))) → IsTrue (is_exclusive (access_of here.kind)) → TellTheSame (is_on_share m u) new_past old_past
    share_same m u h x = same_before trace order r k within (is_on_share m u)
        (λ f w. clash-cell f here (m + m + 1) (share-cell m f.kind (and_parts (is_by u f) _ w).1) h (or_right (is_exclusive (access_of f.kind)) _ x))
        (own-pair u (λ f. are_same (shared_lock_of f.kind) (Some m)))

    abbrev held : Option Event → Option ℕ
    held = option_and_then (λ e. if is_acquire e.kind then Some (thread_of e) else None)

    abbrev shared : Option Event → Bool
    shared o = option_map_or (λ e. is_acquire_shared e.kind) o false

    of_lock : (m : ℕ) (kind : Kind) → here.kind ≡ kind → IsTrue (are_same (cell_of (access_of kind)) (Some (m + m + 1))) → IsTrue (are_same (cell_of (access_of here.kind)) (Some (m + m + 1)))
    of_lock m kind is h = subst (λ a. IsTrue (are_same (cell_of (access_of a)) (Some (m + m + 1)))) (sym is) h

    turn : (kind : Kind) → here.kind ≡ kind → IsInTurn old_past (thread_of here) kind → IsInTurn new_past (thread_of here) kind
    turn (Read x v) is w =
        let cell = subst (λ a. IsTrue (are_same (cell_of (access_of a)) (Some (x.0 + x.0)))) (sym is) (eq-eqb (x.0 + x.0) (x.0 + x.0) refl) in
        let same = same_before trace order r k within (is_write_of x.0) (λ f h. let p = write-cell x.0 f.kind h in clash-cell f here (x.0 + x.0) p.0 cell (or_left _ _ p.1)) (writes-pair x.0) in
        w ∙ sym (ap (λ o. option_map_or (λ e. value_of e.kind) o 0) same.last)
    turn (Acquire m) is w =
        let cell = of_lock m.0 (Acquire m) is (eq-eqb _ _ refl) in
        (ap held (lock_same m.0 cell).last ∙ w.0, λ u. ap shared (share_same m.0 u cell (subst (λ a. IsTrue (is_exclusive (access_of a))) (sym is) refl)).last ∙ w.1 u)
    turn (Release m) is w = ap held (lock_same m.0 (of_lock m.0 (Release m) is (eq-eqb _ _ refl))).last ∙ w
    turn (AcquireShared m) is w = (ap held (lock_same m.0 (of_lock m.0 (AcquireShared m) is (eq-eqb _ _ refl))).last ∙ w.0, ap shared (own_same (λ f. are_same (shared_lock_of f.kind) (Some m.0))).last ∙ w.1)
    turn (ReleaseShared m) is w = ap shared (own_same (λ f. are_same (shared_lock_of f.kind) (Some m.0))).last ∙ w
    turn (Write x v) is w = tt
    turn (Begin l) is w =
        let begins : times (is_begin_by (thread_of here)) new_past ≡ times (is_begin_by (thread_of here)) old_past = (own_same (λ e. is_begin e.kind)).count in
        let ends : times (is_end_by (thread_of here)) new_past ≡ times (is_end_by (thread_of here)) old_past = (own_same (λ e. is_end e.kind)).count in
        rw (begins, ends) w
    turn End is w =
        let begins : times (is_begin_by (thread_of here)) new_past ≡ times (is_begin_by (thread_of here)) old_past = (own_same (λ e. is_begin e.kind)).count in
        let ends : times (is_end_by (thread_of here)) new_past ≡ times (is_end_by (thread_of here)) old_past = (own_same (λ e. is_end e.kind)).count in
        rw (begins, ends) w
    turn (Fork u) is w = (
      w.0,
      never_twice trace order r k within (is_fork_of u.0) (ap (λ a. are_same (thread_forked a) (Some u.0)) is ∙ eq-eqb u.0 u.0 refl)
          (λ y l h. fork-once (map (E trace) (range_with_len 0 y)) (thread_of (E trace y)) u.0 (E trace y).kind h (may_follow y l).in_turn),
    )
    turn (Join u) is w = (
      happened-before trace order r k within (is_exit_by u.0)
          (λ f h. clash-handles f here (ap (λ a. are_same (thread_forked_or_joined a) (Some (thread_of f))) is ∙ eq-eqb u.0 (thread_of f) (sym (eqb-true (thread_of f) u.0 (and_parts _ _ h).0)))) w.0,
      never_twice trace order r k within (is_join_of u.0) (ap (λ a. are_same (thread_joined a) (Some u.0)) is ∙ eq-eqb u.0 u.0 refl)
          (λ y l h. join-once (map (E trace) (range_with_len 0 y)) (thread_of (E trace y)) u.0 (E trace y).kind h (may_follow y l).in_turn),
    )
    turn Exit is w =
        let begins = (own_same (λ e. is_begin e.kind)).count in
        let ends = (own_same (λ e. is_end e.kind)).count in
        let acquires = (own_same (λ e. is_acquire e.kind)).count in
        let releases = (own_same (λ e. is_release e.kind)).count in
        let shares = (own_same (λ e. is_acquire_shared e.kind)).count in
        let unshares = (own_same (λ e. is_release_shared e.kind)).count in
        (begins ∙ (w.0 ∙ sym ends), acquires ∙ (w.1 ∙ sym releases), shares ∙ (w.2 ∙ sym unshares))

    follows : MayFollow bounds new_past here
    follows =
        let w = may_follow (slice_index order k) (inside trace order r k within) in
        record {
          known_thread = w.known_thread;
          known_names = w.known_names;
          born = ⊎_elim (λ first. or_left _ _ first)
              (λ forked. or_right (thread_of here == 0) _ (happened-before trace order r k within (is_fork_of (thread_of here)) (λ f h. clash-handled f here (forked-handled f.kind (thread_of here) h)) forked))
              (or_cases _ _ w.born);
          not_exited = never-before trace order r k within (is_exit_by (thread_of here))
              (λ f h. clash-thread f here (thread_of here) (and_parts _ _ h).0 (eq-eqb (thread_of here) (thread_of here) refl)) w.not_exited;
          in_turn = turn here.kind refl w.in_turn;
        }

  reordered-is : events_in_order trace order ≡ map (E trace) order
  reordered-is = filter_map-is trace order (inside trace order r)

  -- every reordering of a well-formed trace is well-formed
  pub IsWellFormed-reordered : IsWellFormed bounds (events_in_order trace order)
  IsWellFormed-reordered = subst (IsWellFormed bounds) (sym reordered-is) (record {
    each = λ k e at_k.
        let long = length-map order (E trace) in
        let within : k < length order = let l = slice_get_within (map (E trace) order) k e at_k in omega (arith, l, long) in
        let is : E trace (slice_index order k) ≡ e = same_Some (E trace (slice_index order k)) e (sym (map-at trace order k within) ∙ at_k) in
        subst (MayFollow bounds (take k (map (E trace) order))) is (subst (λ es. MayFollow bounds es (E trace (slice_index order k))) (sym (take-map (E trace) k order)) (follows k within));
  })

-- ---- the heap

module _ (trace : List Event) (order : List ℕ) (r : IsReordering trace order) where
  everywhere : (y : ℕ) → y < length trace → Contains (take (length order) order) y ↔ (y < length trace)
  everywhere y l = ((λ w. l), (λ h. let a = IsReordering-place trace order r y l in in_take trace order r (length order) a.0 y (omega arith) a.1 a.2))

  told_whole : (test : Event → Bool) → ((f g : Event) → IsTrue (test f) → IsTrue (test g) → IsTrue (conflict f g)) → TellTheSame test (events_in_order trace order) trace
  told_whole test pairs =
      let same = told_same trace order r test (λ x y h l p q. pairs (E trace x) (E trace y) p q) (length order) (length trace) (omega arith) (omega arith) (λ y l h. everywhere y l) in
      subst (λ es. TellTheSame test es trace) (sym (filter_map-is trace order (inside trace order r)))
      (subst (TellTheSame test (map (E trace) order)) (sym (all-is trace)) (subst (λ xs. TellTheSame test (map (E trace) xs) (map (E trace) (range_with_len 0 (length trace)))) (take-length order) same))

  happened_whole : (test : Event → Bool) → happened test (events_in_order trace order) ≡ happened test trace
  happened_whole test =
      ap (happened test) (filter_map-is trace order (inside trace order r)) ∙ (⊎_elim both none (cases_Bool (happened test trace)))
    where
      there : IsTrue (happened test (map (E trace) order)) → IsTrue (happened test trace)
      there h =
          let w = happened-some test (E trace) order h in
          let a = of_take trace order r (length order) w.0 (omega arith) (subst (λ xs. Contains xs w.0) (sym (take-length order)) w.1) in
          let small : w.0 < length trace = subst (λ z. z < length trace) a.2 (inside trace order r a.0 a.1) in
          subst (λ es. IsTrue (happened test es)) (sym (all-is trace)) (happened-by test (E trace) (range_with_len 0 (length trace)) w.0 ((Contains-range (length trace) w.0).1 small) w.2)

      both : IsTrue (happened test trace) → happened test (map (E trace) order) ≡ happened test trace
      both h =
          let w = happened-some test (E trace) (range_with_len 0 (length trace)) (subst (λ es. IsTrue (happened test es)) (all-is trace) h) in
          let l = (Contains-range (length trace) w.0).0 w.1 in
          happened-by test (E trace) order w.0 (subst (λ xs. Contains xs w.0) (take-length order) ((everywhere w.0 l).1 l)) w.2 ∙ sym h

      none : IsFalse (happened test trace) → happened test (map (E trace) order) ≡ happened test trace
      none h = false_from_ne_true _ (λ k. both_ways _ h (there k)) ∙ sym h

  -- every reordering leaves the same heap
  pub LeavesSameHeap-reordered : LeavesSameHeap trace (events_in_order trace order)
  LeavesSameHeap-reordered = record {
    values = λ x. ap (λ o. option_map_or (λ e. value_of e.kind) o 0) (told_whole (is_write_of x) (writes-pair x)).last;
    holders = λ m. ap (option_and_then (λ e. if is_acquire e.kind then Some (thread_of e) else None)) (told_whole (is_on_lock m) (locks-pair m)).last;
    sharers = λ m t. ap (λ o. option_map_or (λ e. is_acquire_shared e.kind) o false) (told_whole (is_on_share m t) (own-pair t (λ f. are_same (shared_lock_of f.kind) (Some m)))).last;
    statuses = λ t. rw (happened_whole (is_join_of t), happened_whole (is_exit_by t), happened_whole (is_fork_of t)) refl;
    depths = λ t.
        let begins : times (is_begin_by t) (events_in_order trace order) ≡ times (is_begin_by t) trace = (told_whole (is_begin_by t) (own-pair t (λ e. is_begin e.kind))).count in
        let ends : times (is_end_by t) (events_in_order trace order) ≡ times (is_end_by t) trace = (told_whole (is_end_by t) (own-pair t (λ e. is_end e.kind))).count in
        rw (begins, ends) refl;
  }
