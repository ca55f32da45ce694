-- An event that is brought forward past events that it does not conflict with: this is a reordering, and what it makes of the trace.
use Rattle.std.proofs.Common.{◌≡◌, ℕ, zero, suc, ◌+◌, ◌<◌, cond, List, [], ◌∷◌, ◌++◌, length, length-append, Some, refl, sym, ap, ◌∙◌, subst, arith}
use Rattle.std.specs.Prelude.{◌↔◌, ◌==◌, nat_lt, if◌then◌else◌, count_by, filter_map, slice_get, IsFalse, All, AllPairs}
use Rattle.std.specs.List.{range_with_len, cons_option}
use Rattle.std.proofs.lemmas.List.Elements.{All-append, All-cons, filter_map-append}
use Rattle.std.proofs.lemmas.List.FromFn.{length-range_with_len, get_or-range_with_len}
use Rattle.std.proofs.lemmas.List.Kept.{AllPairs-cons}
use Rattle.std.proofs.lemmas.List.Sums.{sum_by-append, sum_by-cons}
use Rattle.velo_events.specs.declared.config.Bounds.{Bounds}
use Rattle.velo_events.specs.declared.event.Event.{Event}
use Rattle.velo_events.specs.WellFormed.{IsWellFormed}
use Rattle.velo_events.specs.Block.{positions}
use Rattle.velo_events.specs.Graph.{conflict_at, HasCycle}
use Rattle.velo_events.specs.Reordering.{IsReordering, events_in_order}
use Rattle.velo_events.proofs.OnTraces.{slice_get-append}
use Rattle.velo_events.proofs.OnScans.{event_at}
use Rattle.velo_events.proofs.OnPositions.{count_positions, AllPairs-append}
use Rattle.velo_events.proofs.OnBlame.{KeepsOrder, IsReordering-by}
use Rattle.velo_certify.specs.Reordered.{LeavesSameHeap}
use Rattle.velo_certify.proofs.OnReordered.{IsWellFormed-reordered, LeavesSameHeap-reordered}
use Rattle.velo_movers.specs.Moves.{DoesNotConflict, forward_order}
use Rattle.velo_movers.proofs.OnCyclesMoved.{HasCycle-reordered}

-- ---- ranges of numbers

range_split : (a n m : ℕ) → range_with_len a (n + m) ≡ range_with_len a n ++ range_with_len (a + n) m
range_split a zero m = ap (range_with_len a) (let e : 0 + m ≡ m = omega arith in e) ∙ ap (λ b. range_with_len b m) (let e : a ≡ a + 0 = omega arith in e)
range_split a (suc n) m =
    ap (range_with_len a) (let e : suc n + m ≡ suc (n + m) = omega arith in e)
    ∙ (ap (λ xs. a ∷ xs) (range_split (a + 1) n m)
    ∙ ap (λ b. a ∷ (range_with_len (a + 1) n ++ range_with_len b m)) (let e : a + 1 + n ≡ a + suc n = omega arith in e))

All-range : (P : ℕ → Type 0) (a n : ℕ) → ((k : ℕ) → k < n → P (a + k)) → All P (range_with_len a n)
All-range P a n h k d l =
    let long = length-range_with_len a n in
    let below : k < n = omega (arith, l, long) in
    subst P (sym (get_or-range_with_len a n k d below)) (h k below)

-- ---- events by ranges of positions

slice_get-append_right : (xs ys : List Event) (j : ℕ) → slice_get (xs ++ ys) (length xs + j) ≡ slice_get ys j
slice_get-append_right [] ys j = ap (slice_get ys) (let e : 0 + j ≡ j = omega arith in e)
slice_get-append_right (x ∷ xs) ys j = ap (slice_get (x ∷ (xs ++ ys))) (let e : suc (length xs) + j ≡ suc (length xs + j) = omega arith in e) ∙ slice_get-append_right xs ys j

piece_at : (trace : List Event) (a : ℕ) (piece : List Event) → ((j : ℕ) → j < length piece → slice_get trace (a + j) ≡ slice_get piece j) → filter_map (slice_get trace) (range_with_len a (length piece)) ≡ piece
piece_at trace a [] h = refl
piece_at trace a (f ∷ piece) h =
    ap (λ o. cons_option o (filter_map (slice_get trace) (range_with_len (a + 1) (length piece)))) (ap (slice_get trace) (let e : a ≡ a + 0 = omega arith in e) ∙ h 0 (omega arith))
    ∙ ap (λ es. f ∷ es) (piece_at trace (a + 1) piece (λ j l. ap (slice_get trace) (let e : a + 1 + j ≡ a + suc j = omega arith in e) ∙ h (suc j) (omega (arith, l))))

-- ---- the move

module _ (log stretch : List Event) (e : Event) (rest : List Event) where
  abbrev trace : List Event
  trace = log ++ (stretch ++ e ∷ rest)

  abbrev a : ℕ
  a = length log

  abbrev n : ℕ
  n = length stretch

  abbrev m : ℕ
  m = length rest

  abbrev x : ℕ
  x = a + n

  abbrev order : List ℕ
  order = forward_order a n m

  in_stretch : (j : ℕ) → j < n → slice_get trace (a + j) ≡ slice_get stretch j
  in_stretch j l = slice_get-append_right log (stretch ++ e ∷ rest) j ∙ slice_get-append stretch (e ∷ rest) j l

  from_event : (j : ℕ) → slice_get trace (x + j) ≡ slice_get (e ∷ rest) j
  from_event j =
      ap (slice_get trace) (let same : x + j ≡ a + (n + j) = omega arith in same)
      ∙ (slice_get-append_right log (stretch ++ e ∷ rest) (n + j) ∙ slice_get-append_right stretch (e ∷ rest) j)

  -- the events in the new order
  pub events-forward : events_in_order (log ++ (stretch ++ e ∷ rest)) (forward_order (length log) (length stretch) (length rest)) ≡ log ++ e ∷ (stretch ++ rest)
  events-forward =
      filter_map-append (slice_get trace) (range_with_len 0 a) (x ∷ (range_with_len a n ++ range_with_len (x + 1) m))
      ∙ (ap (λ es. es ++ filter_map (slice_get trace) (x ∷ (range_with_len a n ++ range_with_len (x + 1) m))) first
      ∙ ap (λ es. log ++ es) (ap (λ o. cons_option o (filter_map (slice_get trace) (range_with_len a n ++ range_with_len (x + 1) m))) here
      ∙ ap (λ es. e ∷ es) (filter_map-append (slice_get trace) (range_with_len a n) (range_with_len (x + 1) m)
      ∙ (ap (λ es. es ++ filter_map (slice_get trace) (range_with_len (x + 1) m)) (piece_at trace a stretch in_stretch)
      ∙ ap (λ es. stretch ++ es) (piece_at trace (x + 1) rest (λ j l. ap (slice_get trace) (let same : x + 1 + j ≡ x + suc j = omega arith in same) ∙ from_event (suc j)))))))
    where
      first : filter_map (slice_get trace) (range_with_len 0 a) ≡ log
      first = piece_at trace 0 log (λ j l. ap (slice_get trace) (let same : 0 + j ≡ j = omega arith in same) ∙ slice_get-append log (stretch ++ e ∷ rest) j l)

      here : slice_get trace x ≡ Some e
      here = ap (slice_get trace) (let same : x ≡ x + 0 = omega arith in same) ∙ from_event 0

  split : positions trace ≡ range_with_len 0 a ++ (range_with_len a n ++ x ∷ range_with_len (x + 1) m)
  split =
      ap (range_with_len 0) (let long = length-append log (stretch ++ e ∷ rest) in let more = length-append stretch (e ∷ rest) in let all : length trace ≡ a + (n + suc m) = omega (arith, long, more) in all)
      ∙ (range_split 0 a (n + suc m)
      ∙ (ap (λ b. range_with_len 0 a ++ range_with_len b (n + suc m)) (let same : 0 + a ≡ a = omega arith in same)
      ∙ ap (λ xs. range_with_len 0 a ++ xs) (range_split a n (suc m))))

  once : (i : ℕ) → count_by (λ k. k == i) order ≡ (if nat_lt i (length trace) then 1 else 0)
  once i =
      let f : ℕ → ℕ = λ k. cond {A = ℕ} (k == i) 1 0 in
      let new_first = sum_by-append f (range_with_len 0 a) (x ∷ (range_with_len a n ++ range_with_len (x + 1) m)) in
      let new_here = sum_by-cons f x (range_with_len a n ++ range_with_len (x + 1) m) in
      let new_rest = sum_by-append f (range_with_len a n) (range_with_len (x + 1) m) in
      let old_first = sum_by-append f (range_with_len 0 a) (range_with_len a n ++ x ∷ range_with_len (x + 1) m) in
      let old_rest = sum_by-append f (range_with_len a n) (x ∷ range_with_len (x + 1) m) in
      let old_here = sum_by-cons f x (range_with_len (x + 1) m) in
      let same : count_by (λ k. k == i) order ≡ count_by (λ k. k == i) (positions trace) = (let e : count_by (λ k. k == i) order ≡ count_by (λ k. k == i) (range_with_len 0 a ++ (range_with_len a n ++ x ∷ range_with_len (x + 1) m)) = omega (arith, new_first, new_here, new_rest, old_first, old_rest, old_here) in e) ∙ ap (count_by (λ k. k == i)) (sym split) in
      same ∙ count_positions trace i

  module _ (passes : DoesNotConflict stretch e) where
    abbrev Keeps : ℕ → ℕ → Type 0
    Keeps = KeepsOrder trace

    rising : (b k : ℕ) → AllPairs Keeps (range_with_len b k)
    rising b k i j d l within moved =
        let long = length-range_with_len b k in
        let at_i = get_or-range_with_len b k i d (omega (arith, l, within, long)) in
        let at_j = get_or-range_with_len b k j d (omega (arith, within, long)) in
        absurd (omega (arith, moved, at_i, at_j, l))

    no_conflict : (k : ℕ) → k < n → IsFalse (conflict_at trace (a + k) x)
    unfolding conflict_at
    no_conflict k l =
        let f = event_at stretch k l in
        rw (in_stretch k l ∙ f.1, ap (slice_get trace) (let same : x ≡ x + 0 = omega arith in same) ∙ from_event 0) (passes.each k f.0 f.1)

    kept : AllPairs Keeps order
    kept =
        AllPairs-append Keeps (range_with_len 0 a) (x ∷ (range_with_len a n ++ range_with_len (x + 1) m)) (rising 0 a)
        (AllPairs-cons Keeps x (range_with_len a n ++ range_with_len (x + 1) m)
        (All-append (Keeps x) (range_with_len a n) (range_with_len (x + 1) m)
        (All-range (Keeps x) a n (λ k l moved. no_conflict k l))
        (All-range (Keeps x) (x + 1) m (λ k l moved. absurd (omega (arith, moved)))))
        (AllPairs-append Keeps (range_with_len a n) (range_with_len (x + 1) m) (rising a n) (rising (x + 1) m)
        (All-range (λ y. All (Keeps y) (range_with_len (x + 1) m)) a n (λ k l. All-range (Keeps (a + k)) (x + 1) m (λ j h moved. absurd (omega (arith, moved, l)))))))
        (All-range (λ y. All (Keeps y) (x ∷ (range_with_len a n ++ range_with_len (x + 1) m))) 0 a
        (λ k l. All-cons (Keeps (0 + k)) x (range_with_len a n ++ range_with_len (x + 1) m) (λ moved. absurd (omega (arith, moved, l)))
        (All-append (Keeps (0 + k)) (range_with_len a n) (range_with_len (x + 1) m)
        (All-range (Keeps (0 + k)) a n (λ j h moved. absurd (omega (arith, moved, l))))
        (All-range (Keeps (0 + k)) (x + 1) m (λ j h moved. absurd (omega (arith, moved, l)))))))

    pub IsReordering-forward : IsReordering (log ++ (stretch ++ e ∷ rest)) (forward_order (length log) (length stretch) (length rest))
    IsReordering-forward = IsReordering-by trace order once kept

    -- what the move keeps
    pub IsWellFormed-forward : (bounds : Bounds) → IsWellFormed bounds (log ++ (stretch ++ e ∷ rest)) → IsWellFormed bounds (log ++ e ∷ (stretch ++ rest))
    IsWellFormed-forward bounds well = subst (IsWellFormed bounds) events-forward (IsWellFormed-reordered bounds trace well order IsReordering-forward)

    pub LeavesSameHeap-forward : LeavesSameHeap (log ++ (stretch ++ e ∷ rest)) (log ++ e ∷ (stretch ++ rest))
    LeavesSameHeap-forward = subst (LeavesSameHeap trace) events-forward (LeavesSameHeap-reordered trace order IsReordering-forward)

    pub HasCycle-forward : (bounds : Bounds) → IsWellFormed bounds (log ++ (stretch ++ e ∷ rest)) → HasCycle (log ++ (stretch ++ e ∷ rest)) ↔ HasCycle (log ++ e ∷ (stretch ++ rest))
    HasCycle-forward bounds well = subst (λ es. HasCycle trace ↔ HasCycle es) events-forward (HasCycle-reordered bounds trace well order IsReordering-forward)
