-- The positions that pass a test, counted: which of them stands at which place of the list of those.
use Rattle.std.proofs.Common.{◌≡◌, ℕ, zero, suc, ◌+◌, ◌<◌, ◌≤◌, Bool, cond, List, [], ◌∷◌, ◌++◌, length, length-append, take, Some, refl, sym, ap, ◌∙◌, arith, ⊎_elim, append-nil}
use Rattle.std.specs.Prelude.{filter, filter_map, slice_get, if◌then◌else◌, IsTrue, IsFalse}
use Rattle.std.specs.List.{range_with_len, cons_option}
use Rattle.std.proofs.Math.Seq.{take-length}
use Rattle.std.proofs.lemmas.List.{take-append-le}
use Rattle.std.proofs.lemmas.List.Elements.{filter-append, filter_map-append}
use Rattle.std.proofs.lemmas.Bool.{cases_Bool, cases_lt, cases_order}
use Rattle.velo_events.specs.declared.event.Event.{Event}
use Rattle.velo_events.proofs.OnTraces.{slice_get-append, slice_get-push}
use Rattle.velo_events.proofs.OnScans.{event_at}
use Rattle.velo_events.proofs.OnWellFormed.{count_below}

range_push : (a n : ℕ) → range_with_len a (suc n) ≡ range_with_len a n ++ (a + n) ∷ []
range_push a zero = ap (λ k. k ∷ []) (let same : a ≡ a + 0 = omega arith in same)
range_push a (suc n) = ap (λ xs. a ∷ xs) (range_push (a + 1) n ∙ ap (λ k. range_with_len (a + 1) n ++ k ∷ []) (let same : a + 1 + n ≡ a + suc n = omega arith in same))

-- ---- how many pass below a number

module _ (stays : ℕ → Bool) where
  -- how many positions below n stay: the place of position n among those that stay
  abbrev pub rank : ℕ → ℕ
  rank n = count_below n stays

  pub rank-stays : (n : ℕ) → IsTrue (stays n) → rank (suc n) ≡ rank n + 1
  unfolding count_below
  rank-stays n h = ap (λ b. count_below n stays + (if b then 1 else 0)) h

  pub rank-goes : (n : ℕ) → IsFalse (stays n) → rank (suc n) ≡ rank n
  unfolding count_below
  rank-goes n h = let e : rank (suc n) ≡ rank n + 0 = ap (λ b. count_below n stays + (if b then 1 else 0)) h in omega (arith, e)

  rank-step : (n : ℕ) → rank n ≤ rank (suc n)
  rank-step n = ⊎_elim (λ h. let e = rank-stays n h in omega (arith, e)) (λ h. let e = rank-goes n h in omega (arith, e)) (cases_Bool (stays n))

  pub rank-zero : rank 0 ≡ 0
  unfolding count_below
  rank-zero = refl

  pub rank-le : (m n : ℕ) → m ≤ n → rank m ≤ rank n
  rank-le m zero l = let same : m ≡ zero = omega arith in omega (arith, ap rank same)
  rank-le m (suc n) l = ⊎_elim
      (λ below. let rest = rank-le m n (omega arith) in let step = rank-step n in omega (arith, rest, step))
      (λ at. let same : m ≡ suc n = omega arith in omega (arith, ap rank same)) (cases_lt m (suc n))

  -- a position that stays has a place before those of the later ones
  pub rank-lt : (m n : ℕ) → IsTrue (stays m) → m < n → rank m < rank n
  rank-lt m n h l = let more = rank-stays m h in let rest = rank-le (suc m) n (omega arith) in omega (arith, more, rest)

  -- so the places are in the order of the positions
  pub rank-lt_back : (m n : ℕ) → rank m < rank n → m < n
  rank-lt_back m n l = ⊎_elim (λ h. h) (λ g. let e = rank-le n m g in absurd (omega (arith, e, l))) (cases_lt m n)

  pub rank-le_back : (m n : ℕ) → IsTrue (stays n) → rank m ≤ rank n → m ≤ n
  rank-le_back m n h l = ⊎_elim (λ g. let e = rank-lt n m h g in absurd (omega (arith, e, l))) (λ g. g) (cases_lt n m)

  pub rank-one : (m n : ℕ) → IsTrue (stays m) → IsTrue (stays n) → rank m ≡ rank n → m ≡ n
  rank-one m n h g same = ⊎_elim (λ e. e) (⊎_elim (λ l. let e = rank-lt m n h l in absurd (omega (arith, e, same))) (λ l. let e = rank-lt n m g l in absurd (omega (arith, e, same)))) (cases_order m n)

  -- each place is that of a position that stays
  pub rank-from : (n k : ℕ) → k < rank n → (i : ℕ) × (i < n) × IsTrue (stays i) × (rank i ≡ k)
  rank-from zero k l = absurd (let none = rank-zero in omega (arith, l, none))
  rank-from (suc n) k l = ⊎_elim
      (λ below. let w = rank-from n k below in (w.0, let m = w.1 in omega (arith, m), w.2, w.3))
      (λ above. ⊎_elim
      (λ h. let e = rank-stays n h in (n, omega arith, h, omega (arith, e, l, above)))
      (λ h. let e = rank-goes n h in absurd (omega (arith, e, l, above))) (cases_Bool (stays n)))
      (cases_lt k (rank n))

  -- ---- the list of those that stay

  -- those below n
  abbrev pub staying : ℕ → List ℕ
  staying n = filter stays (range_with_len 0 n)

  staying-step : (n : ℕ) → staying (suc n) ≡ staying n ++ filter stays (n ∷ [])
  staying-step n =
      ap (filter stays) (range_push 0 n ∙ ap (λ k. range_with_len 0 n ++ k ∷ []) (let same : 0 + n ≡ n = omega arith in same))
      ∙ filter-append stays (range_with_len 0 n) (n ∷ [])

  pub staying-stays : (n : ℕ) → IsTrue (stays n) → staying (suc n) ≡ staying n ++ n ∷ []
  staying-stays n h = staying-step n ∙ ap (λ b. staying n ++ cond b (n ∷ []) []) h

  pub staying-goes : (n : ℕ) → IsFalse (stays n) → staying (suc n) ≡ staying n
  staying-goes n h = staying-step n ∙ (ap (λ b. staying n ++ cond b (n ∷ []) []) h ∙ append-nil (staying n))

  pub length-staying : (n : ℕ) → length (staying n) ≡ rank n
  length-staying zero = sym rank-zero
  length-staying (suc n) = ⊎_elim
      (λ h. let rest = length-staying n in let more = ap length (staying-stays n h) in let long = length-append (staying n) (n ∷ []) in let e = rank-stays n h in omega (arith, rest, more, long, e))
      (λ h. let rest = length-staying n in let more = ap length (staying-goes n h) in let e = rank-goes n h in omega (arith, rest, more, e)) (cases_Bool (stays n))

  -- the first ones
  pub take-staying : (m n : ℕ) → m ≤ n → take (rank m) (staying n) ≡ staying m
  take-staying m zero l =
      let same : m ≡ 0 = omega arith in
      ap (λ k. take (rank k) (staying 0)) same ∙ (ap (λ k. take k (staying 0)) rank-zero ∙ ap staying (sym same))
  take-staying m (suc n) l = ⊎_elim
      (λ below. let short = rank-le m n (omega arith) in let long = length-staying n in ⊎_elim
      (λ h. ap (take (rank m)) (staying-stays n h) ∙ (take-append-le (rank m) (staying n) (n ∷ []) (omega (arith, short, long)) ∙ take-staying m n (omega arith)))
      (λ h. ap (take (rank m)) (staying-goes n h) ∙ take-staying m n (omega arith))
      (cases_Bool (stays n)))
      (λ at. let same : m ≡ suc n = omega arith in ap (λ k. take (rank k) (staying (suc n))) same ∙ (ap (λ k. take k (staying (suc n))) (sym (length-staying (suc n))) ∙ (take-length (staying (suc n)) ∙ ap staying (sym same))))
      (cases_lt m (suc n))

  -- a position that stays stands at its place
  pub staying-at : (n i : ℕ) → i < n → IsTrue (stays i) → slice_get (staying n) (rank i) ≡ Some i
  staying-at zero i l h = absurd (omega arith)
  staying-at (suc n) i l h = ⊎_elim
      (λ below. let rest = staying-at n i below h in ⊎_elim
      (λ g. ap (λ xs. slice_get xs (rank i)) (staying-stays n g) ∙ (slice_get-append (staying n) (n ∷ []) (rank i) (let long = length-staying n in let less = rank-lt i n h below in omega (arith, long, less)) ∙ rest))
      (λ g. ap (λ xs. slice_get xs (rank i)) (staying-goes n g) ∙ rest)
      (cases_Bool (stays n)))
      (λ above. let same : n ≡ i = omega arith in
      let g : stays n ≡ _ = ap stays same ∙ h in
      ap (λ xs. slice_get xs (rank i)) (staying-stays n g)
      ∙ (ap (λ k. slice_get (staying n ++ n ∷ []) (rank k)) (sym same)
      ∙ (ap (λ k. slice_get (staying n ++ n ∷ []) k) (sym (length-staying n))
      ∙ (slice_get-push (staying n) n ∙ ap Some same))))
      (cases_lt i n)

-- ---- the events at these positions

module _ (trace : List Event) (stays : ℕ → Bool) where
  -- those below n
  abbrev pub events_staying : ℕ → List Event
  events_staying n = filter_map (slice_get trace) (staying stays n)

  pub events_staying-stays : (n : ℕ) (e : Event) → slice_get trace n ≡ Some e → IsTrue (stays n) → events_staying (suc n) ≡ events_staying n ++ e ∷ []
  events_staying-stays n e here h =
      ap (filter_map (slice_get trace)) (staying-stays stays n h)
      ∙ (filter_map-append (slice_get trace) (staying stays n) (n ∷ []) ∙ ap (λ o. events_staying n ++ cons_option o []) here)

  pub events_staying-goes : (n : ℕ) → IsFalse (stays n) → events_staying (suc n) ≡ events_staying n
  events_staying-goes n h = ap (filter_map (slice_get trace)) (staying-goes stays n h)

  pub length-events_staying : (n : ℕ) → n ≤ length trace → length (events_staying n) ≡ rank stays n
  length-events_staying zero l = sym (rank-zero stays)
  length-events_staying (suc n) l = ⊎_elim
      (λ h. let e = event_at trace n (omega arith) in
      let rest = length-events_staying n (omega arith) in let more = ap length (events_staying-stays n e.0 e.1 h) in let long = length-append (events_staying n) (e.0 ∷ []) in let r = rank-stays stays n h in omega (arith, rest, more, long, r))
      (λ h. let rest = length-events_staying n (omega arith) in let more = ap length (events_staying-goes n h) in let r = rank-goes stays n h in omega (arith, rest, more, r)) (cases_Bool (stays n))

  -- a position that stays has its event at its place
  pub events_staying-at : (n i : ℕ) → n ≤ length trace → i < n → IsTrue (stays i) → slice_get (events_staying n) (rank stays i) ≡ slice_get trace i
  events_staying-at zero i most l h = absurd (omega arith)
  events_staying-at (suc n) i most l h = ⊎_elim
      (λ below. let rest = events_staying-at n i (omega arith) below h in ⊎_elim
      (λ g. let e = event_at trace n (omega arith) in
      ap (λ es. slice_get es (rank stays i)) (events_staying-stays n e.0 e.1 g) ∙ (slice_get-append (events_staying n) (e.0 ∷ []) (rank stays i) (let long = length-events_staying n (omega arith) in let less = rank-lt stays i n h below in omega (arith, long, less)) ∙ rest))
      (λ g. ap (λ es. slice_get es (rank stays i)) (events_staying-goes n g) ∙ rest)
      (cases_Bool (stays n)))
      (λ above. let same : n ≡ i = omega arith in
      let e = event_at trace n (omega arith) in
      let g : stays n ≡ _ = ap stays same ∙ h in
      ap (λ es. slice_get es (rank stays i)) (events_staying-stays n e.0 e.1 g)
      ∙ (ap (λ k. slice_get (events_staying n ++ e.0 ∷ []) (rank stays k)) (sym same)
      ∙ (ap (λ k. slice_get (events_staying n ++ e.0 ∷ []) k) (sym (length-events_staying n (omega arith)))
      ∙ (slice_get-push (events_staying n) e.0 ∙ (sym e.1 ∙ ap (slice_get trace) same)))))
      (cases_lt i n)

  -- the first ones
  pub take-events_staying : (m n : ℕ) → m ≤ n → n ≤ length trace → take (rank stays m) (events_staying n) ≡ events_staying m
  take-events_staying m zero l most =
      let same : m ≡ 0 = omega arith in
      ap (λ k. take (rank stays k) (events_staying 0)) same ∙ (ap (λ k. take k (events_staying 0)) (rank-zero stays) ∙ ap events_staying (sym same))
  take-events_staying m (suc n) l most = ⊎_elim
      (λ below. let short = rank-le stays m n (omega arith) in let long = length-events_staying n (omega arith) in ⊎_elim
      (λ h. let e = event_at trace n (omega arith) in
      ap (take (rank stays m)) (events_staying-stays n e.0 e.1 h) ∙ (take-append-le (rank stays m) (events_staying n) (e.0 ∷ []) (omega (arith, short, long)) ∙ take-events_staying m n (omega arith) (omega arith)))
      (λ h. ap (take (rank stays m)) (events_staying-goes n h) ∙ take-events_staying m n (omega arith) (omega arith))
      (cases_Bool (stays n)))
      (λ at. let same : m ≡ suc n = omega arith in ap (λ k. take (rank stays k) (events_staying (suc n))) same ∙ (ap (λ k. take k (events_staying (suc n))) (sym (length-events_staying (suc n) most)) ∙ (take-length (events_staying (suc n)) ∙ ap events_staying (sym same))))
      (cases_lt m (suc n))
