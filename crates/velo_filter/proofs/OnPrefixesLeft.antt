-- What is left of the first events of a log is the first of what is left.
use Rattle.std.proofs.Common.{◌≡◌, ℕ, zero, suc, ◌+◌, ◌<◌, ◌≤◌, Bool, not, List, [], ◌∷◌, ◌++◌, length, take, drop, refl, sym, ap, ◌∙◌, arith, ⊎_elim}
use Rattle.std.specs.Prelude.{◌&&◌, ◌||◌, slice_get}
use Rattle.std.specs.Option.{option_map_or}
use Rattle.std.proofs.lemmas.Bool.{cases_Bool}
use Rattle.std.proofs.lemmas.List.{take-append-drop, length-take-le}
use Rattle.velo_events.specs.declared.event.Event.{Event}
use Rattle.velo_events.specs.Event.{thread_of}
use Rattle.velo_events.specs.Block.{any_below, passes_at, is_open_at}
use Rattle.velo_events.proofs.OnBlocks.{any_below-same, is_open_at-append}
use Rattle.velo_events.proofs.OnTraces.{slice_get-append, slice_get-take, passes_at-append}
use Rattle.velo_events.proofs.OnScans.{event_at}
use Rattle.velo_events.proofs.OnWellFormed.{count_below-same}
use Rattle.velo_filter.specs.Left.{Omitted, begins_such, is_on_such, is_dissolved, ends_at, is_left_out, rest_of}
use Rattle.velo_filter.proofs.OnRanks.{rank, events_staying, events_staying-stays, events_staying-goes, take-events_staying}
use Rattle.velo_filter.proofs.OnLeft.{stays, rest_of-is}

-- ---- more events behind it do not change whether a position stays

module _ (left : Omitted) (log more : List Event) where
  dissolved-append : (b : ℕ) → b < length log → is_dissolved left (log ++ more) b ≡ is_dissolved left log b
  unfolding is_dissolved
  dissolved-append b l = passes_at-append log more (begins_such left) b l

  ends_at-append : (b i : ℕ) → b < i → i < length log → ends_at (log ++ more) b i ≡ ends_at log b i
  unfolding ends_at passes_at
  ends_at-append b i l h =
      ap (λ o. option_map_or (λ e. is_open_at (log ++ more) (thread_of e) b i && not (is_open_at (log ++ more) (thread_of e) b (i + 1))) o Bool.false) (slice_get-append log more i h)
      ∙ ap (λ (f : Event → Bool). option_map_or f (slice_get log i) Bool.false) (λ d e.
      (ap (λ x. x && not (is_open_at (log ++ more) (thread_of e) b (i + 1))) (is_open_at-append log more (thread_of e) b i (omega (arith, l, h)) (omega (arith, h)))
      ∙ ap (λ x. is_open_at log (thread_of e) b i && not x) (is_open_at-append log more (thread_of e) b (i + 1) (omega (arith, l, h)) (omega (arith, h)))) d)

  pub is_left_out-append : (i : ℕ) → i < length log → is_left_out left (log ++ more) i ≡ is_left_out left log i
  unfolding is_left_out
  is_left_out-append i h =
      ap (λ x. x || any_below i (λ b. is_dissolved left (log ++ more) b && ends_at (log ++ more) b i) || passes_at (log ++ more) (is_on_such left) i) (dissolved-append i h)
      ∙ (ap (λ x. is_dissolved left log i || x || passes_at (log ++ more) (is_on_such left) i)
      (any_below-same i _ _ (λ b l. ap (λ x. x && ends_at (log ++ more) b i) (dissolved-append b (omega (arith, l, h))) ∙ ap (λ x. is_dissolved left log b && x) (ends_at-append b i l h)))
      ∙ ap (λ x. is_dissolved left log i || any_below i (λ b. is_dissolved left log b && ends_at log b i) || x) (passes_at-append log more (is_on_such left) i h))

module _ (left : Omitted) (log : List Event) (n : ℕ) (most : n ≤ length log) where
  short : length (take n log) ≡ n
  short = length-take-le n log most

  pub stays-take : (i : ℕ) → i < n → stays left (take n log) i ≡ stays left log i
  stays-take i l =
      ap not (sym (is_left_out-append left (take n log) (drop n log) i (let e = short in omega (arith, l, e)))
      ∙ ap (λ es. is_left_out left es i) (take-append-drop n log))

  pub rank-take : (m : ℕ) → m ≤ n → rank (stays left (take n log)) m ≡ rank (stays left log) m
  rank-take m l = count_below-same m _ _ (λ k h. stays-take k (omega (arith, h, l)))

  events-take : (m : ℕ) → m ≤ n → events_staying (take n log) (stays left (take n log)) m ≡ events_staying log (stays left log) m
  events-take zero l = refl
  events-take (suc m) l =
      let e = event_at log m (omega (arith, l, most)) in
      let here : slice_get (take n log) m ≡ _ = slice_get-take log n m (omega (arith, l)) ∙ e.1 in
      let before = events-take m (omega (arith, l)) in
      let same = stays-take m (omega (arith, l)) in
      ⊎_elim
      (λ h. events_staying-stays (take n log) (stays left (take n log)) m e.0 here (same ∙ h) ∙ (ap (λ es. es ++ e.0 ∷ []) before ∙ sym (events_staying-stays log (stays left log) m e.0 e.1 h)))
      (λ h. events_staying-goes (take n log) (stays left (take n log)) m (same ∙ h) ∙ (before ∙ sym (events_staying-goes log (stays left log) m h)))
      (cases_Bool (stays left log m))

  -- the first n events leave the first ones of what is left
  pub rest_of-take : rest_of left (take n log) ≡ take (rank (stays left log) n) (rest_of left log)
  rest_of-take =
      rest_of-is left (take n log)
      ∙ (ap (events_staying (take n log) (stays left (take n log))) short
      ∙ (events-take n (omega arith)
      ∙ (sym (take-events_staying log (stays left log) n (length log) most (omega arith)) ∙ ap (take (rank (stays left log) n)) (sym (rest_of-is left log)))))
