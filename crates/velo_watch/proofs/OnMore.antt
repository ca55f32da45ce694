-- One event more: what is left of a log, by what is left of the events before its last.
use Rattle.std.proofs.Common.{◌≡◌, ℕ, zero, suc, ◌+◌, ◌<◌, ◌≤◌, Bool, not, List, [], ◌∷◌, ◌++◌, length, map, get_or, take, Some, refl, sym, ap, subst, ◌∙◌, arith, ⊎_elim}
use Rattle.std.specs.Prelude.{IsFalse, IsTrue, slice_get}
use Rattle.std.specs.Option.{option_map_or}
use Rattle.std.proofs.lemmas.Bool.{cases_Bool}
use Rattle.std.proofs.lemmas.List.{length-take-le}
use Rattle.velo_events.specs.declared.event.Event.{Event}
use Rattle.velo_events.specs.Block.{passes_at}
use Rattle.velo_events.proofs.OnTraces.{slice_get-take}
use Rattle.velo_traces.proofs.Past.{past}
use Rattle.velo_filter.specs.Left.{Omitted, begins_such, is_dissolved, is_left_out, places_of, rest_of}
use Rattle.velo_filter.specs.Marks.{AreMarks, number_of}
use Rattle.velo_filter.specs.Stacks.{stack}
use Rattle.velo_filter.specs.Thinned.{first_of_rest, first_places}
use Rattle.velo_filter.proofs.OnLeft.{rest_of-is, stays}
use Rattle.velo_filter.proofs.OnPrefixesLeft.{rest_of-take, stays-take}
use Rattle.velo_filter.proofs.OnRanks.{rank, staying, staying-goes, staying-stays, take-events_staying}
use Rattle.velo_filter.proofs.OnStacks.{IsStack-stack}
use Rattle.velo_filter.proofs.OnThinned.{first_of_rest-all, first_of_rest-goes, first_of_rest-stays, first_places-all, first_places-goes, first_places-stays}
use Rattle.velo_filter.proofs.OnTurns.{stack-take}

-- two functions that agree on the members of a list
pub map_alike : {X Y : Type 0} (f g : X → Y) (xs : List X) → ((j : ℕ) (x : X) → slice_get xs j ≡ Some x → f x ≡ g x) → map f xs ≡ map g xs
map_alike f g [] same = refl
map_alike {X} {Y} f g (x ∷ xs) same =
    ap (λ (y : Y). y ∷ map f xs) (same 0 x refl) ∙ ap (λ (ys : List Y). g x ∷ ys) (map_alike f g xs (λ j y here. same (suc j) y here))

module _ (left : Omitted) (log : List Event) (n : ℕ) (most : n ≤ length log) where
  abbrev before : List Event
  before = take n log

  -- ---- the marks

  dissolved-take : (b : ℕ) → b < n → is_dissolved left before b ≡ is_dissolved left log b
  unfolding is_dissolved passes_at
  dissolved-take b l = ap (λ o. option_map_or (begins_such left) o Bool.false) (slice_get-take log n b l)

  marks-each : (t : ℕ) → number_of (map (is_dissolved left before) (stack before t n)) ≡ number_of (map (is_dissolved left log) (stack log t n))
  marks-each t =
      ap (λ (bs : List ℕ). number_of (map (is_dissolved left before) bs)) (stack-take log t n n (omega arith))
      ∙ ap number_of (map_alike (is_dissolved left before) (is_dissolved left log) (stack log t n) (λ j b here. dissolved-take b ((IsStack-stack log t n most).below j b here)))

  -- those before the last event are those of the log there
  pub marks-before : (rows : List ℕ) → AreMarks left before (length before) rows → AreMarks left log n rows
  marks-before rows h =
      let same : length before ≡ n = length-take-le n log most in
      record { each = λ t l. (subst (λ k. AreMarks left before k rows) same h).each t l ∙ marks-each t }

  -- ---- what is left

  staying-take : (m : ℕ) → m ≤ n → staying (stays left before) m ≡ staying (stays left log) m
  staying-take zero l = refl
  staying-take (suc m) l =
      let so_far = staying-take m (omega arith) in
      let same = stays-take left log n most m (omega arith) in
      ⊎_elim
      (λ h. staying-stays (stays left before) m (same ∙ h) ∙ (ap (λ ks. ks ++ m ∷ []) so_far ∙ sym (staying-stays (stays left log) m h)))
      (λ h. staying-goes (stays left before) m (same ∙ h) ∙ (so_far ∙ sym (staying-goes (stays left log) m h)))
      (cases_Bool (stays left log m))

  places-before : places_of left before ≡ first_places left log n
  places-before =
      sym (first_places-all left before)
      ∙ (ap (first_places left before) (length-take-le n log most) ∙ staying-take n (omega arith))

  rest-before : rest_of left before ≡ first_of_rest left log n
  rest-before =
      rest_of-take left log n most
      ∙ (ap (take (rank (stays left log) n)) (rest_of-is left log)
      ∙ take-events_staying log (stays left log) n (length log) most (omega arith))

-- the log has one event more
module _ (left : Omitted) (log : List Event) (n : ℕ) (last : length log ≡ n + 1) where
  most : n ≤ length log
  most = omega (arith, last)

  within : n < length log
  within = omega (arith, last)

  rest-all : first_of_rest left log (n + 1) ≡ rest_of left log
  rest-all = ap (first_of_rest left log) (sym last) ∙ first_of_rest-all left log

  places-all : first_places left log (n + 1) ≡ places_of left log
  places-all = ap (first_places left log) (sym last) ∙ first_places-all left log

  pub rest-stays : IsTrue (not (is_left_out left log n)) → rest_of left log ≡ rest_of left (take n log) ++ get_or log n past ∷ []
  rest-stays h =
      sym rest-all
      ∙ (sym (first_of_rest-stays left log n within h) ∙ ap (λ es. es ++ get_or log n past ∷ []) (sym (rest-before left log n most)))

  pub places-stays : IsTrue (not (is_left_out left log n)) → places_of left log ≡ places_of left (take n log) ++ n ∷ []
  places-stays h =
      sym places-all
      ∙ (sym (first_places-stays left log n within h) ∙ ap (λ ks. ks ++ n ∷ []) (sym (places-before left log n most)))

  pub rest-goes : IsFalse (not (is_left_out left log n)) → rest_of left log ≡ rest_of left (take n log)
  rest-goes h = sym rest-all ∙ (sym (first_of_rest-goes left log n within h) ∙ sym (rest-before left log n most))

  pub places-goes : IsFalse (not (is_left_out left log n)) → places_of left log ≡ places_of left (take n log)
  places-goes h = sym places-all ∙ (sym (first_places-goes left log n within h) ∙ sym (places-before left log n most))
