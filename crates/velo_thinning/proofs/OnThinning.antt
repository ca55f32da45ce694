-- A log without what is in order, and then without repeats.
use Rattle.std.proofs.Common.{◌≡◌, ℕ, zero, suc, ◌<◌, ◌≤◌, Bool, false, not, Some, List, length, map, get_or, refl, sym, ap, ◌∙◌, subst, arith, ⊎_elim}
use Rattle.std.specs.Prelude.{All, slice_get, slice_index}
use Rattle.std.proofs.lemmas.Bool.{cases_Bool}
use Rattle.std.proofs.lemmas.Option.{get_or_from_slice_get}
use Rattle.std.proofs.lemmas.List.{get_or-map, length-map}
use Rattle.velo_events.specs.declared.config.Bounds.{Bounds}
use Rattle.velo_events.specs.declared.event.Event.{Event}
use Rattle.velo_events.specs.WellFormed.{IsWellFormed}
use Rattle.velo_filter.specs.Left.{Omitted, places_of, place_of, rest_of}
use Rattle.velo_filter.specs.declared.thinned.Thinned.{Thinned}
use Rattle.velo_filter.proofs.OnRanks.{rank, rank-zero, rank-stays, rank-goes, rank-from, staying, staying-at, length-staying, length-events_staying}
use Rattle.velo_filter.proofs.OnLeft.{stays, rest_of-is, length-sub}
use Rattle.velo_filter.proofs.OnTurns.{IsWellFormed-rest}
use Rattle.velo_laws.specs.Ordered.{only}
use Rattle.velo_laws.specs.Repeats.{without, place_with}
use Rattle.velo_laws.specs.Judged.{IsJudgedBy}
use Rattle.velo_laws.proofs.OnJudged.{judged_through_law}
use Rattle.velo_laws.proofs.OnJudgedOperations.{judged_operations_law}
use Rattle.velo_laws.proofs.OnJudgedRepeats.{judged_repeats_law}
use Rattle.velo_laws.proofs.OnRepeatsRuns.{repeat_run_law}
use Rattle.velo_thinning.specs.Races.{no_lock, IsThinned}
use Rattle.velo_thinning.specs.Repeating.{IsWithoutRepeats}
use Rattle.velo_thinning.proofs.OnAtOnce.{at_once}
use Rattle.velo_thinning.specs.Thinning.{without_variables, place_in, IsThinnedLog}

-- how many pass below a number is no more than that
count-le : (test : ℕ → Bool) (n : ℕ) → rank test n ≤ n
count-le test zero = let z = rank-zero test in omega (arith, z)
count-le test (suc n) =
    let before = count-le test n in
    ⊎_elim (λ h. let e = rank-stays test n h in omega (arith, e, before)) (λ h. let e = rank-goes test n h in omega (arith, e, before)) (cases_Bool (test n))

-- what is left is no longer
pub rest-fewer : (omitted : Omitted) (log : List Event) → length (rest_of omitted log) ≤ length log
rest-fewer omitted log =
    let e = ap length (rest_of-is omitted log) in
    let f = length-sub omitted log in
    let m = count-le (stays omitted log) (length log) in
    omega (arith, e, f, m)

pub rest-le : (variables : ℕ → Bool) (log : List Event) → length (without_variables variables log) ≤ length log
rest-le variables log = rest-fewer (only no_lock variables) log

-- places among the places are positions of the log
pub map-place_of : (omitted : Omitted) (log : List Event) (inner : List ℕ) → map (λ place. slice_index (places_of omitted log) place) inner ≡ map (place_of omitted log) inner
unfolding place_of
map-place_of omitted log inner = refl

-- each place of those that stay is one of all
staying-within : (test : ℕ → Bool) (n : ℕ) → All (λ place. place < n) (staying test n)
staying-within test n i d l =
    let w = rank-from test n i (let e = length-staying test n in omega (arith, l, e)) in
    let here : slice_get (staying test n) i ≡ Some w.0 = ap (slice_get (staying test n)) (sym w.3) ∙ staying-at test n w.0 w.1 w.2 in
    subst (λ place. place < n) (sym (get_or_from_slice_get (staying test n) i w.0 d here)) w.1

pub length-places : (omitted : Omitted) (log : List Event) → length (places_of omitted log) ≡ length (rest_of omitted log)
unfolding places_of
length-places omitted log =
    length-staying (stays omitted log) (length log) ∙ sym (ap length (rest_of-is omitted log) ∙ length-sub omitted log)

module _ (bounds : Bounds) (log : List Event) (first second : Thinned) (well : IsWellFormed bounds log) (w : IsThinned bounds log first) (v : IsWithoutRepeats first.trace.events second) where
  abbrev R : List Event
  R = without_variables w.variables log

  u : IsWithoutRepeats R second
  u = subst (λ es. IsWithoutRepeats es second) w.events v

  -- each of the second places is one of the first
  pub second-within : All (λ place. place < length first.places.items) second.places.items
  second-within =
      subst (λ places. All (λ place. place < length first.places.items) places) (sym u.places)
      (subst (λ n. All (λ place. place < n) (staying (λ i. not (u.goes i)) (length R))) (sym (ap length w.places ∙ length-places (only no_lock w.variables) log))
      (staying-within (λ i. not (u.goes i)) (length R)))

  module _ (result : Thinned) (same-events : result.trace.events ≡ second.trace.events)
      (same-places : result.places.items ≡ map (λ place. slice_index first.places.items place) second.places.items) where
    events-are : result.trace.events ≡ without u.goes R
    events-are = same-events ∙ u.events

    count-is : length result.places.items ≡ length result.trace.events
    count-is =
        ap length same-places
        ∙ (length-map second.places.items (λ place. slice_index first.places.items place)
        ∙ (ap length u.places
        ∙ (length-staying (λ i. not (u.goes i)) (length R)
        ∙ (sym (length-events_staying R (λ i. not (u.goes i)) (length R) (omega arith)) ∙ sym (ap length events-are)))))

    place-is : (k : ℕ) → k < length result.trace.events → slice_index result.places.items k ≡ place_in w.variables u.goes log k
    unfolding place_of
    place-is k l =
        ap (λ places. get_or places k 0) same-places
        ∙ (get_or-map (λ place. slice_index first.places.items place) second.places.items k 0 0 (let e = count-is in let f = ap length same-places in let g = length-map second.places.items (λ place. slice_index first.places.items place) in omega (arith, l, e, f, g))
        ∙ (ap (λ places. get_or places (get_or second.places.items k 0) 0) w.places
        ∙ ap (λ places. get_or (places_of (only no_lock w.variables) log) (get_or places k 0) 0) u.places))

    within-is : All (λ place. place < length log) result.places.items
    unfolding places_of
    within-is i d l =
        let count = ap length same-places ∙ length-map second.places.items (λ place. slice_index first.places.items place) in
        let l' : i < length second.places.items = omega (arith, l, count) in
        let below = subst (λ places. get_or second.places.items i 0 < length places) w.places (second-within i 0 l') in
        let there = staying-within (stays (only no_lock w.variables) log) (length log) (get_or second.places.items i 0) 0 below in
        subst (λ place. place < length log)
        (sym (ap (λ places. get_or places i d) same-places
        ∙ (get_or-map (λ place. slice_index first.places.items place) second.places.items i 0 d l'
        ∙ ap (λ places. get_or places (get_or second.places.items i 0) 0) w.places)))
        there

    judged-is : (labels : ℕ → Bool) → IsJudgedBy labels log result.trace.events (place_in w.variables u.goes log)
    judged-is labels = subst (λ es. IsJudgedBy labels log es (place_in w.variables u.goes log)) (sym events-are)
        (judged_through_law labels log R (without u.goes R) (place_of (only no_lock w.variables) log) (place_with u.goes R)
        (judged_operations_law labels no_lock w.variables bounds log well w.ordered) (judged_repeats_law labels u.goes R u.repeats))

    pub thinned_law : IsThinnedLog bounds log result
    thinned_law = record {
      variables = w.variables;
      free = w.free;
      goes = u.goes;
      exact = u.exact;
      events = events-are;
      fewer =
          let a = ap length events-are in
          let b = length-events_staying R (λ i. not (u.goes i)) (length R) (omega arith) in
          let d = count-le (λ i. not (u.goes i)) (length R) in
          let e = rest-le w.variables log in
          omega (arith, a, b, d, e);
      count = count-is;
      places = place-is;
      within = within-is;
      well_formed = subst (IsWellFormed bounds) (sym events-are) (repeat_run_law u.goes bounds R u.repeats u.equal (IsWellFormed-rest (only no_lock w.variables) bounds log well));
      judged_at_once = at_once log result.trace.events (place_in w.variables u.goes log) (judged-is (λ l. false));
      judged = judged-is;
    }
