-- Whichever labels are left out, a log is judged by what is left of it without operations that are in order.
use Rattle.std.proofs.Common.{◌≡◌, ℕ, ◌+◌, ◌<◌, ◌≤◌, Bool, true, false, not, Some, List, length, map, take, get_or, refl, sym, ap, ◌∙◌, subst, arith, ⊎_elim}
use Rattle.std.specs.Prelude.{◌&&◌, ◌||◌, slice_get, IsTrue, IsFalse}
use Rattle.std.proofs.lemmas.Bool.{and_from, both_ways, false_from_ne_true, false≢true, not-true}
use Rattle.std.proofs.lemmas.List.{get_or_default, length-take-le}
use Rattle.velo_events.specs.declared.config.Bounds.{Bounds}
use Rattle.velo_events.specs.declared.event.Event.{Event}
use Rattle.velo_events.specs.declared.event.Kind.{Kind}
use Rattle.velo_events.specs.declared.event.Kind.TheVariants.{Begin, End}
use Rattle.velo_events.specs.Event.{is_by, is_begin, is_end}
use Rattle.velo_events.specs.WellFormed.{IsWellFormed}
use Rattle.velo_events.specs.Block.{passes_at, is_open_at}
use Rattle.velo_events.specs.Graph.{HasCycle, IsClosing}
use Rattle.velo_events.specs.Reordering.{AreBlamed}
use Rattle.velo_events.proofs.OnScans.{event_at}
use Rattle.velo_events.proofs.OnWellFormed.{count_below-same}
use Rattle.velo_events.proofs.OnOwners.{passes_at-within, is_open_at-within}
use Rattle.velo_events.proofs.OnUnfinished.{Contains-open_blocks}
use Rattle.velo_filter.specs.Left.{Omitted, is_left_out, is_on_such, rest_of, place_of}
use Rattle.velo_filter.proofs.OnRanks.{rank, events_staying}
use Rattle.velo_filter.proofs.OnLeft.{stays, sub, rest_of-is, length-sub, sub-passes, place-rank, StandsFor, stands_for}
use Rattle.velo_filter.proofs.OnTurns.{IsWellFormed-rest}
use Rattle.velo_laws.specs.Ordered.{only, dissolving, leaving_out, IsOrderedWithin}
use Rattle.velo_laws.specs.Judged.{without_labels, position, IsBlamedInLog, IsJudgedBy}
use Rattle.velo_laws.proofs.OnOrderedKinds.{on}
use Rattle.velo_laws.proofs.OnOrderedPlaces.{goes-is}
use Rattle.velo_laws.proofs.OnOrderedBlame.{blame_law}
use Rattle.velo_laws.proofs.OnOrderedLabels.{left_out-both, left_out-M, rests, ordered-rest, cycle_law-labels}
use Rattle.velo_laws.proofs.OnOrderedPlacesOfRests.{place-both, closing_law-labels}
use Rattle.velo_laws.proofs.OnJudged.{map-map}
use Rattle.velo_laws.proofs.OnRepeatsBlame.{map-same}
use Rattle.velo_laws.proofs.OnEitherOrder.{events_staying-same, both, left_out-kept, rest-after, rank-after}

block-on_none : (locks variables : ℕ → Bool) (k : Kind) → IsTrue (is_begin k || is_end k) → IsFalse (on locks variables k)
block-on_none locks variables (Begin l) h = refl
block-on_none locks variables End h = refl
block-on_none locks variables _ h = absurd (false≢true h)

neither : (m b : Bool) → (not m && not b) ≡ not (b || m)
neither true true = refl
neither true false = refl
neither false true = refl
neither false false = refl

module _ (labels locks variables : ℕ → Bool) (log : List Event) where
  abbrev B : Omitted
  B = dissolving labels

  abbrev M : Omitted
  M = only locks variables

  abbrev A : Omitted
  A = leaving_out labels locks variables

  abbrev keeps : ℕ → Bool
  keeps = stays M log

  blocks : (i : ℕ) (e : Event) → slice_get log i ≡ Some e → IsTrue (is_begin e.kind || is_end e.kind) → IsTrue (keeps i)
  blocks i e here h = ap not (goes-is locks variables log i e here ∙ block-on_none locks variables e.kind h)

  abbrev R : List Event
  R = rest_of M log

  abbrev D : List Event
  D = without_labels labels log

  both-is : (i : ℕ) → i < length log → both log keeps blocks B i ≡ stays A log i
  both-is i l =
      let e = event_at log i l in
      neither (is_left_out M log i) (is_left_out B log i)
      ∙ ap not (ap (λ m. is_left_out B log i || m) (sym (left_out-M labels locks variables log i e.0 e.1)) ∙ sym (left_out-both labels locks variables log i))

  -- in either order the same is left
  same-rest : without_labels labels R ≡ rest_of A log
  same-rest =
      ap (rest_of B) (rest_of-is M log)
      ∙ (rest-after log keeps blocks B
      ∙ (events_staying-same log (both log keeps blocks B) (stays A log) (length log) (omega arith) both-is ∙ sym (rest_of-is A log)))

  -- and stands for the same position of the log
  same-position : (k : ℕ) → k < length (without_labels labels R) → place_of M log (position labels R k) ≡ place_of A log k
  same-position k l =
      let sub_R : length R ≡ length (sub M log) = ap length (rest_of-is M log) in
      let s = stands_for B R k (let e = ap length (rest_of-is B R) in omega (arith, l, e)) in
      let j = position labels R k in
      let r = stands_for M log j (let w = s.within in omega (arith, w, sub_R)) in
      let i = place_of M log j in
      let e = event_at log i r.within in
      let stay : IsTrue (stays B log i)
      = ap not (sym (left_out-kept log keeps blocks B i r.within r.here)) ∙ (ap (stays B (sub M log)) r.ranked ∙ (ap (λ es. stays B es j) (sym (rest_of-is M log)) ∙ s.here)) in
      let ranked : rank (stays A log) i ≡ k
      = sym (count_below-same i (both log keeps blocks B) (stays A log) (λ n m. both-is n (let w = r.within in omega (arith, m, w))))
      ∙ (sym (rank-after log keeps blocks B i (let w = r.within in omega (arith, w)))
      ∙ (ap (rank (stays B (sub M log))) r.ranked ∙ (ap (λ es. rank (stays B es) j) (sym (rest_of-is M log)) ∙ s.ranked))) in
      sym (ap (place_of A log) (sym ranked) ∙ place-rank A log i r.within (sym (both-is i r.within) ∙ and_from (keeps i) (stays B log i) r.here stay))

  module _ (bounds : Bounds) (well : IsWellFormed bounds log) (ordered : IsOrderedWithin M log) where
    closes-then : (p : ℕ) → IsClosing D p
        → (k : ℕ) × IsClosing (without_labels labels R) k × (place_of M log (position labels R k) ≡ position labels log p)
    closes-then p c =
        let w = (closing_law-labels labels locks variables log bounds well ordered p).0 c in
        let k : IsClosing (without_labels labels R) w.0 = subst (λ es. IsClosing es w.0) (sym same-rest) w.1 in
        (w.0, k, same-position w.0 k.in_trace ∙ w.3)

    -- what is left without the operations of what is left without the labels
    rests-too : rest_of M D ≡ without_labels labels R
    rests-too = rests labels locks variables log ∙ sym same-rest

    position-then : (k : ℕ) → k < length (rest_of M D) → (place_of M D k < length D) × (position labels log (place_of M D k) ≡ place_of M log (position labels R k))
    position-then k l =
        let w = subst (λ es. (place_of M es k < length es) × (place_of A log k ≡ place_of B log (place_of M es k))) (sym (rest_of-is B log))
        (place-both labels locks variables log k (let long : length (rest_of M D) ≡ length (sub M (sub B log)) = ap (λ es. length (rest_of M es)) (rest_of-is B log) ∙ ap length (rest_of-is M (sub B log)) in omega (arith, l, long))) in
        (w.0, sym w.1 ∙ sym (same-position k (let long = ap length rests-too in omega (arith, l, long))))

    blame-then : (k t : ℕ) (blamed : List ℕ) → IsTrue (passes_at (without_labels labels R) (is_by t) k)
        → AreBlamed (take (k + 1) (without_labels labels R)) t blamed → IsBlamedInLog labels log R (place_of M log) k t blamed
    blame-then k t blamed own are =
        let own' = subst (λ es. IsTrue (passes_at es (is_by t) k)) (sym rests-too) own in
        let are' = subst (λ es. AreBlamed (take (k + 1) es) t blamed) (sym rests-too) are in
        let l = passes_at-within (rest_of M D) (is_by t) k own' in
        let p = place_of M D k in
        let s = stands_for M D k (let e = ap length (rest_of-is M D) in omega (arith, l, e)) in
        record {
          at = p;
          own = sym (sub-passes M D (is_by t) p s.within s.here) ∙ (ap (passes_at (sub M D) (is_by t)) s.ranked ∙ (ap (λ es. passes_at es (is_by t) k) (sym (rest_of-is M D)) ∙ own'));
          same_event = (position-then k l).1;
          in_log = map (place_of M D) blamed;
          are_blamed = blame_law locks variables D bounds (IsWellFormed-rest B bounds log well) (ordered-rest labels locks variables log ordered) k t blamed l own' are';
          same_blocks = map-map (position labels log) (place_of M D) blamed
              ∙ map-same (λ b. position labels log (place_of M D b)) (λ b. place_of M log (position labels R b)) blamed
              (λ i m. (position-then (get_or blamed i 0) (inside k t blamed own' are' i m)).1);
        }
      where
        inside : (k t : ℕ) (blamed : List ℕ) → IsTrue (passes_at (rest_of M D) (is_by t) k) → AreBlamed (take (k + 1) (rest_of M D)) t blamed
            → (i : ℕ) → i < length blamed → get_or blamed i 0 < length (rest_of M D)
        inside k t blamed own are i m =
            let b = get_or blamed i 0 in
            let T = take (k + 1) (rest_of M D) in
            let opened = (Contains-open_blocks T t b).0 ((are.which b).0 (i, m, get_or_default blamed i b 0 m)).0 in
            let in_T = is_open_at-within T t b (length T) opened in
            let l = passes_at-within (rest_of M D) (is_by t) k own in
            let short = length-take-le (k + 1) (rest_of M D) (omega (arith, l)) in
            omega (arith, in_T, short, l)

    pub judged : IsJudgedBy labels log R (place_of M log)
    judged =
        let law = cycle_law-labels labels locks variables bounds log well ordered in
        record {
          cycles = ((λ c. subst HasCycle (sym same-rest) (law.0 c)), (λ c. law.1 (subst HasCycle same-rest c)));
          closes = closes-then;
          blame = blame-then;
        }

pub judged_operations_law : (labels locks variables : ℕ → Bool) (bounds : Bounds) (log : List Event) → IsWellFormed bounds log → IsOrderedWithin (only locks variables) log
    → IsJudgedBy labels log (rest_of (only locks variables) log) (place_of (only locks variables) log)
judged_operations_law labels locks variables bounds log well ordered = judged labels locks variables log bounds well ordered
