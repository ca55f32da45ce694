-- The transaction of an event goes with the event when a well-formed trace is reordered.
use Rattle.std.proofs.Common.{◌≡◌, ℕ, ◌+◌, ◌<◌, ◌≤◌, Bool, List, [], ◌∷◌, ◌++◌, length, take, drop, Some, refl, sym, ap, ◌∙◌, subst, arith, ⊎_elim}
use Rattle.std.specs.Prelude.{◌&&◌, ◌==◌, slice_get, slice_index, IsTrue}
use Rattle.std.proofs.lemmas.List.{length-take-le, take-append-drop, take-map}
use Rattle.std.proofs.lemmas.Option.{slice_get-get_or, slice_get_within}
use Rattle.std.proofs.lemmas.Bool.{cases_lt, cases_order, and_parts, or_left, eqb-true, eq-eqb, both_ways}
use Rattle.velo_events.specs.declared.config.Bounds.{Bounds}
use Rattle.velo_events.specs.declared.event.Event.{Event}
use Rattle.velo_events.specs.Event.{thread_of, is_by, is_begin, is_end, is_begin_by, is_end_by}
use Rattle.velo_events.specs.Conflict.{conflict}
use Rattle.velo_events.specs.Heap.{times, depth_in}
use Rattle.velo_events.specs.WellFormed.{IsWellFormed}
use Rattle.velo_events.specs.Block.{passes_at, owner}
use Rattle.velo_events.specs.Reordering.{IsReordering, events_in_order}
use Rattle.velo_events.proofs.OnBlocks.{owner-append, owner-le}
use Rattle.velo_events.proofs.OnScans.{event_at, passes_at-is, take-next, owner-owner, owner-thread}
use Rattle.velo_events.proofs.OnGraphs.{newest}
use Rattle.velo_events.proofs.OnOwners.{owner-between, newest-alone, newest-not_alone}
use Rattle.velo_events.proofs.OnReorderings.{IsReordering-place}
use Rattle.velo_events.proofs.OnUnfinished.{depth_in-none, depth_in-some}
use Rattle.velo_events.proofs.OnWellFormed.{IsWellFormed-take}
use Rattle.velo_traces.proofs.Past.{past}
use Rattle.velo_certify.proofs.OnReordered.{E, same_before, IsWellFormed-reordered}
use Rattle.velo_movers.proofs.OnOrdersAgain.{first_events, position_within, reordered, length-reordered, event_at_place, passes_at_place, own_positions, own_places}

-- ---- the first event of a transaction

module _ (bounds : Bounds) (trace : List Event) (well : IsWellFormed bounds trace) (i : ℕ) (e : Event) (here : slice_get trace i ≡ Some e) where
  within : i < length trace
  within = slice_get_within trace i e here

  long : length (take i trace) ≡ i
  long = length-take-le i trace (omega (arith, within))

  well_before : IsWellFormed bounds (take i trace)
  well_before = IsWellFormed-take bounds trace i (omega (arith, within)) well

  is_newest : owner trace i ≡ newest (take i trace) e
  is_newest =
      ap (λ es. owner es i) (sym (take-append-drop (i + 1) trace))
      ∙ (owner-append (take (i + 1) trace) (drop (i + 1) trace) i (omega (arith, within, length-take-le (i + 1) trace (omega (arith, within))))
      ∙ (ap (λ es. owner es i) (take-next trace i e here)
      ∙ ap (owner (take i trace ++ e ∷ [])) (sym long)))

  -- without an open block before it the event begins its transaction
  pub first-by_depth : depth_in (take i trace) (thread_of e) ≡ 0 → owner trace i ≡ i
  first-by_depth none = is_newest ∙ (newest-alone (take i trace) e (depth_in-none bounds (take i trace) (thread_of e) well_before none) ∙ long)

  -- and only without one
  pub first-depth : owner trace i ≡ i → depth_in (take i trace) (thread_of e) ≡ 0
  first-depth first = ⊎_elim
      (λ some.
      let w = depth_in-some bounds (take i trace) (thread_of e) well_before some in
      absurd (both_ways _ (newest-not_alone (take i trace) e (sym is_newest ∙ (first ∙ sym long)) w.0) w.1))
      (λ none. omega (arith, none))
      (cases_lt 0 (depth_in (take i trace) (thread_of e)))

-- the transaction of a position begins with its thread
owner-own : (trace : List Event) (t i : ℕ) → i < length trace → IsTrue (passes_at trace (is_by t) i) → IsTrue (passes_at trace (is_by t) (owner trace i))
owner-own trace t i l own =
    let e = event_at trace i l in
    let f = event_at trace (owner trace i) (omega (arith, l, owner-le trace i)) in
    passes_at-is trace (is_by t) (owner trace i) f.0 f.1
    ∙ (ap (λ u. u == t) (owner-thread trace i e.0 f.0 e.1 f.1) ∙ (sym (passes_at-is trace (is_by t) i e.0 e.1) ∙ own))

-- ---- in the new order

own_pair : (t : ℕ) (part : Event → Bool) (f g : Event) → IsTrue (is_by t f && part f) → IsTrue (is_by t g) → IsTrue (conflict f g)
own_pair t part f g h k = or_left _ _ (or_left _ _ (or_left _ _ (eq-eqb (thread_of f) (thread_of g) (eqb-true (thread_of f) t (and_parts _ _ h).0 ∙ sym (eqb-true (thread_of g) t k)))))

module _ (bounds : Bounds) (trace : List Event) (well : IsWellFormed bounds trace) (order : List ℕ) (r : IsReordering trace order) where
  abbrev new : List Event
  new = events_in_order trace order

  well_new : IsWellFormed bounds new
  well_new = IsWellFormed-reordered bounds trace well order r

  module _ (k : ℕ) (placed : k < length order) where
    abbrev j : ℕ
    j = slice_index order k

    inside : j < length trace
    inside = position_within trace order r k placed

    here_old : slice_get trace j ≡ Some (E trace j)
    here_old = slice_get-get_or trace j past inside

    here_new : slice_get new k ≡ Some (E trace j)
    here_new = event_at_place trace order r k placed ∙ here_old

    -- its thread has had as many begins and ends before it
    same_count : (part : Event → Bool) → times (λ f. is_by (thread_of (E trace j)) f && part f) (take k new) ≡ times (λ f. is_by (thread_of (E trace j)) f && part f) (take j trace)
    same_count part =
        let test : Event → Bool = λ f. is_by (thread_of (E trace j)) f && part f in
        ap (λ es. times test (take k es)) (reordered trace order r)
        ∙ (ap (times test) (take-map (E trace) k order)
        ∙ ((same_before trace order r k placed test
        (λ f h. own_pair (thread_of (E trace j)) part f (E trace j) h (eq-eqb (thread_of (E trace j)) (thread_of (E trace j)) refl))
        (λ f g h w. own_pair (thread_of (E trace j)) part f g h (and_parts _ _ w).0)).count
        ∙ ap (times test) (sym (first_events trace j (omega (arith, inside))))))

    same_depth : depth_in (take k new) (thread_of (E trace j)) ≡ depth_in (take j trace) (thread_of (E trace j))
    same_depth =
        let begins : times (is_begin_by (thread_of (E trace j))) (take k new) ≡ times (is_begin_by (thread_of (E trace j))) (take j trace) = same_count (λ e. is_begin e.kind) in
        let ends : times (is_end_by (thread_of (E trace j))) (take k new) ≡ times (is_end_by (thread_of (E trace j))) (take j trace) = same_count (λ e. is_end e.kind) in
        rw (begins, ends) refl

    -- so it begins its transaction here exactly where it did there
    first_there : owner new k ≡ k → owner trace j ≡ j
    first_there first = first-by_depth bounds trace well j (E trace j) here_old (sym same_depth ∙ first-depth bounds new well_new k (E trace j) here_new first)

    first_here : owner trace j ≡ j → owner new k ≡ k
    first_here first = first-by_depth bounds new well_new k (E trace j) here_new (same_depth ∙ first-depth bounds trace well j (E trace j) here_old first)

  -- The transaction goes with the event
  module _ (k : ℕ) (placed : k < length order) where
    abbrev i : ℕ
    i = slice_index order k

    abbrev t : ℕ
    t = thread_of (E trace i)

    -- the first place of the transaction, in the new order
    abbrev o : ℕ
    o = owner new k

    small : k < length new
    small = omega (arith, placed, length-reordered trace order r)

    at_most : o ≤ k
    at_most = owner-le new k

    placed_o : o < length order
    placed_o = omega (arith, placed, at_most)

    own_i : IsTrue (passes_at trace (is_by t) i)
    own_i = passes_at-is trace (is_by t) i (E trace i) (here_old k placed) ∙ eq-eqb t t refl

    own_k : IsTrue (passes_at new (is_by t) k)
    own_k = passes_at_place trace order r (is_by t) k placed ∙ own_i

    own_o : IsTrue (passes_at trace (is_by t) (slice_index order o))
    own_o = sym (passes_at_place trace order r (is_by t) o placed_o) ∙ owner-own new t k small own_k

    first_o : owner trace (slice_index order o) ≡ slice_index order o
    first_o = first_there o placed_o (owner-owner new k small)

    upto_i : slice_index order o ≤ i
    upto_i = ⊎_elim (λ l. let less = own_positions trace order r t o k placed_o placed own_o own_i l in omega (arith, less))
        (λ g. let same : o ≡ k = omega (arith, g, at_most) in let e = ap (slice_index order) same in omega (arith, e))
        (cases_lt o k)

    -- a transaction that began before would have it too
    not_before : owner trace i < slice_index order o → ⊥
    not_before l =
        let same = owner-between trace t (owner trace i) (slice_index order o) i (omega (arith, l, upto_i)) (omega (arith, l)) upto_i own_o own_i (owner-owner trace i (inside k placed)) in
        omega (arith, l, same, first_o)

    not_after : slice_index order o < owner trace i → ⊥
    not_after l =
        let most = owner-le trace i in
        let p = IsReordering-place trace order r (owner trace i) (omega (arith, most, inside k placed)) in
        let own_old : IsTrue (passes_at trace (is_by t) (slice_index order p.0)) = subst (λ x. IsTrue (passes_at trace (is_by t) x)) (sym p.2) (owner-own trace t i (inside k placed) own_i) in
        let own_p : IsTrue (passes_at new (is_by t) p.0) = passes_at_place trace order r (is_by t) p.0 p.1 ∙ own_old in
        let below = own_places trace order r t o p.0 placed_o p.1 own_o own_old (omega (arith, l, p.2)) in
        let upto : p.0 ≤ k = ⊎_elim (λ g. let less = own_positions trace order r t k p.0 placed p.1 own_i own_old g in absurd (omega (arith, less, most, p.2))) (λ g. g) (cases_lt k p.0) in
        let first : owner new p.0 ≡ p.0 = first_here p.0 p.1 (ap (owner trace) p.2 ∙ (owner-owner trace i (inside k placed) ∙ sym p.2)) in
        let same = owner-between new t o p.0 k (omega (arith, below, upto)) (omega (arith, below)) upto own_p own_k (owner-owner new k small) in
        omega (arith, below, first, same)

    pub owner-reordered : owner trace (slice_index order k) ≡ slice_index order (owner (events_in_order trace order) k)
    owner-reordered = ⊎_elim (λ e. e) (⊎_elim (λ l. absurd (not_before l)) (λ l. absurd (not_after l))) (cases_order (owner trace i) (slice_index order o))
