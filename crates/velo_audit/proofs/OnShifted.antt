-- Evidence behind a cut where no block is open: it stands there behind any other, so many positions later.
use Rattle.std.proofs.Common.{◌≡◌, ℕ, zero, suc, ◌+◌, ◌-◌, ◌<◌, ◌≤◌, Bool, false, true, List, [], ◌∷◌, ◌++◌, length, map, take, get_or, Option, refl, sym, ap, ◌∙◌, subst, arith, ⊎_elim, length-append}
use Rattle.std.specs.Prelude.{Contains, IsTrue, slice_get, slice_index, slice_index_or, if◌then◌else◌, nat_lt}
use Rattle.std.specs.Option.{option_map_or}
use Rattle.std.proofs.lemmas.Bool.{cases_lt, cases_Bool, ltb-true}
use Rattle.std.proofs.lemmas.List.{length-map, get_or-map}
use Rattle.velo_events.specs.declared.event.Event.{Event}
use Rattle.velo_events.specs.Event.{thread_of}
use Rattle.velo_events.specs.Block.{owner}
use Rattle.velo_events.specs.Graph.{Edge, IsCycle, Path, conflict_at, both_conflict, ConflictsInOrder, HappensBefore}
use Rattle.velo_events.proofs.OnBlocks.{owner-le}
use Rattle.velo_events.proofs.OnHappening.{HappensBefore-lt}
use Rattle.velo_events.proofs.OnReorderings.{conflict_at-within}
use Rattle.velo_events.proofs.OnTraces.{slice_get-append}
use Rattle.velo_certify.specs.Cycle.{next_in}
use Rattle.velo_certify.specs.Edges.{ShowsEdge, ShowEdges, edge_at}
use Rattle.velo_certify.specs.Witness.{thread_at, IsWitness}
use Rattle.velo_certify.specs.declared.edges.EdgeEvents.{EdgeEvents}
use Rattle.velo_explain.specs.Spans.{IsSpan, AreSpans, span_at}
use Rattle.velo_explain.specs.declared.spans.Span.{Span}
use Rattle.velo_laws.specs.Cut.{IsQuiet}
use Rattle.velo_laws.proofs.OnCutCycles.{Path-carry, Edge-alone, Edge-behind}
use Rattle.velo_laws.proofs.OnCutReads.{owner-behind, conflict_at-behind, slice_get-behind}

-- a position behind n others, as one behind m others
abbrev pub shifted : ℕ → ℕ → ℕ → ℕ
shifted n m x = m + (x - n)

abbrev pub shifted_span : ℕ → ℕ → Span → Span
shifted_span n m span = record { first = shifted n m span.first; last = shifted n m span.last }

abbrev pub shifted_edge : ℕ → ℕ → EdgeEvents → EdgeEvents
shifted_edge n m edge = record { from = shifted n m edge.from; to = shifted n m edge.to }

module _ (prologue before events : List Event) (quiet : IsQuiet prologue) (quiet' : IsQuiet before) where
  abbrev n : ℕ
  n = length prologue

  abbrev m : ℕ
  m = length before

  abbrev here : List Event
  here = prologue ++ events

  abbrev there : List Event
  there = before ++ events

  -- ---- cycles

  step : (a b : ℕ) → n ≤ a → Edge here a b → (n ≤ b) × Edge there (shifted n m a) (shifted n m b)
  step a b l e = let w = Edge-alone prologue events quiet a b l e in (w.0, Edge-behind before events quiet' (a - n) (b - n) w.1)

  pub cycle-shifted : (cycle : List ℕ) → IsCycle (Edge here) cycle → n ≤ slice_index cycle 0 → IsCycle (Edge there) (map (shifted n m) cycle)
  cycle-shifted [] h l = h
  cycle-shifted (a ∷ []) h l = h
  cycle-shifted (a ∷ b ∷ rest) h l = Path-carry (Edge here) (Edge there) (shifted n m) (λ x. n ≤ x) step a (b ∷ rest) a l h

  path-late : (a : ℕ) (between : List ℕ) (b : ℕ) → n ≤ a → Path (Edge here) a between b → (i : ℕ) → i < length between → n ≤ slice_index between i
  path-late a [] b l p i k = absurd (omega (arith, k))
  path-late a (c ∷ cs) b l p zero k = (step a c l p.0).0
  path-late a (c ∷ cs) b l p (suc i) k = path-late c cs b (step a c l p.0).0 p.1 i (omega (arith, k))

  pub cycle-late : (cycle : List ℕ) → IsCycle (Edge here) cycle → n ≤ slice_index cycle 0 → (i : ℕ) → i < length cycle → n ≤ slice_index cycle i
  cycle-late [] h l i k = absurd h
  cycle-late (a ∷ []) h l i k = absurd h
  cycle-late (a ∷ b ∷ rest) h l zero k = l
  cycle-late (a ∷ b ∷ rest) h l (suc i) k = path-late a (b ∷ rest) a l h i (omega (arith, k))

  -- ---- spans and edges

  pub span-late : (a : ℕ) → n ≤ a → (span : Span) → IsSpan here a span → (n ≤ span.first) × (n ≤ span.last)
  span-late a l span w = let f = w.first in let o = w.in_order in (omega (arith, f, l), omega (arith, f, l, o))

  span-shifted : (a : ℕ) → n ≤ a → (span : Span) → IsSpan here a span → IsSpan there (shifted n m a) (shifted_span n m span)
  span-shifted a l span w = record {
    first = ap (shifted n m) w.first;
    in_order = let o = w.in_order in omega (arith, o);
    in_trace = let i = w.in_trace in omega (arith, i, late, length-append prologue events, length-append before events);
    own = owner-behind before events quiet' (span.last - n) ∙ (let e = own in omega (arith, e));
    no_later = later;
  }
    where
      late : n ≤ span.last
      late = (span-late a l span w).1

      at : n + (span.last - n) ≡ span.last
      at = omega (arith, late)

      own : a ≡ n + owner events (span.last - n)
      own = sym w.own ∙ (ap (owner here) (sym at) ∙ owner-behind prologue events quiet (span.last - n))

      later : (i : ℕ) → i < length there → owner there i ≡ shifted n m a → i ≤ shifted n m span.last
      later i k is = ⊎_elim
          (λ early. omega (arith, early))
          (λ behind.
          let same : m + (i - m) ≡ i = omega (arith, behind) in
          let o : owner there i ≡ m + owner events (i - m) = ap (owner there) (sym same) ∙ owner-behind before events quiet' (i - m) in
          let o' : owner here (n + (i - m)) ≡ a = owner-behind prologue events quiet (i - m) ∙ omega (arith, o, is, l) in
          let most = w.no_later (n + (i - m)) (omega (arith, k, behind, length-append prologue events, length-append before events)) o' in
          omega (arith, most, behind, late))
          (cases_lt i m)

  pub edge-late : (a b : ℕ) → n ≤ a → (edge : EdgeEvents) → ShowsEdge here a b edge → (n ≤ edge.from) × (n ≤ edge.to)
  edge-late a b l edge w =
      let o = w.of_from in let most = owner-le here edge.from in let i = w.in_order in
      (omega (arith, o, most, l), omega (arith, o, most, l, i))

  edge-shifted : (a b : ℕ) → n ≤ a → n ≤ b → (edge : EdgeEvents) → ShowsEdge here a b edge → ShowsEdge there (shifted n m a) (shifted n m b) (shifted_edge n m edge)
  edge-shifted a b l k edge w = record {
    in_order = let i = w.in_order in omega (arith, i, lates.0);
    in_trace = let i = w.in_trace in omega (arith, i, lates.1, length-append prologue events, length-append before events);
    in_conflict = conflict_at-behind before events (edge.from - n) (edge.to - n)
        ∙ (sym (conflict_at-behind prologue events (edge.from - n) (edge.to - n))
        ∙ (ap (λ j. conflict_at here j (n + (edge.to - n))) at_from ∙ (ap (conflict_at here edge.from) at_to ∙ w.in_conflict)));
    of_from = owner-behind before events quiet' (edge.from - n) ∙ (let e = own_from in omega (arith, e));
    of_to = owner-behind before events quiet' (edge.to - n) ∙ (let e = own_to in omega (arith, e));
    differ = λ same. w.differ (omega (arith, same, l, k));
  }
    where
      lates : (n ≤ edge.from) × (n ≤ edge.to)
      lates = edge-late a b l edge w

      at_from : n + (edge.from - n) ≡ edge.from
      at_from = let late = lates.0 in omega (arith, late)

      at_to : n + (edge.to - n) ≡ edge.to
      at_to = let late = lates.1 in omega (arith, late)

      own_from : a ≡ n + owner events (edge.from - n)
      own_from = sym w.of_from ∙ (ap (owner here) (sym at_from) ∙ owner-behind prologue events quiet (edge.from - n))

      own_to : b ≡ n + owner events (edge.to - n)
      own_to = sym w.of_to ∙ (ap (owner here) (sym at_to) ∙ owner-behind prologue events quiet (edge.to - n))

  -- ---- those of a whole cycle

  module _ (cycle : List ℕ) (is : IsCycle (Edge here) cycle) (late : n ≤ slice_index cycle 0) where
    abbrev cycle' : List ℕ
    cycle' = map (shifted n m) cycle

    member : (i : ℕ) → i < length cycle → slice_index cycle' i ≡ shifted n m (slice_index cycle i)
    member i l = get_or-map (shifted n m) cycle i 0 0 l

    next : (i : ℕ) → i < length cycle → (n ≤ next_in cycle i) × (next_in cycle' i ≡ shifted n m (next_in cycle i))
    next i l = ⊎_elim
        (λ h.
        let more : i + 1 < length cycle = ltb-true (i + 1) (length cycle) h in
        let here : next_in cycle i ≡ slice_index cycle (i + 1) = ap (λ b. if b then slice_index cycle (i + 1) else slice_index cycle 0) h in
        let there : next_in cycle' i ≡ slice_index cycle' (i + 1) = ap (λ b. if b then slice_index cycle' (i + 1) else slice_index cycle' 0) (test' ∙ h) in
        (subst (λ x. n ≤ x) (sym here) (cycle-late cycle is late (i + 1) more), there ∙ (member (i + 1) more ∙ ap (shifted n m) (sym here))))
        (λ h.
        let here : next_in cycle i ≡ slice_index cycle 0 = ap (λ b. if b then slice_index cycle (i + 1) else slice_index cycle 0) h in
        let there : next_in cycle' i ≡ slice_index cycle' 0 = ap (λ b. if b then slice_index cycle' (i + 1) else slice_index cycle' 0) (test' ∙ h) in
        (subst (λ x. n ≤ x) (sym here) late, there ∙ (member 0 (omega (arith, l)) ∙ ap (shifted n m) (sym here))))
        (cases_Bool (nat_lt (i + 1) (length cycle)))
      where
        test' : nat_lt (i + 1) (length cycle') ≡ nat_lt (i + 1) (length cycle)
        test' = ap (nat_lt (i + 1)) (length-map cycle (shifted n m))

    pub spans-shifted : (spans : List Span) → AreSpans here cycle spans → AreSpans there cycle' (map (shifted_span n m) spans)
    spans-shifted spans w = record {
      count = let c = w.count in omega (arith, c, length-map spans (shifted_span n m), length-map cycle (shifted n m));
      each = λ i l.
          let k : i < length cycle = omega (arith, l, length-map cycle (shifted n m)) in
          let inside : i < length spans = let c = w.count in omega (arith, k, c) in
          subst (λ a. IsSpan there a (span_at (map (shifted_span n m) spans) i)) (sym (member i k))
          (subst (IsSpan there (shifted n m (slice_index cycle i))) (sym (get_or-map (shifted_span n m) spans i (record { first = 0; last = 0 }) (record { first = 0; last = 0 }) inside))
          (span-shifted (slice_index cycle i) (cycle-late cycle is late i k) (span_at spans i) (w.each i k)));
    }

    pub edges-shifted : (edges : List EdgeEvents) → ShowEdges here cycle edges → ShowEdges there cycle' (map (shifted_edge n m) edges)
    edges-shifted edges w = record {
      count = let c = w.count in omega (arith, c, length-map edges (shifted_edge n m), length-map cycle (shifted n m));
      each = λ i l.
          let k : i < length cycle = omega (arith, l, length-map cycle (shifted n m)) in
          let inside : i < length edges = let c = w.count in omega (arith, k, c) in
          let following = next i k in
          subst (λ a. ShowsEdge there a (next_in cycle' i) (edge_at (map (shifted_edge n m) edges) i)) (sym (member i k))
          (subst (λ b. ShowsEdge there (shifted n m (slice_index cycle i)) b (edge_at (map (shifted_edge n m) edges) i)) (sym following.1)
          (subst (ShowsEdge there (shifted n m (slice_index cycle i)) (shifted n m (next_in cycle i))) (sym (get_or-map (shifted_edge n m) edges i (record { from = 0; to = 0 }) (record { from = 0; to = 0 }) inside))
          (edge-shifted (slice_index cycle i) (next_in cycle i) (cycle-late cycle is late i k) following.0 (edge_at edges i) (w.each i k))));
    }

-- ---- witnesses, whatever comes after

module _ (prologue before events more : List Event) where
  abbrev all : List Event
  all = (before ++ events) ++ more

  abbrev N : ℕ
  N = length prologue

  abbrev M : ℕ
  M = length before

  same_event : (k : ℕ) → k < length events → slice_get (prologue ++ events) (N + k) ≡ slice_get all (M + k)
  same_event k l =
      slice_get-behind prologue events k
      ∙ (sym (slice_get-behind before events k)
      ∙ sym (slice_get-append (before ++ events) more (M + k) (omega (arith, l, length-append before events))))

  moved : (i : ℕ) → N ≤ i → i < length (prologue ++ events) → slice_get (prologue ++ events) i ≡ slice_get all (shifted N M i)
  moved i l k =
      ap (slice_get (prologue ++ events)) (let at : i ≡ N + (i - N) = omega (arith, l) in at)
      ∙ same_event (i - N) (omega (arith, l, k, length-append prologue events))

  conflict-moved : (i j : ℕ) → N ≤ i → ConflictsInOrder (prologue ++ events) i j → (N ≤ j) × ConflictsInOrder all (shifted N M i) (shifted N M j)
  unfolding conflict_at
  conflict-moved i j l c =
      let within = conflict_at-within (prologue ++ events) i j c.1 in
      let less = c.0 in (
        omega (arith, l, less),
        (
          omega (arith, l, less),
          ap (λ x. both_conflict x (slice_get all (shifted N M j))) (sym (moved i l within.0))
              ∙ (ap (both_conflict (slice_get (prologue ++ events) i)) (sym (moved j (omega (arith, l, less)) within.1)) ∙ c.1),
        ),
      )

  pub IsWitness-moved : (b p w : ℕ) → N ≤ b → IsWitness (prologue ++ events) b p w → IsWitness all (shifted N M b) (shifted N M p) (shifted N M w)
  IsWitness-moved b p w l h = record {
    after_begin = (
      map (shifted N M) h.after_begin.0,
      Path-carry (ConflictsInOrder (prologue ++ events)) (ConflictsInOrder all) (shifted N M) (λ x. N ≤ x) conflict-moved b h.after_begin.0 w l h.after_begin.1,
    );
    before_end = (conflict-moved w p late h.before_end).1;
    other_thread = λ same. h.other_thread
        (ap (λ (x : Option Event). option_map_or thread_of x 0) (moved w late within.0)
        ∙ (same ∙ sym (ap (λ (x : Option Event). option_map_or thread_of x 0) (moved p (conflict-moved w p late h.before_end).0 within.1))));
  }
    where
      late : N ≤ w
      late = let less = HappensBefore-lt (prologue ++ events) b w h.after_begin in omega (arith, l, less)

      within : (w < length (prologue ++ events)) × (p < length (prologue ++ events))
      within = conflict_at-within (prologue ++ events) w p h.before_end.1
