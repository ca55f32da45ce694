-- The witness of a piece is that of the round.
use Rattle.std.proofs.Common.{◌≡◌, ℕ, zero, suc, ◌+◌, ◌-◌, ◌<◌, ◌≤◌, Bool, List, [], ◌∷◌, ◌++◌, length, map, take, get_or, Option, Some, None, refl, sym, ap, ◌∙◌, subst, arith, length-append}
use Rattle.std.specs.Prelude.{Contains, IsTrue, slice_get, slice_index, slice_index_or}
use Rattle.std.specs.Option.{option_map_or}
use Rattle.std.proofs.lemmas.List.{length-map, length-take, get_or-map, get_or_default, take-append-le}
use Rattle.std.proofs.lemmas.Simd.{map-map}
use Rattle.velo_events.specs.declared.event.Event.{Event}
use Rattle.velo_events.specs.Block.{owner}
use Rattle.velo_events.specs.Graph.{Edge, HasCycle, IsCycle}
use Rattle.velo_events.proofs.OnHappening.{HappensBefore-lt}
use Rattle.velo_events.proofs.OnReorderings.{conflict_at-within}
use Rattle.velo_traces.specs.declared.block.Block.{Block}
use Rattle.velo_traces.specs.Blocks.{block_at, label_of}
use Rattle.velo_blame.specs.Blamed.{begins_of}
use Rattle.velo_certify.specs.Shortest.{IsCycleAt, IsShortestCycleAt}
use Rattle.velo_certify.specs.Edges.{ShowEdges, edge_at}
use Rattle.velo_certify.specs.Witness.{IsWitness}
use Rattle.velo_certify.specs.declared.edges.EdgeEvents.{EdgeEvents}
use Rattle.velo_explain.specs.Evidence.{no_block, blame_at, IsBlame, HasBlame, IsEvidence, HaveReasons}
use Rattle.velo_explain.specs.Spans.{AreSpans, span_at}
use Rattle.velo_explain.specs.declared.spans.Span.{Span}
use Rattle.velo_explain.specs.declared.evidence.Blame.{Blame}
use Rattle.velo_explain.specs.declared.evidence.Evidence.{Evidence}
use Rattle.velo_world.specs.declared.analysis.Alarm.{Alarm}
use Rattle.velo_world.specs.World.{IsAlarm}
use Rattle.velo_laws.specs.Cut.{IsQuiet, later_by}
use Rattle.velo_laws.proofs.OnCutCycles.{take-behind_next}
use Rattle.velo_audit.specs.Witness.{span_as_read, edge_as_read, block_as_read, blame_as_read, IsEvidenceOf}
use Rattle.velo_audit.proofs.OnShifted.{shifted, shifted_span, shifted_edge, cycle-shifted, cycle-late, span-late, edge-late, spans-shifted, edges-shifted, IsWitness-moved}

abbrev pub shifted_block : ℕ → ℕ → Block → Block
shifted_block n m block = record { first = shifted n m block.first; label = block.label }

abbrev pub shifted_blame : ℕ → ℕ → Blame → Blame
shifted_blame n m blame = record { block = shifted_block n m blame.block; witness = shifted n m blame.witness }

-- ---- lists

map_alike : {X Y : Type 0} (f g : X → Y) (d : X) (xs : List X) → ((i : ℕ) → i < length xs → f (get_or xs i d) ≡ g (get_or xs i d)) → map f xs ≡ map g xs
map_alike f g d [] h = refl
map_alike f g d (x ∷ xs) h = ap (λ y. y ∷ map f xs) (h 0 (omega arith)) ∙ ap (λ ys. g x ∷ ys) (map_alike f g d xs (λ i l. h (suc i) (omega (arith, l))))

cycle-some : (R : ℕ → ℕ → Type 0) (cycle : List ℕ) → IsCycle R cycle → 0 < length cycle
cycle-some R [] h = absurd h
cycle-some R (a ∷ rest) h = omega arith

module _ (prologue before events more : List Event) (quiet : IsQuiet prologue) (quiet' : IsQuiet before) where
  abbrev n : ℕ
  n = length prologue

  abbrev m : ℕ
  m = length before

  abbrev piece : List Event
  piece = prologue ++ events

  abbrev rest : List Event
  rest = (before ++ events) ++ more

  -- the closing event, counted from the cut, and the transaction of it there
  module _ (q o : ℕ) (q-within : q < length events) (owner-piece : owner piece (n + q) ≡ n + o) (owner-rest : owner rest (m + q) ≡ m + o) where
    abbrev upto : List Event
    upto = take (q + 1) events

    here_is : take (n + q + 1) piece ≡ prologue ++ upto
    here_is = take-behind_next prologue events q

    there_is : take (m + q + 1) rest ≡ before ++ upto
    there_is = take-append-le (m + q + 1) (before ++ events) more (omega (arith, q-within, length-append before events)) ∙ take-behind_next before events q

    module _ (cycle : List ℕ) (is : IsCycleAt piece (n + q) cycle) where
      cyclic : IsCycle (Edge (prologue ++ upto)) cycle
      cyclic = subst (λ es. IsCycle (Edge es) cycle) here_is is.cyclic

      late : n ≤ slice_index cycle 0
      late = let b = is.begins in omega (arith, b, owner-piece)

      IsCycleAt-shifted : IsCycleAt rest (m + q) (map (shifted n m) cycle)
      IsCycleAt-shifted = record {
        in_trace = omega (arith, q-within, length-append before events, length-append (before ++ events) more);
        cyclic = subst (λ es. IsCycle (Edge es) (map (shifted n m) cycle)) (sym there_is) (cycle-shifted prologue before upto quiet quiet' cycle cyclic late);
        begins = get_or-map (shifted n m) cycle 0 0 0 (cycle-some _ cycle cyclic) ∙ (let b = is.begins in omega (arith, b, owner-piece, owner-rest));
      }

    IsCycleAt-back : (cycle : List ℕ) → IsCycleAt rest (m + q) cycle → IsCycleAt piece (n + q) (map (shifted m n) cycle)
    IsCycleAt-back cycle is = record {
      in_trace = omega (arith, q-within, length-append prologue events);
      cyclic = subst (λ es. IsCycle (Edge es) (map (shifted m n) cycle)) (sym here_is) (cycle-shifted before prologue upto quiet' quiet cycle cyclic' late');
      begins = get_or-map (shifted m n) cycle 0 0 0 (cycle-some _ cycle cyclic') ∙ (let b = is.begins in omega (arith, b, owner-piece, owner-rest));
    }
      where
        cyclic' : IsCycle (Edge (before ++ upto)) cycle
        cyclic' = subst (λ es. IsCycle (Edge es) cycle) there_is is.cyclic

        late' : m ≤ slice_index cycle 0
        late' = let b = is.begins in omega (arith, b, owner-rest)

    IsShortestCycleAt-shifted : (cycle : List ℕ) → IsShortestCycleAt piece (n + q) cycle → IsShortestCycleAt rest (m + q) (map (shifted n m) cycle)
    IsShortestCycleAt-shifted cycle is = record {
      is_cycle = IsCycleAt-shifted cycle is.is_cycle;
      shortest = λ other w. let s = is.shortest (map (shifted m n) other) (IsCycleAt-back other w) in
          omega (arith, s, length-map other (shifted m n), length-map cycle (shifted n m));
    }

    -- ---- blocks to blame

    module _ (blamed blamed' : List Block) (same : blamed' ≡ map (shifted_block n m) blamed) (late_blocks : (i : ℕ) → i < length blamed → n ≤ (slice_index_or blamed i no_block).first) (inside : Evidence) where
      abbrev blames : List Blame
      blames = inside.blames.items

      abbrev blames' : List Blame
      blames' = map (shifted_blame n m) blames

      abbrev no_blame : Blame
      no_blame = record { block = no_block; witness = 0 }

      blame : (i : ℕ) → i < length blames → blame_at blames' i ≡ shifted_blame n m (blame_at blames i)
      blame i l = get_or-map (shifted_blame n m) blames i no_blame no_blame l

      block : (i : ℕ) → i < length blamed → slice_index_or blamed' i no_block ≡ shifted_block n m (slice_index_or blamed i no_block)
      block i l = ap (λ bs. slice_index_or bs i no_block) same ∙ get_or-map (shifted_block n m) blamed i no_block no_block l

      HasBlame-shifted : (b : Block) → HasBlame blames b → HasBlame blames' (shifted_block n m b)
      HasBlame-shifted b h = record {
        place = h.place;
        within = let l = h.within in omega (arith, l, length-map blames (shifted_blame n m));
        here = ap (λ (x : Blame). x.block) (blame h.place h.within) ∙ ap (shifted_block n m) h.here;
      }

      IsBlame-late : (b : Blame) → IsBlame piece (n + q) blamed b → n ≤ b.block.first
      IsBlame-late b h = subst (λ (x : Block). n ≤ x.first) (get_or_default blamed h.among.0 no_block b.block h.among.1 ∙ h.among.2) (late_blocks h.among.0 h.among.1)

      IsBlame-shifted : (b : Blame) → IsBlame piece (n + q) blamed b → IsBlame rest (m + q) blamed' (shifted_blame n m b)
      IsBlame-shifted b h = record {
        among = (
          h.among.0,
          let l = h.among.1 in omega (arith, l, ap length same, length-map blamed (shifted_block n m)),
          ap (λ bs. slice_index_or bs h.among.0 (shifted_block n m b.block)) same ∙ (get_or-map (shifted_block n m) blamed h.among.0 b.block (shifted_block n m b.block) h.among.1 ∙ ap (shifted_block n m) h.among.2),
        );
        witness = subst (λ p. IsWitness rest (shifted n m b.block.first) p (shifted n m b.witness)) (let e : shifted n m (n + q) ≡ m + q = omega arith in e)
            (IsWitness-moved prologue before events more b.block.first (n + q) b.witness (IsBlame-late b h) h.witness);
      }

      module _ (e : IsEvidence piece (n + q) blamed inside) (all_have : (j : ℕ) → j < length blamed → HasBlame blames (slice_index_or blamed j no_block)) where
        have : (j : ℕ) → j < length blamed → HasBlame blames' (slice_index_or blamed' j no_block)
        have j l = subst (HasBlame blames') (sym (block j l)) (HasBlame-shifted (slice_index_or blamed j no_block) (all_have j l))

        as_many : length blamed' ≡ length blamed
        as_many = ap length same ∙ length-map blamed (shifted_block n m)

        abbrev pub inside' : Evidence
        inside' = record inside {
          spans = record inside.spans { items = map (shifted_span n m) inside.spans.items; ok = (inside.spans.ok.0 ∙ sym (length-map inside.spans.items (shifted_span n m)), inside.spans.ok.1) };
          edges = record inside.edges { items = map (shifted_edge n m) inside.edges.items; ok = (inside.edges.ok.0 ∙ sym (length-map inside.edges.items (shifted_edge n m)), inside.edges.ok.1) };
          blames = record inside.blames { items = blames'; ok = (inside.blames.ok.0 ∙ sym (length-map blames (shifted_blame n m)), inside.blames.ok.1) };
        }

        cyc : IsCycle (Edge (prologue ++ upto)) e.cycle
        cyc = cyclic e.cycle e.shortest.is_cycle

        first_late : n ≤ slice_index e.cycle 0
        first_late = late e.cycle e.shortest.is_cycle

        pub is_evidence : IsEvidence rest (m + q) blamed' inside'
        is_evidence = record {
          cycle = map (shifted n m) e.cycle;
          shortest = IsShortestCycleAt-shifted e.cycle e.shortest;
          spans = subst (λ es. AreSpans es (map (shifted n m) e.cycle) inside'.spans.items) (sym there_is)
              (spans-shifted prologue before upto quiet quiet' e.cycle cyc first_late inside.spans.items (subst (λ es. AreSpans es e.cycle inside.spans.items) here_is e.spans));
          edges = subst (λ es. ShowEdges es (map (shifted n m) e.cycle) inside'.edges.items) (sym there_is)
              (edges-shifted prologue before upto quiet quiet' e.cycle cyc first_late inside.edges.items (subst (λ es. ShowEdges es e.cycle inside.edges.items) here_is e.edges));
          blames = record {
            few = let f = e.blames.few in omega (arith, f, as_many, length-map blames (shifted_blame n m));
            sound = λ i l.
                let k : i < length blames = omega (arith, l, length-map blames (shifted_blame n m)) in
                subst (IsBlame rest (m + q) blamed') (sym (blame i k)) (IsBlame-shifted (blame_at blames i) (e.blames.sound i k));
            complete = λ j w l h. have j (omega (arith, l, as_many));
          };
        }

        pub reasons : HaveReasons rest (m + q) blamed' inside'
        reasons = record { each = λ j l opened broken. have j (omega (arith, l, as_many)) }

        -- ---- their places

        module _ (place place' : ℕ → ℕ) (same_place : (k : ℕ) → k < length events → place (n + k) ≡ place' (m + k)) where
          placed : (x : ℕ) → n ≤ x → x < length piece → place x ≡ place' (shifted n m x)
          placed x l k = ap place (let at : x ≡ n + (x - n) = omega (arith, l) in at) ∙ same_place (x - n) (omega (arith, l, k, length-append prologue events))

          short : length (prologue ++ upto) ≤ length piece
          short = omega (arith, length-append prologue upto, length-append prologue events, length-take (q + 1) events)

          pub spans-read : map (span_as_read place) inside.spans.items ≡ map (span_as_read place') inside'.spans.items
          spans-read = map_alike (span_as_read place) (λ s. span_as_read place' (shifted_span n m s)) (record { first = 0; last = 0 }) inside.spans.items
              (λ i l.
              let w = subst (λ es. AreSpans es e.cycle inside.spans.items) here_is e.spans in
              let k : i < length e.cycle = let c = w.count in omega (arith, l, c) in
              let s = span_at inside.spans.items i in
              let is = w.each i k in
              let lates = span-late prologue before upto quiet quiet' (slice_index e.cycle i) (cycle-late prologue before upto quiet quiet' e.cycle cyc first_late i k) s is in
              let last : s.last < length piece = let t = is.in_trace in omega (arith, t, short) in
              let first : s.first < length piece = let t = is.in_order in omega (arith, t, last) in
              ap (λ (x : ℕ). record { first = x; last = place s.last }) (placed s.first lates.0 first)
              ∙ ap (λ (x : ℕ). record { first = place' (shifted n m s.first); last = x }) (placed s.last lates.1 last))
              ∙ sym (map-map (span_as_read place') (shifted_span n m) inside.spans.items)

          pub edges-read : map (edge_as_read place) inside.edges.items ≡ map (edge_as_read place') inside'.edges.items
          edges-read = map_alike (edge_as_read place) (λ s. edge_as_read place' (shifted_edge n m s)) (record { from = 0; to = 0 }) inside.edges.items
              (λ i l.
              let w = subst (λ es. ShowEdges es e.cycle inside.edges.items) here_is e.edges in
              let k : i < length e.cycle = let c = w.count in omega (arith, l, c) in
              let s = edge_at inside.edges.items i in
              let is = w.each i k in
              let lates = edge-late prologue before upto quiet quiet' (slice_index e.cycle i) _ (cycle-late prologue before upto quiet quiet' e.cycle cyc first_late i k) s is in
              let to : s.to < length piece = let t = is.in_trace in omega (arith, t, short) in
              let from : s.from < length piece = let t = is.in_order in omega (arith, t, to) in
              ap (λ (x : ℕ). record { from = x; to = place s.to }) (placed s.from lates.0 from)
              ∙ ap (λ (x : ℕ). record { from = place' (shifted n m s.from); to = x }) (placed s.to lates.1 to))
              ∙ sym (map-map (edge_as_read place') (shifted_edge n m) inside.edges.items)

          pub blames-read : map (blame_as_read place) blames ≡ map (blame_as_read place') blames'
          blames-read = map_alike (blame_as_read place) (λ s. blame_as_read place' (shifted_blame n m s)) no_blame blames
              (λ i l.
              let s = blame_at blames i in
              let is = e.blames.sound i l in
              let late = IsBlame-late s is in
              let less = HappensBefore-lt piece s.block.first s.witness is.witness.after_begin in
              let within = (conflict_at-within piece s.witness (n + q) is.witness.before_end.1).0 in
              ap (λ (x : ℕ). record { block = record { first = x; label = s.block.label }; witness = place s.witness }) (placed s.block.first late (omega (arith, less, within)))
              ∙ ap (λ (x : ℕ). record { block = record { first = place' (shifted n m s.block.first); label = s.block.label }; witness = x }) (placed s.witness (omega (arith, less, late)) within))
              ∙ sym (map-map (blame_as_read place') (shifted_blame n m) blames)
