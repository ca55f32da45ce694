-- The lists of an explanation, one item more, and that their positions are there.
use Rattle.std.proofs.Common.{◌≡◌, ℕ, ◌+◌, ◌<◌, List, [], ◌∷◌, ◌++◌, length, take, refl, sym, ap, ◌∙◌, subst, arith, ⊎_elim}
use Rattle.std.specs.Prelude.{slice_index, slice_index_or}
use Rattle.std.proofs.lemmas.Bool.{cases_lt}
use Rattle.std.proofs.lemmas.List.{length_push, get_or_append_left, get_or_push, get_or_default, length-take-le}
use Rattle.velo_events.specs.declared.event.Event.{Event}
use Rattle.velo_events.specs.Graph.{IsCycle, Edge}
use Rattle.velo_events.specs.Block.{IsTransaction}
use Rattle.velo_events.proofs.OnHappening.{HappensBefore-within}
use Rattle.velo_events.proofs.OnUnfinished.{IsTransaction-owner}
use Rattle.velo_traces.specs.declared.block.Block.{Block}
use Rattle.velo_certify.specs.Witness.{IsWitness}
use Rattle.velo_certify.proofs.OnEdges.{IsLinked-of}
use Rattle.velo_explain.specs.declared.spans.Span.{Span}
use Rattle.velo_explain.specs.declared.evidence.Blame.{Blame}
use Rattle.velo_explain.specs.declared.evidence.Evidence.{Evidence}
use Rattle.velo_explain.specs.Spans.{IsSpan, AreSpansSoFar, span_at, AreTransactions}
use Rattle.velo_explain.specs.Evidence.{no_block, blame_at, IsBlame, AreBlamesSoFar, IsEvidence, IsWithin}

-- ---- spans

pub AreSpansSoFar-next : (trace : List Event) (cycle : List ℕ) (k : ℕ) (spans : List Span) (span : Span) → AreSpansSoFar trace cycle k spans → IsSpan trace (slice_index cycle k) span → AreSpansSoFar trace cycle (k + 1) (spans ++ span ∷ [])
AreSpansSoFar-next trace cycle k spans span w s = record {
  count = let long = length_push spans span in let was = w.count in omega (arith, long, was);
  each = λ i l. ⊎_elim
      (λ inner. subst (IsSpan trace (slice_index cycle i)) (sym (get_or_append_left spans (span ∷ []) (record { first = 0; last = 0 }) i (let was = w.count in omega (arith, was, inner)))) (w.each i inner))
      (λ last. let same : i ≡ k = omega (arith, last, l) in
      subst (λ j. IsSpan trace (slice_index cycle j) (span_at (spans ++ span ∷ []) j)) (sym same)
      (subst (IsSpan trace (slice_index cycle k)) (sym (get_or_push spans span (record { first = 0; last = 0 }) k w.count)) s))
      (cases_lt i k);
}

pub AreTransactions-of : (trace : List Event) (cycle : List ℕ) → IsCycle (Edge trace) cycle → AreTransactions trace cycle
AreTransactions-of trace cycle c = record {
  each = λ k l.
      let e = (IsLinked-of trace cycle c).each k l in
      let before = e.in_order in let within = e.in_trace in
      subst (IsTransaction trace) e.of_from (IsTransaction-owner trace e.from (omega (arith, before, within)));
}

-- ---- blames

module _ (trace : List Event) (p : ℕ) (blamed : List Block) (k : ℕ) (blames : List Blame) (within : k < length blamed) (w : AreBlamesSoFar trace p blamed k blames) where
  -- a block without a witness
  pub AreBlamesSoFar-none : ((x : ℕ) → ¬ IsWitness trace (slice_index_or blamed k no_block).first p x) → AreBlamesSoFar trace p blamed (k + 1) blames
  AreBlamesSoFar-none none = record {
    few = let was = w.few in omega (arith, was);
    sound = w.sound;
    complete = λ j x l v. ⊎_elim
        (λ inner. w.complete j x inner v)
        (λ last. let same : j ≡ k = omega (arith, last, l) in absurd (none x (subst (λ i. IsWitness trace (slice_index_or blamed i no_block).first p x) same v)))
        (cases_lt j k);
  }

  -- a block with one
  pub AreBlamesSoFar-next : (blame : Blame) → blame.block ≡ slice_index_or blamed k no_block → IsWitness trace blame.block.first p blame.witness → AreBlamesSoFar trace p blamed (k + 1) (blames ++ blame ∷ [])
  AreBlamesSoFar-next blame is v = record {
    few = let was = w.few in let long = length_push blames blame in omega (arith, was, long);
    sound = λ i l. ⊎_elim
        (λ inner. subst (IsBlame trace p blamed) (sym (old i inner)) (w.sound i inner))
        (λ last. let long = length_push blames blame in let same : length blames ≡ i = omega (arith, last, l, long) in
        subst (IsBlame trace p blamed) (sym (get_or_push blames blame (record { block = no_block; witness = 0 }) i same))
        (record { among = (k, within, here); witness = v }))
        (cases_lt i (length blames));
    complete = λ j x l u. ⊎_elim
        (λ inner. let h = w.complete j x inner u in let within_old = h.within in record {
          place = h.place;
          within = let long = length_push blames blame in omega (arith, long, within_old);
          here = ap (λ (b : Blame). b.block) (old h.place within_old) ∙ h.here;
        })
        (λ last. let same : j ≡ k = omega (arith, last, l) in record {
          place = length blames;
          within = let long = length_push blames blame in omega (arith, long);
          here = ap (λ (b : Blame). b.block) (get_or_push blames blame (record { block = no_block; witness = 0 }) (length blames) refl) ∙ (is ∙ ap (λ i. slice_index_or blamed i no_block) (sym same));
        })
        (cases_lt j k);
  }
    where
      old : (i : ℕ) → i < length blames → blame_at (blames ++ blame ∷ []) i ≡ blame_at blames i
      old i l = get_or_append_left blames (blame ∷ []) (record { block = no_block; witness = 0 }) i l

      here : slice_index_or blamed k blame.block ≡ blame.block
      here = get_or_default blamed k blame.block no_block within ∙ sym is

-- ---- all positions are there

module _ (trace : List Event) (p : ℕ) (blamed : List Block) (evidence : Evidence) (w : IsEvidence trace p blamed evidence) where
  position : p < length trace
  position = w.shortest.is_cycle.in_trace

  long : length (take (p + 1) trace) ≡ p + 1
  long = length-take-le (p + 1) trace (omega (arith, position))

  pub IsWithin-of : IsWithin (length trace) p evidence
  IsWithin-of = record {
    position = position;
    spans = record {
      first = λ i l. let s = w.spans.each i (let count = w.spans.count in omega (arith, count, l)) in let upto = s.in_order in let within = s.in_trace in omega (arith, upto, within, long, position);
      last = λ i l. let s = w.spans.each i (let count = w.spans.count in omega (arith, count, l)) in let within = s.in_trace in omega (arith, within, long, position);
    };
    edges = record {
      from = λ i l. let e = w.edges.each i (let count = w.edges.count in omega (arith, count, l)) in let upto = e.in_order in let within = e.in_trace in omega (arith, upto, within, long, position);
      to = λ i l. let e = w.edges.each i (let count = w.edges.count in omega (arith, count, l)) in let within = e.in_trace in omega (arith, within, long, position);
    };
    blames = record {
      first = λ i l. (HappensBefore-within trace _ _ (w.blames.sound i l).witness.after_begin).0;
      witness = λ i l. (HappensBefore-within trace _ _ (w.blames.sound i l).witness.after_begin).1;
    };
  }
