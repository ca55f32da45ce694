-- The witness of a round.
use Rattle.std.proofs.Common.{◌≡◌, ℕ, ◌+◌, ◌<◌, Bool, true, List, [], ◌∷◌, ◌++◌, length, take, Option, Some, None, sym, ap, ◌∙◌, subst, arith}
use Rattle.std.specs.Prelude.{◌⊎◌, slice_index, slice_index_or}
use Rattle.std.proofs.lemmas.List.{length-map, get_or-map}
use Rattle.velo_events.specs.declared.event.Event.{Event}
use Rattle.velo_events.specs.Graph.{HasCycle}
use Rattle.velo_certify.specs.declared.edges.EdgeEvents.{EdgeEvents}
use Rattle.velo_traces.specs.declared.block.Block.{Block}
use Rattle.velo_explain.specs.declared.spans.Span.{Span}
use Rattle.velo_explain.specs.declared.evidence.Blame.{Blame}
use Rattle.velo_explain.specs.declared.evidence.Evidence.{Evidence}
use Rattle.velo_explain.specs.Evidence.{no_block, IsEvidence, HaveReasons, AreBlamesWithin, IsWithin}
use Rattle.velo_explain.proofs.OnEvidence.{IsWithin-of}
use Rattle.velo_world.specs.declared.analysis.Alarm.{Alarm}
use Rattle.velo_world.specs.World.{IsAlarm}
use Rattle.velo_filter.specs.Left.{Omitted, rest_of, places_of, place_of}
use Rattle.velo_filter.proofs.OnLeft.{rest_of-is, stands_for}
use Rattle.velo_audit.specs.Audit.{RoundTells}
use Rattle.velo_audit.specs.Tells.{Tells}
use Rattle.velo_audit.specs.Witness.{span_as_read, edge_as_read, blame_as_read, IsAsRead, IsWitness, IsFirstAlarm, HasWitness, IsWitnessWithin, IsEvidenceOf, WitnessTells}
use Rattle.velo_audit.specs.declared.told.Told.{Told}
use Rattle.velo_certify.proofs.OnClosing.{no_cycle_before}

-- ---- what is told of the alarm of the rest is the round's witness

pub HasWitness-told : (with_witness : Bool) (log : List Event) (left : Omitted) (told : Told) (alarm : Alarm) → IsAlarm (rest_of left log) alarm → Tells with_witness (rest_of left log) (places_of left log) alarm told → HasWitness with_witness log left told.closing told.witness
unfolding place_of
HasWitness-told with_witness log left told alarm is tells = by told.witness tells.witness
  where
    by : (o : Option Evidence) → WitnessTells with_witness (rest_of left log) (places_of left log) alarm o → HasWitness with_witness log left told.closing o
    by None h = h
    by (Some evidence) h = (
      h.0,
      record {
        position = alarm.position;
        blamed = alarm.blamed.items;
        inside = h.1.inside;
        closes = is.closing;
        are_blamed = is.blamed;
        is_evidence = h.1.is_evidence;
        reasons = h.1.reasons;
        there = tells.closing;
        reads = h.1.reads;
      },
    )

-- ---- its positions are there

place-within : (left : Omitted) (log : List Event) (k : ℕ) → k < length (rest_of left log) → place_of left log k < length log
place-within left log k l = (stands_for left log k (let long = ap length (rest_of-is left log) in omega (arith, l, long))).within

abbrev no_span : Span
no_span = record { first = 0; last = 0 }

abbrev no_edge : EdgeEvents
no_edge = record { from = 0; to = 0 }

abbrev no_blame : Blame
no_blame = record { block = no_block; witness = 0 }

module _ (log : List Event) (left : Omitted) (closing : ℕ) (evidence : Evidence) (w : IsWitness log left closing evidence) where
  abbrev place : ℕ → ℕ
  place = place_of left log

  inner : IsWithin (length (rest_of left log)) w.position w.inside
  inner = IsWithin-of (rest_of left log) w.position w.blamed w.inside w.is_evidence

  pub IsWithin-read : IsWithin (length log) closing evidence
  IsWithin-read = record {
    position = let is = w.there in let l = place-within left log w.position w.closes.in_trace in omega (arith, is, l);
    spans = record {
      first = λ i l. let m = span_inside i l in subst (λ (s : Span). s.first < length log) (sym (span i m)) (place-within left log _ (inner.spans.first i m));
      last = λ i l. let m = span_inside i l in subst (λ (s : Span). s.last < length log) (sym (span i m)) (place-within left log _ (inner.spans.last i m));
    };
    edges = record {
      from = λ i l. let m = edge_inside i l in subst (λ (s : EdgeEvents). s.from < length log) (sym (edge i m)) (place-within left log _ (inner.edges.from i m));
      to = λ i l. let m = edge_inside i l in subst (λ (s : EdgeEvents). s.to < length log) (sym (edge i m)) (place-within left log _ (inner.edges.to i m));
    };
    blames = record {
      first = λ i l. let m = blame_inside i l in subst (λ (s : Blame). s.block.first < length log) (sym (blame i m)) (place-within left log _ (inner.blames.first i m));
      witness = λ i l. let m = blame_inside i l in subst (λ (s : Blame). s.witness < length log) (sym (blame i m)) (place-within left log _ (inner.blames.witness i m));
    };
  }
    where
      span_inside : (i : ℕ) → i < length evidence.spans.items → i < length w.inside.spans.items
      span_inside i l = omega (arith, l, ap length w.reads.spans, length-map w.inside.spans.items (span_as_read place))

      span : (i : ℕ) → i < length w.inside.spans.items → slice_index_or evidence.spans.items i no_span ≡ span_as_read place (slice_index_or w.inside.spans.items i no_span)
      span i l = ap (λ xs. slice_index_or xs i no_span) w.reads.spans ∙ get_or-map (span_as_read place) w.inside.spans.items i no_span no_span l

      edge_inside : (i : ℕ) → i < length evidence.edges.items → i < length w.inside.edges.items
      edge_inside i l = omega (arith, l, ap length w.reads.edges, length-map w.inside.edges.items (edge_as_read place))

      edge : (i : ℕ) → i < length w.inside.edges.items → slice_index_or evidence.edges.items i no_edge ≡ edge_as_read place (slice_index_or w.inside.edges.items i no_edge)
      edge i l = ap (λ xs. slice_index_or xs i no_edge) w.reads.edges ∙ get_or-map (edge_as_read place) w.inside.edges.items i no_edge no_edge l

      blame_inside : (i : ℕ) → i < length evidence.blames.items → i < length w.inside.blames.items
      blame_inside i l = omega (arith, l, ap length w.reads.blames, length-map w.inside.blames.items (blame_as_read place))

      blame : (i : ℕ) → i < length w.inside.blames.items → slice_index_or evidence.blames.items i no_blame ≡ blame_as_read place (slice_index_or w.inside.blames.items i no_blame)
      blame i l = ap (λ xs. slice_index_or xs i no_blame) w.reads.blames ∙ get_or-map (blame_as_read place) w.inside.blames.items i no_blame no_blame l

pub witness-within : (with_witness : Bool) (log : List Event) (left : Omitted) (closing : ℕ) (o : Option Evidence) → HasWitness with_witness log left closing o → IsWitnessWithin (length log) closing o
witness-within with_witness log left closing None h = tt
witness-within with_witness log left closing (Some evidence) h = IsWithin-read log left closing evidence h.1

-- ---- the evidence of an alarm, by its places

pub IsEvidenceOf-read : (what : List Event) (places : List ℕ) (alarm : Alarm) → IsAlarm what alarm → (blamed : List Block) → blamed ≡ alarm.blamed.items → (inside evidence : Evidence) → IsEvidence what alarm.position blamed inside → (¬ HasCycle (take alarm.position what) → HaveReasons what alarm.position blamed inside) → IsAsRead (slice_index places) inside evidence → IsEvidenceOf what places alarm evidence
IsEvidenceOf-read what places alarm is blamed same inside evidence e reasons reads = record {
  inside = inside;
  is_evidence = subst (λ bs. IsEvidence what alarm.position bs inside) same e;
  reasons = subst (λ bs. HaveReasons what alarm.position bs inside) same (reasons (no_cycle_before what alarm.position is.closing));
  reads = reads;
}

pub blames-within : (what : List Event) (places : List ℕ) (p : ℕ) (blamed : List Block) (inside : Evidence) → length places ≡ length what → IsEvidence what p blamed inside → AreBlamesWithin (length places) inside.blames.items
blames-within what places p blamed inside long e = subst (λ n. AreBlamesWithin n inside.blames.items) (sym long) (IsWithin-of what p blamed inside e).blames

-- ---- the first alarm

-- it is what a round tells with a witness
pub first-alarm-told : (log : List Event) (left : Omitted) (answer : Option Told) (told : Told) (evidence : Evidence) → RoundTells true log left answer → answer ≡ Some told → told.witness ≡ Some evidence
    → IsFirstAlarm log left (Some (record { position = told.closing; evidence = evidence }))
first-alarm-told log left answer told evidence tells is has =
    let told-so = subst (RoundTells true log left) is tells in
    let witness = subst (HasWitness true log left told.closing) has told-so.2 in
    (witness.1, IsWithin-read log left told.closing evidence witness.1)
