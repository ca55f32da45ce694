-- What is told of a piece behind a prologue is told of the round: behind a cut where no block is open a log is judged the same,
-- whatever was before.
use Rattle.std.proofs.Common.{◌≡◌, ℕ, zero, suc, ◌+◌, ◌-◌, ◌<◌, ◌≤◌, Bool, false, true, List, [], ◌∷◌, ◌++◌, length, map, take, drop, get_or, Option, Some, None, refl, sym, ap, ◌∙◌, subst, arith, ⊎_elim, length-append, append_assoc}
use Rattle.std.specs.Prelude.{Contains, IsTrue, slice_get, slice_index, slice_index_or, ◌==◌}
use Rattle.std.specs.Option.{option_map_or}
use Rattle.std.proofs.lemmas.Bool.{cases_lt, eq-eqb, false≢true}
use Rattle.std.proofs.lemmas.List.{take-append-le, take-append-drop, get_or_append_left, get_or-append-add, map-id, length-map, get_or-map}
use Rattle.std.proofs.lemmas.Simd.{map-map}
use Rattle.velo_events.specs.declared.event.Event.{Event}
use Rattle.velo_events.specs.Event.{thread_of, is_by, is_begin}
use Rattle.velo_events.specs.Block.{owner, passes_at, is_begin_at}
use Rattle.velo_events.specs.Graph.{HasCycle, IsClosing}
use Rattle.velo_events.specs.Reordering.{AreBlamed}
use Rattle.velo_events.proofs.OnBlocks.{owner-le, owner-append}
use Rattle.velo_events.proofs.OnGraphs.{HasCycle-from_take, HasCycle-append, IsClosing-append}
use Rattle.velo_events.proofs.OnOwners.{passes_at-within}
use Rattle.velo_events.proofs.OnScans.{event_at, passes_at-is}
use Rattle.velo_events.proofs.OnTraces.{slice_get-append}
use Rattle.velo_traces.specs.declared.block.Block.{Block}
use Rattle.velo_traces.specs.Blocks.{block_at, label_of}
use Rattle.velo_blame.specs.Blamed.{AreBlamedAt, begins_of, thread_at}
use Rattle.velo_explain.specs.declared.evidence.Evidence.{Evidence}
use Rattle.velo_world.specs.declared.analysis.Alarm.{Alarm}
use Rattle.velo_world.specs.World.{IsAlarm}
use Rattle.velo_filter.specs.Left.{Omitted, rest_of, places_of, place_of}
use Rattle.velo_laws.specs.Cut.{IsQuiet, later_by}
use Rattle.velo_laws.proofs.OnCut.{IsJudgedApart-quiet, blame_own, IsQuiet-chain, chain_law}
use Rattle.velo_laws.proofs.OnCutCycles.{HasCycle-behind, HasCycle-apart, IsClosing-before_cut, IsClosing-behind_cut}
use Rattle.velo_laws.proofs.OnCutReads.{owner-behind, slice_get-behind}
use Rattle.velo_audit.specs.Rounds.{told_of, is_some_blamed}
use Rattle.velo_audit.specs.Tells.{Tells}
use Rattle.velo_explain.specs.Evidence.{no_block, IsEvidence, HaveReasons, HasBlame}
use Rattle.velo_audit.specs.Witness.{block_as_read, IsEvidenceOf, WitnessTells}
use Rattle.velo_audit.specs.Audit.{RoundTells, IsToldOf}
use Rattle.velo_audit.specs.declared.told.Told.{Told}
use Rattle.velo_audit.proofs.OnRounds.{blamed-begins}
use Rattle.velo_audit.proofs.OnAnswers.{map_same}
use Rattle.velo_audit.proofs.OnPieceWitness.{shifted_block, inside', is_evidence, reasons, spans-read, edges-read, blames-read}

-- ---- the verdict without a cycle

pub no_cycle-behind : (prologue before events : List Event) → IsQuiet prologue → IsQuiet before → ¬ HasCycle before → ¬ HasCycle (prologue ++ events) → ¬ HasCycle (before ++ events)
no_cycle-behind prologue before events quiet quiet' none' none c =
    ⊎_elim none' (λ own. none (HasCycle-behind prologue events quiet own)) (HasCycle-apart before events quiet' c)

pub quiet-behind : (prologue before events : List Event) → IsQuiet prologue → IsQuiet before → IsQuiet (prologue ++ events) → IsQuiet (before ++ events)
quiet-behind prologue before events quiet quiet' all = IsQuiet-chain before events quiet' ((chain_law prologue events quiet).0 all)

-- ---- lists of blocks, each so many later

told_of-later : (n : ℕ) (own : List ℕ) (o : ℕ) → told_of (later_by n own) (n + o) ≡ later_by n (told_of own o)
told_of-later n [] o = refl
told_of-later n (b ∷ bs) o = refl

some_blamed-later : (n : ℕ) (own : List ℕ) → is_some_blamed (later_by n own) ≡ is_some_blamed own
some_blamed-later n [] = refl
some_blamed-later n (b ∷ bs) = refl

told_of-within : (n : ℕ) (own : List ℕ) (o : ℕ) → o < n → ((b : ℕ) → Contains own b → b < n) → (b : ℕ) → Contains (told_of own o) b → b < n
told_of-within n [] o l within b w = first w.0 w.1 w.2
  where
    first : (k : ℕ) → k < 1 → slice_index_or (o ∷ []) k b ≡ b → b < n
    first zero k is = omega (arith, l, is)
    first (suc k) m is = absurd (omega (arith, m))
told_of-within n (x ∷ xs) o l within b w = within b w

-- ---- an alarm

module _ (prologue before events more : List Event) (quiet : IsQuiet prologue) (none : ¬ HasCycle prologue) (quiet' : IsQuiet before) (none' : ¬ HasCycle before) where
  abbrev piece : List Event
  piece = prologue ++ events

  abbrev rest : List Event
  rest = (before ++ events) ++ more

  same_event : (b : ℕ) → b < length events → slice_get piece (length prologue + b) ≡ slice_get rest (length before + b)
  same_event b l =
      slice_get-behind prologue events b
      ∙ (sym (slice_get-behind before events b)
      ∙ sym (slice_get-append (before ++ events) more (length before + b) (omega (arith, l, length-append before events))))

  module _ (alarm : Alarm) (is : IsAlarm piece alarm) where
    late : length prologue ≤ alarm.position
    late = ⊎_elim
        (λ early. absurd (none (HasCycle-from_take prologue (alarm.position + 1) ((IsClosing-before_cut prologue events alarm.position early).0 is.closing).closes)))
        (λ l. l) (cases_lt alarm.position (length prologue))

    -- the closing event, counted from the cut
    q : ℕ
    q = alarm.position - length prologue

    there : length prologue + q ≡ alarm.position
    unfolding q
    there = omega (arith, late)

    closing : IsClosing events q
    closing = (IsClosing-behind_cut prologue events quiet none q).0 (subst (IsClosing piece) (sym there) is.closing)

    o : ℕ
    o = owner events q

    o-within : o < length events
    unfolding o
    o-within = let l = closing.in_trace in let most = owner-le events q in omega (arith, l, most)

    t : ℕ
    t = thread_at events q

    here : IsTrue (passes_at events (is_by t) q)
    unfolding t
    here = let e = event_at events q closing.in_trace in
        passes_at-is events (is_by (thread_at events q)) q e.0 e.1 ∙ eq-eqb _ _ (sym (ap (λ (x : Option Event). option_map_or thread_of x 0) e.1))

    blamed : (own : List ℕ) × (begins_of alarm.blamed.items ≡ later_by (length prologue) own) × AreBlamed (take (q + 1) events) t own
    unfolding t
    blamed = ((IsJudgedApart-quiet prologue events quiet).blame t q here (begins_of alarm.blamed.items)).0
        (subst (λ u. AreBlamed (take (length prologue + q + 1) piece) u (begins_of alarm.blamed.items)) same_thread
        (subst (λ p. AreBlamed (take (p + 1) piece) (thread_at piece p) (begins_of alarm.blamed.items)) (sym there) is.blamed))
      where
        same_thread : thread_at piece (length prologue + q) ≡ thread_at events q
        same_thread = ap (λ (x : Option Event). option_map_or thread_of x 0) (slice_get-behind prologue events q)

    own : List ℕ
    own = blamed.0

    abbrev p' : ℕ
    p' = length before + q

    closes : IsClosing rest p'
    closes = IsClosing-append (before ++ events) more p' ((IsClosing-behind_cut before events quiet' none' q).1 closing)

    within : p' < length (before ++ events)
    within = let l = closing.in_trace in omega (arith, l, length-append before events)

    own_rest : owner rest p' ≡ length before + o
    unfolding o
    own_rest = owner-append (before ++ events) more p' within ∙ owner-behind before events quiet' q

    own_piece : alarm.transaction ≡ length prologue + o
    unfolding o
    own_piece = is.transaction ∙ (ap (owner piece) (sym there) ∙ owner-behind prologue events quiet q)

    blamed_rest : AreBlamedAt rest p' (later_by (length before) own)
    unfolding own t
    blamed_rest =
        subst (λ u. AreBlamed (take (p' + 1) rest) u (later_by (length before) own)) (sym same_thread)
        (subst (λ es. AreBlamed es t (later_by (length before) own)) (sym (take-append-le (p' + 1) (before ++ events) more (omega (arith, within))))
        ((blame_own before events quiet' t q here own).1 blamed.2))
      where
        same_thread : thread_at rest p' ≡ t
        same_thread = ap (λ (x : Option Event). option_map_or thread_of x 0) (sym (same_event q closing.in_trace) ∙ slice_get-behind prologue events q)

    own-within : (b : ℕ) → Contains own b → b < length events
    unfolding own t
    own-within b w = passes_at-within events (λ e. is_begin e.kind) b (blamed-begins events q own closing.in_trace blamed.2 b w)

    -- the alarm of the rest
    abbrev alarm' : Alarm
    alarm' = record { position = p'; transaction = length before + o; blamed = record alarm.blamed { items = map (block_at rest) (later_by (length before) own) } }

    begins' : begins_of alarm'.blamed.items ≡ later_by (length before) own
    begins' = map-map (λ (x : Block). x.first) (block_at rest) (later_by (length before) own) ∙ map-id (later_by (length before) own)

    is_alarm' : IsAlarm rest alarm'
    is_alarm' = record {
      closing = closes;
      transaction = sym own_rest;
      blamed = subst (AreBlamedAt rest p') (sym begins') blamed_rest;
      blocks = ap (map (block_at rest)) (sym begins');
    }

    module _ (with_witness : Bool) (blanks own_places all : List ℕ) (same_place : (k : ℕ) → k < length events → slice_index (blanks ++ own_places) (length prologue + k) ≡ slice_index all (length before + k)) (told : Told) (tells : Tells with_witness piece (blanks ++ own_places) alarm told) where
      block-piece : ℕ → Block
      block-piece b = block_as_read (slice_index (blanks ++ own_places)) (block_at piece b)

      block-rest : ℕ → Block
      block-rest b = block_as_read (slice_index all) (block_at rest b)

      same_block : (b : ℕ) → b < length events → block-piece (length prologue + b) ≡ block-rest (length before + b)
      unfolding block-piece block-rest
      same_block b l =
          ap (λ (f : ℕ). record { first = f; label = option_map_or (λ (e : Event). label_of e.kind) (slice_get piece (length prologue + b)) (record { 0 = 0 }) }) (same_place b l)
          ∙ ap (λ (x : Option Event). record { first = slice_index all (length before + b); label = option_map_or (λ (e : Event). label_of e.kind) x (record { 0 = 0 }) }) (same_event b l)

      blocks : told.blocks.items ≡ map block-rest (told_of (begins_of alarm'.blamed.items) alarm'.transaction)
      unfolding block-piece block-rest own
      blocks =
          tells.blocks
          ∙ (ap (λ bs. map block-piece (told_of bs alarm.transaction)) blamed.1
          ∙ (ap (λ k. map block-piece (told_of (later_by (length prologue) own) k)) own_piece
          ∙ (ap (map block-piece) (told_of-later (length prologue) own o)
          ∙ (map-map block-piece (λ b. length prologue + b) (told_of own o)
          ∙ (map_same _ _ (told_of own o) (λ b w. same_block b (told_of-within (length events) own o o-within own-within b w))
          ∙ (sym (map-map block-rest (λ b. length before + b) (told_of own o))
          ∙ (ap (map block-rest) (sym (told_of-later (length before) own o))
          ∙ ap (λ bs. map block-rest (told_of bs (length before + o))) (sym begins'))))))))

      -- ---- the witness

      same_blamed : alarm'.blamed.items ≡ map (shifted_block (length prologue) (length before)) alarm.blamed.items
      unfolding own
      same_blamed =
          map-map (block_at rest) (λ b. length before + b) own
          ∙ (map_same _ _ own (λ b w. shifted_at b (own-within b w))
          ∙ (sym (map-map (λ b. shifted_block (length prologue) (length before) (block_at piece b)) (λ b. length prologue + b) own)
          ∙ (sym (map-map (shifted_block (length prologue) (length before)) (block_at piece) (later_by (length prologue) own))
          ∙ ap (map (shifted_block (length prologue) (length before))) (sym (is.blocks ∙ ap (map (block_at piece)) blamed.1)))))
        where
          shifted_at : (b : ℕ) → b < length events → block_at rest (length before + b) ≡ shifted_block (length prologue) (length before) (block_at piece (length prologue + b))
          shifted_at b l =
              ap (λ (x : Option Event). record { first = length before + b; label = option_map_or (λ (e : Event). label_of e.kind) x (record { 0 = 0 }) }) (sym (same_event b l))
              ∙ ap (λ (f : ℕ). record { first = f; label = option_map_or (λ (e : Event). label_of e.kind) (slice_get piece (length prologue + b)) (record { 0 = 0 }) }) (let e : length before + b ≡ length before + (length prologue + b - length prologue) = omega arith in e)

      late_blocks : (i : ℕ) → i < length alarm.blamed.items → length prologue ≤ (slice_index_or alarm.blamed.items i no_block).first
      unfolding own
      late_blocks i l =
          let k : i < length (later_by (length prologue) own) = omega (arith, l, ap length blamed.1, length-map alarm.blamed.items (λ (x : Block). x.first)) in
          let j : i < length own = omega (arith, k, length-map own (λ b. length prologue + b)) in
          let f = sym (get_or-map (λ (x : Block). x.first) alarm.blamed.items i no_block 0 l) in
          let g = ap (λ bs. slice_index_or bs i 0) blamed.1 in
          let h = get_or-map (λ b. length prologue + b) own i 0 0 j in
          omega (arith, f, g, h)

      have_reasons : (inside : Evidence) → HaveReasons piece alarm.position alarm.blamed.items inside → (j : ℕ) → j < length alarm.blamed.items → HasBlame inside.blames.items (slice_index_or alarm.blamed.items j no_block)
      have_reasons inside r j l =
          let among : Contains (begins_of alarm.blamed.items) (slice_index_or alarm.blamed.items j no_block).first =
          (j, (let long = length-map alarm.blamed.items (λ (x : Block). x.first) in omega (arith, l, long)), get_or-map (λ (x : Block). x.first) alarm.blamed.items j no_block _ l) in
          let to_blame = (is.blamed.which (slice_index_or alarm.blamed.items j no_block).first).0 among in
          r.each j l to_blame.0 to_blame.1

      owner_piece : owner piece (length prologue + q) ≡ length prologue + o
      unfolding o
      owner_piece = owner-behind prologue events quiet q

      evidence' : (evidence : Evidence) → IsEvidenceOf piece (blanks ++ own_places) alarm evidence → IsEvidenceOf rest all alarm' evidence
      evidence' evidence w =
          let e = subst (λ p. IsEvidence piece p alarm.blamed.items w.inside) (sym there) w.is_evidence in
          let have = have_reasons w.inside w.reasons in
          record {
            inside = inside' prologue before events more quiet quiet' q o closing.in_trace owner_piece own_rest alarm.blamed.items alarm'.blamed.items same_blamed late_blocks w.inside e have;
            is_evidence = is_evidence prologue before events more quiet quiet' q o closing.in_trace owner_piece own_rest alarm.blamed.items alarm'.blamed.items same_blamed late_blocks w.inside e have;
            reasons = reasons prologue before events more quiet quiet' q o closing.in_trace owner_piece own_rest alarm.blamed.items alarm'.blamed.items same_blamed late_blocks w.inside e have;
            reads = record {
              spans = w.reads.spans ∙ spans-read prologue before events more quiet quiet' q o closing.in_trace owner_piece own_rest alarm.blamed.items alarm'.blamed.items same_blamed late_blocks w.inside e have (slice_index (blanks ++ own_places)) (slice_index all) same_place;
              edges = w.reads.edges ∙ edges-read prologue before events more quiet quiet' q o closing.in_trace owner_piece own_rest alarm.blamed.items alarm'.blamed.items same_blamed late_blocks w.inside e have (slice_index (blanks ++ own_places)) (slice_index all) same_place;
              blames = w.reads.blames ∙ blames-read prologue before events more quiet quiet' q o closing.in_trace owner_piece own_rest alarm.blamed.items alarm'.blamed.items same_blamed late_blocks w.inside e have (slice_index (blanks ++ own_places)) (slice_index all) same_place;
            };
          }

      witness' : (witness : Option Evidence) → WitnessTells with_witness piece (blanks ++ own_places) alarm witness → WitnessTells with_witness rest all alarm' witness
      witness' None h = h
      witness' (Some evidence) h = (h.0, evidence' evidence h.1)

      tells' : Tells with_witness rest all alarm' told
      unfolding block-rest own
      tells' = record {
        closing = tells.closing ∙ (ap (slice_index (blanks ++ own_places)) (sym there) ∙ same_place q closing.in_trace);
        transaction = tells.transaction ∙ (ap (slice_index (blanks ++ own_places)) own_piece ∙ same_place o o-within);
        blocks = blocks;
        to_blame = tells.to_blame ∙ (ap is_some_blamed blamed.1 ∙ (some_blamed-later (length prologue) own ∙ (sym (some_blamed-later (length before) own) ∙ ap is_some_blamed (sym begins'))));
        witness = witness' told.witness tells.witness;
      }

-- What is told of a piece is told of what is left
pub IsToldOf-piece : (with_witness : Bool) (prologue before events more : List Event) → IsQuiet prologue → ¬ HasCycle prologue → IsQuiet before → ¬ HasCycle before
    → (blanks own all : List ℕ) → ((k : ℕ) → k < length events → slice_index (blanks ++ own) (length prologue + k) ≡ slice_index all (length before + k))
    → (told : Told) → IsToldOf with_witness (prologue ++ events) (blanks ++ own) told → IsToldOf with_witness ((before ++ events) ++ more) all told
IsToldOf-piece with_witness prologue before events more quiet none quiet' none' blanks own all same_place told w = record {
  alarm = alarm' prologue before events more quiet none quiet' none' w.alarm w.is_alarm;
  is_alarm = is_alarm' prologue before events more quiet none quiet' none' w.alarm w.is_alarm;
  tells = tells' prologue before events more quiet none quiet' none' w.alarm w.is_alarm with_witness blanks own all same_place told w.tells;
}
