-- The alarm of events behind a cut, behind either of two logs that may stand before them.
use Rattle.std.proofs.Common.{◌≡◌, ℕ, ◌+◌, ◌-◌, ◌<◌, ◌≤◌, Bool, false, List, [], ◌∷◌, ◌++◌, length, take, map, Option, Some, None, refl, sym, ap, ◌∙◌, subst, arith, ⊎_elim, eq-eqb, length-append, get_or}
use Rattle.std.specs.Prelude.{slice_get, IsTrue, All, Contains, ◌↔◌, ◌⊎◌}
use Rattle.std.specs.Option.{option_map_or}
use Rattle.std.proofs.lemmas.Bool.{cases_lt}
use Rattle.std.proofs.lemmas.List.{length-take, get_or_default}
use Rattle.std.proofs.lemmas.List.Elements.{All-map, All-from_get_or, All-same}
use Rattle.std.proofs.lemmas.Option.{slice_get-get_or}
use Rattle.velo_events.specs.declared.event.Event.{Event}
use Rattle.velo_events.specs.declared.event.Kind.TheVariants.{End}
use Rattle.velo_events.specs.declared.limits.TheConstants.{MAX_EVENTS}
use Rattle.velo_events.specs.Event.{thread_of, is_by}
use Rattle.velo_events.specs.Block.{owner, passes_at, open_blocks}
use Rattle.velo_events.specs.Graph.{HasCycle, IsClosing}
use Rattle.velo_events.specs.Reordering.{AreBlamed}
use Rattle.velo_events.proofs.OnBlocks.{owner-le}
use Rattle.velo_events.proofs.OnGraphs.{HasCycle-from_closing}
use Rattle.velo_events.proofs.OnOwners.{is_open_at-within}
use Rattle.velo_events.proofs.OnUnfinished.{Contains-open_blocks}
use Rattle.velo_traces.specs.Blocks.{block_at, label_of}
use Rattle.velo_traces.specs.declared.block.Block.{Block}
use Rattle.velo_blame.specs.Blamed.{AreBlamedAt, begins_of, thread_at}
use Rattle.velo_blame.proofs.OnAnswers.{begins_of-blocks}
use Rattle.velo_laws.specs.Cut.{IsQuiet, later_by}
use Rattle.velo_laws.proofs.OnCut.{IsJudgedApart-quiet}
use Rattle.velo_laws.proofs.OnCutReads.{slice_get-behind, owner-behind}
use Rattle.velo_world.specs.declared.analysis.Alarm.{Alarm}
use Rattle.velo_world.specs.World.{IsAlarm}
use Rattle.velo_watch.specs.Piece.{AllLieBehind, IsInWhole, LiesBehind, block_in_whole, in_whole}

-- the alarm of events by themselves: its position, and the begins of the blocks to blame
pub record AlarmApart (after : List Event) (q : ℕ) (own : List ℕ) : Type 0 where
  pub closing : IsClosing after q
  pub blamed : AreBlamed (take (q + 1) after) (thread_at after q) own

-- the event is by its thread
passes_here : (after : List Event) (q : ℕ) → q < length after → IsTrue (passes_at after (is_by (thread_at after q)) q)
unfolding passes_at
passes_here after q within = here (slice_get after q) (slice_get-get_or after q unseen within)
  where
    unseen : Event
    unseen = record { thread = record { 0 = 0 }; kind = End }

    here : (o : Option Event) → o ≡ Some (get_or after q unseen) → IsTrue (option_map_or (is_by (option_map_or thread_of o 0)) o false)
    here None is = absurd cc
    here (Some e) is = eq-eqb (thread_of e) (thread_of e) refl

thread_behind : (before after : List Event) (q : ℕ) → thread_at (before ++ after) (length before + q) ≡ thread_at after q
thread_behind before after q = ap (λ (o : Option Event). option_map_or thread_of o 0) (slice_get-behind before after q)

-- ---- behind a log without open blocks and cycles

module _ (before after : List Event) (quiet : IsQuiet before) (none : ¬ HasCycle before) where
  -- the alarm lies behind it, and is that of the events by themselves
  pub record IsApart (alarm : Alarm) : Type 0 where
    pub q : ℕ
    pub own : List ℕ
    pub apart : AlarmApart after q own
    pub position : alarm.position ≡ length before + q
    pub transaction : alarm.transaction ≡ length before + owner after q
    pub blocks : alarm.blamed.items ≡ map (block_at (before ++ after)) (later_by (length before) own)

  late : (p : ℕ) → IsClosing (before ++ after) p → length before ≤ p
  late p closing =
      let law = IsJudgedApart-quiet before after quiet in
      ⊎_elim
      (λ early. absurd (none (HasCycle-from_closing before p ((law.closes_before p early).0 closing))))
      (λ l. l)
      (cases_lt p (length before))

  apart_at : (alarm : Alarm) (q : ℕ) → alarm.position ≡ length before + q → IsAlarm (before ++ after) alarm → IsApart alarm
  apart_at alarm q at h =
      let law = IsJudgedApart-quiet before after quiet in
      let log : List Event = before ++ after in
      let closing : IsClosing after q = (law.closes_after none q).0 (subst (IsClosing log) at h.closing) in
      let t = thread_at after q in
      let here : AreBlamed (take (length before + q + 1) log) t (begins_of alarm.blamed.items) =
      subst (λ u. AreBlamed (take (length before + q + 1) log) u (begins_of alarm.blamed.items)) (thread_behind before after q)
      (subst (λ p. AreBlamedAt log p (begins_of alarm.blamed.items)) at h.blamed) in
      let own = (law.blame t q (passes_here after q closing.in_trace) (begins_of alarm.blamed.items)).0 here in
      record {
        q = q;
        own = own.0;
        apart = record { closing = closing; blamed = own.2 };
        position = at;
        transaction = h.transaction ∙ (ap (owner log) at ∙ owner-behind before after quiet q);
        blocks = h.blocks ∙ ap (map (block_at log)) own.1;
      }

  pub alarm_apart : (alarm : Alarm) → IsAlarm (before ++ after) alarm → IsApart alarm
  alarm_apart alarm h =
      let l = late alarm.position h.closing in
      apart_at alarm (alarm.position - length before) (omega (arith, l)) h

  -- and back
  pub alarm_behind : (moved : Alarm) (q : ℕ) (own : List ℕ) → AlarmApart after q own → moved.position ≡ length before + q → moved.transaction ≡ length before + owner after q → moved.blamed.items ≡ map (block_at (before ++ after)) (later_by (length before) own) → IsAlarm (before ++ after) moved
  alarm_behind moved q own apart at of blocks =
      let law = IsJudgedApart-quiet before after quiet in
      let log : List Event = before ++ after in
      let begins : begins_of moved.blamed.items ≡ later_by (length before) own = ap begins_of blocks ∙ begins_of-blocks log (later_by (length before) own) in
      let t = thread_at after q in
      let blamed : AreBlamed (take (length before + q + 1) log) t (later_by (length before) own) =
      (law.blame t q (passes_here after q apart.closing.in_trace) (later_by (length before) own)).1 (own, refl, apart.blamed) in
      let here : AreBlamedAt log (length before + q) (begins_of moved.blamed.items) =
      subst (λ u. AreBlamed (take (length before + q + 1) log) u (begins_of moved.blamed.items)) (sym (thread_behind before after q))
      (subst (AreBlamed (take (length before + q + 1) log) t) (sym begins) blamed) in
      record {
        closing = subst (IsClosing log) (sym at) ((law.closes_after none q).1 apart.closing);
        transaction = of ∙ sym (ap (owner log) at ∙ owner-behind before after quiet q);
        blamed = subst (λ p. AreBlamedAt log p (begins_of moved.blamed.items)) (sym at) here;
        blocks = blocks ∙ ap (map (block_at log)) (sym begins);
      }

  -- its positions lie behind
  own_within : (q : ℕ) (own : List ℕ) → AlarmApart after q own → (b : ℕ) → Contains own b → b < length after
  own_within q own apart b w =
      let opened = (Contains-open_blocks (take (q + 1) after) (thread_at after q) b).0 ((apart.blamed.which b).0 w).0 in
      let inside = is_open_at-within (take (q + 1) after) (thread_at after q) b (length (take (q + 1) after)) opened in
      omega (arith, inside, length-take (q + 1) after, apart.closing.in_trace)

  pub all_behind : (n : ℕ) (alarm : Alarm) → n ≡ length before → length (before ++ after) ≤ MAX_EVENTS → IsAlarm (before ++ after) alarm → AllLieBehind n alarm
  all_behind n alarm is few h =
      let a = alarm_apart alarm h in
      let len = length-append before after in
      let in_trace = a.apart.closing.in_trace in
      let owned = owner-le after a.q in
      record {
        position = record { behind = omega (arith, a.position, is); few = omega (arith, a.position, in_trace, len, few) };
        transaction = record { behind = omega (arith, a.transaction, is); few = omega (arith, a.transaction, owned, in_trace, len, few) };
        blamed = All-same (λ (block : Block). LiesBehind n block.first) alarm.blamed.items (map (block_at (before ++ after)) (later_by (length before) a.own)) a.blocks
            (All-map (λ (block : Block). LiesBehind n block.first) (block_at (before ++ after)) (later_by (length before) a.own)
            (All-map (λ (p : ℕ). LiesBehind n p) (λ (b : ℕ). length before + b) a.own
            (All-from_get_or (λ (b : ℕ). LiesBehind n (length before + b)) a.own 0
            (λ i l.
            let within = own_within a.q a.own a.apart (get_or a.own i 0) (i, l, get_or_default a.own i (get_or a.own i 0) 0 l) in
            record { behind = omega (arith, is); few = omega (arith, within, len, few) }))));
      }

-- ---- from behind the one to behind the other

block_moved : (before prologue after : List Event) (b : ℕ) → block_in_whole (length before) (length prologue) (block_at (prologue ++ after) (length prologue + b)) ≡ block_at (before ++ after) (length before + b)
block_moved before prologue after b =
    let at : length before + (length prologue + b - length prologue) ≡ length before + b = omega arith in
    ap (λ (p : ℕ). record { first = p; label = (block_at (prologue ++ after) (length prologue + b)).label }) at
    ∙ ap (λ (o : Option Event). record { first = length before + b; label = option_map_or (λ e. label_of e.kind) o (record { 0 = 0 }) })
    (slice_get-behind prologue after b ∙ sym (slice_get-behind before after b))

blocks_moved : (before prologue after : List Event) (own : List ℕ) → map (block_in_whole (length before) (length prologue)) (map (block_at (prologue ++ after)) (later_by (length prologue) own)) ≡ map (block_at (before ++ after)) (later_by (length before) own)
blocks_moved before prologue after [] = refl
blocks_moved before prologue after (b ∷ own) =
    ap (λ (x : Block). x ∷ map (block_in_whole (length before) (length prologue)) (map (block_at (prologue ++ after)) (later_by (length prologue) own))) (block_moved before prologue after b)
    ∙ ap (λ (xs : List Block). block_at (before ++ after) (length before + b) ∷ xs) (blocks_moved before prologue after own)

pub alarm_moved : (before prologue after : List Event) → IsQuiet before → ¬ HasCycle before → IsQuiet prologue → ¬ HasCycle prologue → (alarm moved : Alarm) → IsAlarm (prologue ++ after) alarm → IsInWhole (length before) (length prologue) alarm moved → IsAlarm (before ++ after) moved
alarm_moved before prologue after quiet none quiet' none' alarm moved h is =
    let a = alarm_apart prologue after quiet' none' alarm h in
    alarm_behind before after quiet none moved a.q a.own a.apart
    (is.position ∙ (ap (in_whole (length before) (length prologue)) a.position ∙ (let e : length before + (length prologue + a.q - length prologue) ≡ length before + a.q = omega arith in e)))
    (is.transaction ∙ (ap (in_whole (length before) (length prologue)) a.transaction ∙ (let e : length before + (length prologue + owner after a.q - length prologue) ≡ length before + owner after a.q = omega arith in e)))
    (is.blamed ∙ (ap (map (block_in_whole (length before) (length prologue))) a.blocks ∙ blocks_moved before prologue after a.own))
