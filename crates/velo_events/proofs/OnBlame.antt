-- The blame law: a block that is open at the last position is not self-serializable exactly where a chain of conflicts
-- leads from its begin through an event of another thread to the last position.
use Rattle.std.proofs.Common.{◌≡◌, ℕ, ◌+◌, ◌<◌, ◌≤◌, Bool, true, cond, not, List, [], ◌∷◌, ◌++◌, length, refl, sym, ap, ◌∙◌, subst, arith, ⊎_elim, inl, inr}
use Rattle.std.specs.Prelude.{◌⊎◌, ◌↔◌, ◌&&◌, ◌==◌, nat_lt, if◌then◌else◌, count_by, filter, slice_get, slice_index, IsTrue, IsFalse, AllPairs}
use Rattle.std.proofs.lemmas.List.{length_push}
use Rattle.std.proofs.lemmas.List.Sums.{sum_by-append}
use Rattle.std.proofs.lemmas.List.Filters.{sum_by-filter_both}
use Rattle.std.proofs.lemmas.List.Kept.{IsStrictlyIncreasing-filter}
use Rattle.std.proofs.lemmas.Bool.{cases_Bool, cases_lt, and_parts, and_from, and_left, and_right, not-true, not_from_true, not_from_false, eqb-true, eq-eqb, both_ways, false_from_ne_true}
use Rattle.velo_events.specs.declared.event.Event.{Event}
use Rattle.velo_events.specs.Event.{thread_of, is_by}
use Rattle.velo_events.specs.Block.{any_below, positions, passes_at, is_open_at, is_in_block, owner, open_blocks}
use Rattle.velo_events.specs.Graph.{Path, Reaches, conflict_at, Edge, HasCycle, ConflictsInOrder, HappensBefore}
use Rattle.velo_events.specs.Reordering.{IsReordering, StandTogether, IsSelfSerializable, AreBlamed}
use Rattle.velo_events.proofs.OnTraces.{passes_at-append, passes_at-push}
use Rattle.velo_events.proofs.OnBlocks.{any_below-at, any_below-some, owner-le}
use Rattle.velo_events.proofs.OnScans.{event_at, passes_at-event, passes_at-is, owner-thread}
use Rattle.velo_events.proofs.OnGraphs.{Path-map, Leads-trans, Reaches-trans, newest}
use Rattle.velo_events.proofs.OnReorderings.{conflict_at-within, not_self_serializable}
use Rattle.velo_events.proofs.OnPositions.{Contains-filter, count_positions, positions-rise, to_front, to_front-in_order, AllPairs-to_front}
use Rattle.velo_events.proofs.OnOwners.{is_open_at-thread, is_open_at-begins, is_open_at-within, open_block-positions, newest-outermost, newest-owner}
use Rattle.velo_events.proofs.OnUnfinished.{Contains-open_blocks, open_blocks-increase, is_open_at-before}
use Rattle.velo_events.proofs.OnReaching.{HasCycle-from_on}
use Rattle.velo_events.proofs.OnHappening.{ConflictsInOrder-append, ConflictsInOrder-before, Path-before, IsFrom-reaches, IsFrom, is_from, is_from-start, is_from-step, is_from-of, is_from-sound, IsFrom-le, HappensBefore-lt, HappensBefore-within, HappensBefore-decides, ConflictsInOrder-same_thread}

-- a chain of conflicts leads from b through an event of another thread than t to p
pub record IsInterrupted (trace : List Event) (t b p : ℕ) : Type 0 where
  pub through : ℕ
  pub of_another : IsFalse (passes_at trace (is_by t) through)
  pub out : HappensBefore trace b through
  pub back : HappensBefore trace through p

-- ---- a reordering from another: some positions are brought to the front

-- what an order keeps, in terms of each and all later ones
abbrev pub KeepsOrder : List Event → ℕ → ℕ → Type 0
KeepsOrder trace x y = y < x → IsFalse (conflict_at trace y x)

-- a list of each position once, that keeps the order, is a reordering
pub IsReordering-by : (trace : List Event) (order : List ℕ) → ((i : ℕ) → count_by (λ k. k == i) order ≡ (if nat_lt i (length trace) then 1 else 0)) → AllPairs (KeepsOrder trace) order → IsReordering trace order
IsReordering-by trace order once kept = record { each_once = once; keeps_order = λ k l below within moved. kept k l 0 below within moved }

-- it stays a reordering where whatever conflicts with a later one that passes does pass
pub IsReordering-to_front : (trace : List Event) (p : ℕ → Bool) (order : List ℕ) → ((i j : ℕ) → ConflictsInOrder trace i j → IsTrue (p j) → IsTrue (p i)) → ((i : ℕ) → count_by (λ k. k == i) order ≡ (if nat_lt i (length trace) then 1 else 0)) → AllPairs (KeepsOrder trace) order → IsReordering trace (to_front p order)
IsReordering-to_front trace p order closed once kept = IsReordering-by trace (to_front p order)
    (λ i. sum_by-append (λ k. cond {A = ℕ} (k == i) 1 0) (filter p order) (filter (λ x. not (p x)) order)
    ∙ (sum_by-filter_both p (λ x. not (p x)) (λ x. refl) (λ k. cond {A = ℕ} (k == i) 1 0) order ∙ once i))
    (AllPairs-to_front (KeepsOrder trace) p order kept (λ x y passes fails moved. false_from_ne_true _ (λ c. both_ways (p y) fails (closed y x (moved, c) passes))))

pub positions-keep : (trace : List Event) → AllPairs (KeepsOrder trace) (positions trace)
positions-keep trace i j d l within moved = let rise = positions-rise trace i j d l within in absurd (omega (arith, rise, moved))

-- ---- the block of thread t that begins at b and is open at the end

module _ (trace : List Event) (t b : ℕ) (opened : IsTrue (is_open_at trace t b (length trace))) where
  -- what happens after the begin, in another thread
  is_away : ℕ → Bool
  is_away i = is_from trace b i && not (passes_at trace (is_by t) i)

  -- the positions that do not happen after the begin, then the block, then the others
  apart : List ℕ
  apart = to_front (λ i. not (is_from trace b i)) (to_front (λ i. not (is_away i)) (positions trace))

  module _ (p : ℕ) (last : length trace ≡ p + 1) (own : IsTrue (passes_at trace (is_by t) p)) (none : ¬ IsInterrupted trace t b p) where
    -- what happens before an event of the thread doesn't happen after the begin, in another thread
    away-closed : (i j : ℕ) → ConflictsInOrder trace i j → IsTrue (not (is_away j)) → IsTrue (not (is_away i))
    unfolding is_away
    away-closed i j c h = not_from_false _ (false_from_ne_true _ (λ away. absurd (refuse (and_parts (is_from trace b i) (not (passes_at trace (is_by t) i)) away))))
      where
        to_last : IsTrue (passes_at trace (is_by t) j) → IsFrom trace j p
        to_last own_j = ⊎_elim (λ before. inr ([], ConflictsInOrder-same_thread trace t j p before own_j own))
            (λ at. inl (let within = (conflict_at-within trace i j c.1).1 in let e : j ≡ p = omega (arith, last, within, at) in e)) (cases_lt j p)

        through : IsTrue (is_from trace b i) → IsFalse (passes_at trace (is_by t) i) → IsTrue (passes_at trace (is_by t) j) → IsInterrupted trace t b p
        through from other own_j = record {
          through = i;
          of_another = other;
          out = ⊎_elim (λ at. absurd (both_ways (passes_at trace (is_by t) i) other (subst (λ k. IsTrue (passes_at trace (is_by t) k)) at (is_open_at-thread trace t b (length trace) opened)))) (λ h. h) (is_from-sound trace b i from);
          back = ⊎_elim (λ at. (([], subst (λ k. ConflictsInOrder trace i k) at c))) (λ h. Leads-trans (ConflictsInOrder trace) i j p ([], c) h) (to_last own_j);
        }

        refuse : IsTrue (is_from trace b i) × IsTrue (not (passes_at trace (is_by t) i)) → ⊥
        refuse w =
            let other = not-true (passes_at trace (is_by t) i) w.1 in
            ⊎_elim (λ own_j. none (through w.0 other own_j))
            (λ other_j. both_ways (is_away j) (not-true (is_away j) h) (and_from _ _ (is_from-step trace b i j c w.0) (not_from_false _ other_j)))
            (cases_Bool (passes_at trace (is_by t) j))

    -- what happens before something that doesn't happen after the begin doesn't either
    before-closed : (i j : ℕ) → ConflictsInOrder trace i j → IsTrue (not (is_from trace b j)) → IsTrue (not (is_from trace b i))
    before-closed i j c h = not_from_false _ (false_from_ne_true _ (λ from. both_ways (is_from trace b j) (not-true _ h) (is_from-step trace b i j c from)))

    apart-reorders : IsReordering trace apart
    unfolding apart
    apart-reorders =
        let inner = IsReordering-to_front trace (λ i. not (is_away i)) (positions trace) away-closed (count_positions trace) (positions-keep trace) in
        IsReordering-to_front trace (λ i. not (is_from trace b i)) (to_front (λ i. not (is_away i)) (positions trace)) before-closed inner.each_once
        (AllPairs-to_front (KeepsOrder trace) (λ i. not (is_away i)) (positions trace) (positions-keep trace) (λ x y passes fails moved. false_from_ne_true _ (λ c. both_ways (not (is_away y)) fails (away-closed y x (moved, c) passes))))

  -- of two in this order, the first doesn't happen after the begin if the second doesn't
  apart-before : AllPairs (λ x y. IsTrue (not (is_from trace b y)) → IsTrue (not (is_from trace b x))) apart
  unfolding apart
  apart-before = to_front-in_order (λ i. not (is_from trace b i)) (to_front (λ i. not (is_away i)) (positions trace))

  -- and the second does in another thread if the first does
  apart-away : AllPairs (λ x y. IsTrue (not (is_away y)) → IsTrue (not (is_away x))) apart
  unfolding apart is_away
  apart-away =
      AllPairs-to_front (λ x y. IsTrue (not (is_away y)) → IsTrue (not (is_away x))) (λ i. not (is_from trace b i)) (to_front (λ i. not (is_away i)) (positions trace))
      (to_front-in_order (λ i. not (is_away i)) (positions trace)) (λ x y before after away. not_from_false _ (and_left _ _ (not-true _ before)))

  is_in_block-not_before : (i : ℕ) → IsTrue (is_in_block trace b i) → IsTrue (is_from trace b i)
  is_in_block-not_before i h =
      let w = (open_block-positions trace t b i opened).0 h in
      ⊎_elim (λ later. is_from-of trace b i (inr ([], ConflictsInOrder-same_thread trace t b i later (is_open_at-thread trace t b (length trace) opened) w.1)))
      (λ at. subst (λ k. IsTrue (is_from trace b k)) (let e : b ≡ i = omega (arith, w.0, at) in e) (is_from-start trace b)) (cases_lt b i)

  is_in_block-not_away : (i : ℕ) → IsTrue (is_in_block trace b i) → IsTrue (not (is_away i))
  unfolding is_away
  is_in_block-not_away i h = not_from_false _ (and_right _ _ (not_from_true _ ((open_block-positions trace t b i opened).0 h).1))

  is_in_block-between : (i : ℕ) → IsTrue (is_from trace b i) → IsTrue (not (is_away i)) → IsTrue (is_in_block trace b i)
  unfolding is_away
  is_in_block-between i from not_away =
      (open_block-positions trace t b i opened).1 (
        IsFrom-le trace b i (is_from-sound trace b i from),
        ⊎_elim (λ own. own) (λ other. absurd (both_ways (is_away i) (not-true _ not_away) (and_from _ _ from (not_from_false _ other)))) (cases_Bool (passes_at trace (is_by t) i)),
      )

  apart-together : StandTogether (is_in_block trace b) apart
  apart-together k l m before after within first last =
      is_in_block-between (slice_index apart l)
      (⊎_elim (λ from. from)
      (λ not_from. absurd (both_ways (is_from trace b (slice_index apart k)) (not-true _ (apart-before k l 0 before (omega arith) (not_from_false _ not_from))) (is_in_block-not_before (slice_index apart k) first)))
      (cases_Bool (is_from trace b (slice_index apart l))))
      (apart-away l m 0 after within (is_in_block-not_away (slice_index apart m) last))

-- ---- the law

-- The thread t of the last position p has an open block that begins at b. It is self-serializable where it is not interrupted
pub self_serializable-from_none : (trace : List Event) (t b p : ℕ) → length trace ≡ p + 1 → IsTrue (passes_at trace (is_by t) p) → IsTrue (is_open_at trace t b (length trace)) → ¬ IsInterrupted trace t b p → IsSelfSerializable trace b
self_serializable-from_none trace t b p last own opened none =
    record {
      begun = is_open_at-begins trace t b (length trace) opened;
      order = apart trace t b opened;
      reorders = apart-reorders trace t b opened p last own none;
      together = apart-together trace t b opened;
    }

-- and not where it is
pub not_self_serializable-from_interrupted : (trace : List Event) (t b p : ℕ) → IsTrue (passes_at trace (is_by t) p) → IsTrue (is_open_at trace t b (length trace)) → IsInterrupted trace t b p → ¬ IsSelfSerializable trace b
not_self_serializable-from_interrupted trace t b p own opened w =
    let first : b < w.through = HappensBefore-lt trace b w.through w.out in
    let second : w.through < p = HappensBefore-lt trace w.through p w.back in
    not_self_serializable trace b b w.through p
    ((open_block-positions trace t b b opened).1 (omega arith, is_open_at-thread trace t b (length trace) opened))
    (false_from_ne_true _ (λ inside. both_ways (passes_at trace (is_by t) w.through) w.of_another ((open_block-positions trace t b w.through opened).0 inside).1))
    ((open_block-positions trace t b p opened).1 (omega (arith, first, second), own))
    w.out w.back

-- whether it is interrupted is decided
unfoldable pub is_interrupted : List Event → ℕ → ℕ → ℕ → Bool
is_interrupted trace t b p = any_below (length trace) (λ q. not (passes_at trace (is_by t) q) && ((nat_lt b q && is_from trace b q) && (nat_lt q p && is_from trace q p)))

-- the test passes just where it is
pub IsInterrupted-decides : (trace : List Event) (t b p : ℕ) → IsTrue (is_interrupted trace t b p) ↔ IsInterrupted trace t b p
unfolding is_interrupted
IsInterrupted-decides trace t b p = (
  (λ h.
      let w = any_below-some (length trace) (λ q. not (passes_at trace (is_by t) q) && ((nat_lt b q && is_from trace b q) && (nat_lt q p && is_from trace q p))) h in
      let parts = and_parts _ _ w.2 in
      let ways = and_parts _ _ parts.1 in
      record {
        through = w.0;
        of_another = not-true _ parts.0;
        out = (HappensBefore-decides trace b w.0).0 ways.0;
        back = (HappensBefore-decides trace w.0 p).0 ways.1;
      }),
  (λ w. any_below-at (length trace) _ w.through (HappensBefore-within trace w.through p w.back).0
      (and_from _ _ (not_from_false _ w.of_another) (and_from _ _ ((HappensBefore-decides trace b w.through).1 w.out) ((HappensBefore-decides trace w.through p).1 w.back)))),
)

-- so it is, or is not
pub cases_interrupted : (trace : List Event) (t b p : ℕ) → IsInterrupted trace t b p ⊎ (¬ IsInterrupted trace t b p)
cases_interrupted trace t b p =
    ⊎_elim (λ yes_it_is. inl ((IsInterrupted-decides trace t b p).0 yes_it_is)) (λ none. inr (λ w. both_ways (is_interrupted trace t b p) none ((IsInterrupted-decides trace t b p).1 w)))
    (cases_Bool (is_interrupted trace t b p))

-- The blame law: the block that begins at b, in the thread t of the last position p and open there, is not
-- self-serializable exactly where a chain of conflicts leads from b through an event of another thread to p
pub blame_law : (trace : List Event) (t b p : ℕ) → length trace ≡ p + 1 → IsTrue (passes_at trace (is_by t) p) → IsTrue (is_open_at trace t b (length trace)) → (¬ IsSelfSerializable trace b) ↔ IsInterrupted trace t b p
blame_law trace t b p last own opened = (
  (λ not_self. ⊎_elim (λ w. w) (λ none. absurd (not_self (self_serializable-from_none trace t b p last own opened none))) (cases_interrupted trace t b p)),
  not_self_serializable-from_interrupted trace t b p own opened,
)

-- and the same of being self-serializable, which is decided too
pub self_serializable_law : (trace : List Event) (t b p : ℕ) → length trace ≡ p + 1 → IsTrue (passes_at trace (is_by t) p) → IsTrue (is_open_at trace t b (length trace)) → IsSelfSerializable trace b ↔ (¬ IsInterrupted trace t b p)
self_serializable_law trace t b p last own opened = (
  (λ self w. not_self_serializable-from_interrupted trace t b p own opened w self),
  self_serializable-from_none trace t b p last own opened,
)

-- The open blocks of the thread of the last position that pass a test are those to blame, where the test passes just those
-- that are interrupted
pub AreBlamed-filter : (trace : List Event) (t p : ℕ) (test : ℕ → Bool) → length trace ≡ p + 1 → IsTrue (passes_at trace (is_by t) p) → ((b : ℕ) → IsTrue (is_open_at trace t b (length trace)) → IsTrue (test b) ↔ IsInterrupted trace t b p) → AreBlamed trace t (filter test (open_blocks trace t))
AreBlamed-filter trace t p test last own says = record {
  which = λ b. (
    (λ w.
        let kept = (Contains-filter test (open_blocks trace t) b).0 w in
        let opened = (Contains-open_blocks trace t b).0 kept.0 in
        (kept.0, (blame_law trace t b p last own opened).1 ((says b opened).0 kept.1))),
    (λ w.
        let opened = (Contains-open_blocks trace t b).0 w.0 in
        (Contains-filter test (open_blocks trace t) b).1 (w.0, (says b opened).1 ((blame_law trace t b p last own opened).0 w.1))),
  );
  outermost_first = IsStrictlyIncreasing-filter test (open_blocks trace t) (open_blocks-increase trace t);
}

-- ---- before the first cycle the last link decides

-- an event of another thread, which is from b, conflicts with the appended event
pub record IsInterruptedAtLast (trace : List Event) (event : Event) (b : ℕ) : Type 0 where
  pub through : ℕ
  pub before : through < length trace
  pub of_another : IsFalse (passes_at trace (is_by (thread_of event)) through)
  pub from : IsFrom trace b through
  pub in_conflict : IsTrue (conflict_at (trace ++ event ∷ []) through (length trace))

module _ (trace : List Event) (event : Event) (b : ℕ) where
  -- then the block is interrupted
  pub IsInterrupted-from_last : IsTrue (passes_at trace (is_by (thread_of event)) b) → IsInterruptedAtLast trace event b → IsInterrupted (trace ++ event ∷ []) (thread_of event) b (length trace)
  IsInterrupted-from_last own w = record {
    through = w.through;
    of_another = passes_at-append trace (event ∷ []) (is_by (thread_of event)) w.through w.before ∙ w.of_another;
    out = ⊎_elim (λ at. absurd (both_ways (passes_at trace (is_by (thread_of event)) w.through) w.of_another (subst (λ k. passes_at trace (is_by (thread_of event)) k ≡ true) at own)))
        (λ h. (h.0, Path-map (ConflictsInOrder trace) (ConflictsInOrder (trace ++ event ∷ [])) (ConflictsInOrder-append trace (event ∷ [])) b h.0 w.through h.1)) w.from;
    back = ([], (w.before, w.in_conflict));
  }

  module _ (none : ¬ HasCycle trace) (opened : IsTrue (is_open_at trace (thread_of event) b (length trace))) where
    -- no chain from b through another thread comes back to the thread before the appended event
    pub no_return : (x c : ℕ) → IsFalse (passes_at trace (is_by (thread_of event)) x) → IsFrom trace b x → ConflictsInOrder trace x c → IsTrue (passes_at trace (is_by (thread_of event)) c) → ⊥
    no_return x c other from link own = none (HasCycle-from_on trace (owner trace x) (record {
      other = owner trace c;
      differ = differ;
      there = inr ([], record { from = x; to = c; in_order = link.0; in_trace = within; in_conflict = link.1; of_from = refl; of_to = refl; differ = differ });
      back = subst (λ k. Reaches (Edge trace) k (owner trace x)) (owner_b ∙ sym owner_c) (IsFrom-reaches trace b x from);
    }))
      where
        within : c < length trace
        within = (conflict_at-within trace x c link.1).1

        b_within : b < length trace
        b_within = is_open_at-within trace (thread_of event) b (length trace) opened

        outermost : newest trace event ≤ b
        outermost = ⊎_elim (λ l. absurd (both_ways (is_open_at trace (thread_of event) b (length trace)) (newest-outermost trace event b l) opened)) (λ g. g) (cases_lt b (newest trace event))

        owner_b : owner trace b ≡ newest trace event
        owner_b = newest-owner trace event b outermost b_within (is_open_at-thread trace (thread_of event) b (length trace) opened)

        owner_c : owner trace c ≡ newest trace event
        owner_c = let after = IsFrom-le trace b x from in newest-owner trace event c (omega (arith, outermost, after, link.0)) within own

        differ : owner trace x ≡ owner trace c → ⊥
        differ same =
            let e = event_at trace x (conflict_at-within trace x c link.1).0 in
            let o = event_at trace (owner trace x) (let most = owner-le trace x in omega (arith, most, link.0, within)) in
            let f = passes_at-event trace (is_by (thread_of event)) c own in
            let one : thread_of o.0 ≡ thread_of e.0 = owner-thread trace x e.0 o.0 e.1 o.1 in
            let two : thread_of o.0 ≡ thread_of f.0 = owner-thread trace c f.0 o.0 f.1 (ap (slice_get trace) (sym same) ∙ o.1) in
            both_ways (passes_at trace (is_by (thread_of event)) x) other
            (passes_at-is trace (is_by (thread_of event)) x e.0 e.1 ∙ eq-eqb (thread_of e.0) (thread_of event) (sym one ∙ (two ∙ eqb-true (thread_of f.0) (thread_of event) f.2)))

    last_link : (x : ℕ) (between : List ℕ) → IsFalse (passes_at trace (is_by (thread_of event)) x) → IsFrom trace b x → Path (ConflictsInOrder (trace ++ event ∷ [])) x between (length trace) → IsInterruptedAtLast trace event b
    last_link x [] other from p = record { through = x; before = p.0; of_another = other; from = from; in_conflict = p.1 }
    last_link x (c ∷ cs) other from p =
        let later = HappensBefore-lt (trace ++ event ∷ []) c (length trace) (cs, p.1) in
        let link = ConflictsInOrder-before trace (event ∷ []) x c later p.0 in
        ⊎_elim (λ own. absurd (no_return x c other from link own))
        (λ other_c. last_link c cs other_c (Reaches-trans (ConflictsInOrder trace) b x c from (inr ([], link))) p.1)
        (cases_Bool (passes_at trace (is_by (thread_of event)) c))

    -- where the events before have no cycle, the block is interrupted exactly where the last link comes from another thread
    pub IsInterrupted-last : IsInterrupted (trace ++ event ∷ []) (thread_of event) b (length trace) ↔ IsInterruptedAtLast trace event b
    IsInterrupted-last = (
      (λ w.
          let before : w.through < length trace = HappensBefore-lt (trace ++ event ∷ []) w.through (length trace) w.back in
          last_link w.through w.back.0
          (sym (passes_at-append trace (event ∷ []) (is_by (thread_of event)) w.through before) ∙ w.of_another)
          (inr (w.out.0, Path-before trace (event ∷ []) b w.out.0 w.through before w.out.1)) w.back.1),
      IsInterrupted-from_last (is_open_at-thread trace (thread_of event) b (length trace) opened),
    )

-- The blame law where the events before the last have no cycle: a block of its thread that is open after it is not
-- self-serializable exactly where an event of another thread that is from the block's begin conflicts with it
pub blame_law-last : (trace : List Event) (event : Event) (b : ℕ) → ¬ HasCycle trace → IsTrue (is_open_at (trace ++ event ∷ []) (thread_of event) b (length (trace ++ event ∷ []))) → (¬ IsSelfSerializable (trace ++ event ∷ []) b) ↔ IsInterruptedAtLast trace event b
blame_law-last trace event b none opened = ⊎_elim earlier here (cases_lt b (length trace))
  where
    law : (¬ IsSelfSerializable (trace ++ event ∷ []) b) ↔ IsInterrupted (trace ++ event ∷ []) (thread_of event) b (length trace)
    law =
        blame_law (trace ++ event ∷ []) (thread_of event) b (length trace) (length_push trace event)
        (passes_at-push trace event (is_by (thread_of event)) ∙ eq-eqb (thread_of event) (thread_of event) refl) opened

    earlier : b < length trace → (¬ IsSelfSerializable (trace ++ event ∷ []) b) ↔ IsInterruptedAtLast trace event b
    earlier l =
        let same = IsInterrupted-last trace event b none (is_open_at-before trace event (thread_of event) b l opened) in
        (λ h. same.0 (law.0 h), λ w. law.1 (same.1 w))

    -- the block that the event begins is not interrupted
    here : length trace ≤ b → (¬ IsSelfSerializable (trace ++ event ∷ []) b) ↔ IsInterruptedAtLast trace event b
    here g = (
      (λ h.
          let w = law.0 h in
          let out : b < w.through = HappensBefore-lt (trace ++ event ∷ []) b w.through w.out in
          let back : w.through < length trace = HappensBefore-lt (trace ++ event ∷ []) w.through (length trace) w.back in
          absurd (omega (arith, g, out, back))),
      (λ w. let after = IsFrom-le trace b w.through w.from in absurd (omega (arith, g, after, w.before))),
    )
