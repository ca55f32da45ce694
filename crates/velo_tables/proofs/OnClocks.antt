-- Clocks that stand for a trace: what they say of the next event, that they stand for the trace with it once it is noted, and
-- that they say which blocks are to blame.
use Rattle.std.proofs.Common.{◌≡◌, ℕ, ◌+◌, ◌<◌, ◌≤◌, max, Bool, true, false, List, [], ◌∷◌, ◌++◌, length, map, Option, Some, refl, sym, ap, ◌∙◌, subst, arith, ⊎_elim, inl, inr}
use Rattle.std.specs.Prelude.{◌⊎◌, ◌↔◌, ◌==◌, nat_lt, filter, slice_get, if◌then◌else◌, IsTrue, IsFalse}
use Rattle.std.proofs.lemmas.Bool.{false≢true, cases_Bool, cases_lt, both_ways, false_from_ne_true, and_parts, and_from, or_cases, or_left, ltb-true, lt-ltb, eqb-true, eq-eqb}
use Rattle.std.proofs.lemmas.Option.{same_Some, slice_get_within}
use Rattle.std.proofs.lemmas.List.{length_push}
use Rattle.velo_events.specs.declared.config.Bounds.{Bounds}
use Rattle.velo_events.specs.declared.event.Event.{Event}
use Rattle.velo_events.specs.Event.{thread_of, access_of, cell_of, are_same, is_by, is_exclusive, is_shared, is_writing, is_reading, is_fork_of, is_join_of}
use Rattle.velo_events.specs.declared.event.Access.{Access}
use Rattle.velo_events.specs.declared.event.Access.TheVariants.{Shared, Exclusive, Nothing}
use Rattle.velo_events.specs.Conflict.{conflict}
use Rattle.velo_events.specs.Block.{passes_at, is_open_at, open_blocks}
use Rattle.velo_events.specs.Graph.{ConflictsInOrder, HasCycle, both_conflict, conflict_at}
use Rattle.velo_events.specs.Reordering.{AreBlamed}
use Rattle.velo_events.specs.WellFormed.{IsWellFormed}
use Rattle.velo_events.proofs.OnTraces.{slice_get-append, slice_get-push, passes_at-append, passes_at-push}
use Rattle.velo_events.proofs.OnScans.{event_at, passes_at-event, passes_at-is}
use Rattle.velo_events.proofs.OnGraphs.{Reaches-trans}
use Rattle.velo_events.proofs.OnOwners.{passes_at-within, is_open_at-thread}
use Rattle.velo_events.proofs.OnUnfinished.{is_open_at-before}
use Rattle.velo_events.proofs.OnWellFormed.{IsWellFormed-before, IsWellFormed-last}
use Rattle.velo_events.proofs.OnHappening.{IsFrom, IsFrom-le, IsFrom-last, IsFrom-next, IsFrom-append, IsFrom-before, IsFrom-same_thread}
use Rattle.velo_events.proofs.OnBlame.{IsInterruptedAtLast, no_return, blame_law, blame_law-last, AreBlamed-filter}
use Rattle.velo_events.specs.Place.{Place, LastOf, LastWrite, is_recorded, last_at}
use Rattle.velo_events.proofs.OnLast.{last_at-push, last_at-is, last_at-within, last_position-at}
use Rattle.velo_events.proofs.OnLookUps.{reached-from_conflict, looked_up-is, fork-first, no_join, no_fork, are_same-some, are_same-both, are_same-from, conflict-thread, conflict-cell, conflict-handled, fork_handles, forks_or_joins, reads_or_writes, conflict_at-events}
use Rattle.velo_tables.specs.Clocks.{ClockPlace, OfLast, OfWrite, OfReads, ClockState, IsAt, IsUnwrittenSince, IsByOthersAt, IsLatestSince, AreClocksSince, IsNoted, KnowsNothing, KnowsTheSame, known_at, by_others_at, beside, greatest_of, clock_of, blame_bound, is_noted, is_cleared, stays}
use Rattle.velo_tables.proofs.OnLatest.{most-at, most-some, latest-same, latest-none, latest-union, latest-append}
use Rattle.velo_tables.proofs.OnBeside.{IsBeside, beside-is, beside-has, beside-conflicts, joined-conflicts, joined-at, last-write, read-write}

-- what knows nothing stands for every trace, as far as the events behind its end go
pub opens : (s : ClockState) (trace : List Event) → KnowsNothing s → AreClocksSince (length trace) s trace
opens s trace nothing =
    record {
      known = λ p u. record { none_later = λ k i since these own from. absurd (omega (arith, since, passes_at-within trace (is_by u) k own)); latest = λ some. absurd (omega (arith, nothing.known p u, some)) };
      by_others = λ p u. record { none_later = λ k i since these own from. absurd (omega (arith, since, passes_at-within trace (is_by u) k own)); latest = λ some. absurd (omega (arith, nothing.by_others p u, some)) };
    }

pub reserves : (first : ℕ) (old new : ClockState) (trace : List Event) → KnowsTheSame old new → AreClocksSince first old trace → AreClocksSince first new trace
reserves first old new trace same stands =
    record {
      known = λ p u. subst (IsLatestSince first trace (IsAt trace p) u) (sym (same.known p u)) (stands.known p u);
      by_others = λ p u. subst (IsLatestSince first trace (IsByOthersAt trace p u) u) (sym (same.by_others p u)) (stands.by_others p u);
    }

-- ---- what the next event knows

-- the events at a place are in the trace
at-within : (trace : List Event) (p : ClockPlace) (i : ℕ) → IsAt trace p i → i < length trace
at-within trace (OfLast t) i at = last_at-within (LastOf t) trace i at
at-within trace (OfWrite x) i at = last_at-within (LastWrite x) trace i at
at-within trace (OfReads x) i at = passes_at-within trace (is_reading x) i at.0

-- an earlier event that conflicts with the appended one at its position conflicts with it
conflict-from : (trace : List Event) (e : Event) (j : ℕ) (f : Event) → slice_get trace j ≡ Some f → IsTrue (conflict_at (trace ++ e ∷ []) j (length trace)) → IsTrue (conflict f e)
unfolding conflict_at
conflict-from trace e j f at link =
    sym (ap (λ o. both_conflict o (slice_get (trace ++ e ∷ []) (length trace))) (slice_get-append trace (e ∷ []) j (slice_get_within trace j f at) ∙ at) ∙ ap (λ o. both_conflict (Some f) o) (slice_get-push trace e)) ∙ link

module _ (first : ℕ) (bounds : Bounds) (s : ClockState) (trace : List Event) (e : Event) (u : ℕ) (few : bounds.threads ≤ 64) (well : IsWellFormed bounds (trace ++ e ∷ [])) (stands : AreClocksSince first s trace) where
  abbrev joined : ℕ
  joined = greatest_of (map (λ p. known_at s p u) (OfLast (thread_of e) ∷ beside (access_of e.kind)))

  -- of its own thread it knows itself
  knows-own : IsTrue (u == thread_of e) → IsLatestSince first (trace ++ e ∷ []) (λ i. i ≡ length trace) u (length trace + 1)
  knows-own own = record {
    none_later = λ k i since at by_u chain. omega (arith, passes_at-within (trace ++ e ∷ []) (is_by u) k by_u, length_push trace e);
    latest = λ some. record {
      at = length trace;
      by = length trace;
      next = refl;
      own = passes_at-push trace e (is_by u) ∙ eq-eqb (thread_of e) u (sym (eqb-true u (thread_of e) own));
      among = refl;
      from = inl refl;
    };
  }

  -- what conflicts with it is known at a place that it joins
  knows-joined : (k j : ℕ) → first ≤ k → j < length trace → IsTrue (passes_at trace (is_by u) k) → IsFrom trace k j → IsTrue (conflict_at (trace ++ e ∷ []) j (length trace)) → k < joined
  knows-joined k j since before own chain link =
      let f = event_at trace j before in
      let hit : IsTrue (conflict f.0 e) = conflict-from trace e j f.0 f.1 link in
      let w = reached-from_conflict bounds trace e (IsWellFormed-before bounds trace (e ∷ []) well) (IsWellFormed-last bounds trace e well) few j f.0 f.1 hit in
      let q = joined-at trace e w.place w.at (looked_up-is e w.place w.looked) w.last in
      let below : k < known_at s q.place u = (stands.known q.place u).none_later k q.at since q.there own (Reaches-trans (ConflictsInOrder trace) k w.at q.at (Reaches-trans (ConflictsInOrder trace) k j w.at chain w.after) q.after) in
      let upto = most-at (λ p. known_at s p u) (OfLast (thread_of e) ∷ beside (access_of e.kind)) q.place q.among in
      omega (arith, below, upto)

  knows-other : IsFalse (u == thread_of e) → IsLatestSince first (trace ++ e ∷ []) (λ i. i ≡ length trace) u joined
  knows-other other = record {
    none_later = λ k i since at own chain.
        ⊎_elim
        (λ here. absurd (both_ways (u == thread_of e) other (eq-eqb u (thread_of e) (sym (eqb-true (thread_of e) u (sym (passes_at-push trace e (is_by u)) ∙ subst (λ n. IsTrue (passes_at (trace ++ e ∷ []) (is_by u) n)) (here ∙ at) own))))))
        (λ w.
        let before : w.0 < length trace = omega (arith, w.2.0, at) in
        let upto = IsFrom-le (trace ++ e ∷ []) k w.0 w.1 in
        knows-joined k w.0 since before
        (sym (passes_at-append trace (e ∷ []) (is_by u) k (omega (arith, upto, before))) ∙ own) (IsFrom-before trace (e ∷ []) k w.0 before w.1)
        (subst (λ n. IsTrue (conflict_at (trace ++ e ∷ []) w.0 n)) at w.2.1))
        (IsFrom-last (trace ++ e ∷ []) k i chain);
    latest = λ some.
        let q = most-some (λ p. known_at s p u) (OfLast (thread_of e) ∷ beside (access_of e.kind)) (omega (arith, some)) in
        let w = (stands.known q.0 u).latest (omega (arith, some, q.2)) in
        record {
          at = w.at;
          by = length trace;
          next = q.2 ∙ w.next;
          own = passes_at-append trace (e ∷ []) (is_by u) w.at (passes_at-within trace (is_by u) w.at w.own) ∙ w.own;
          among = refl;
          from = IsFrom-next (trace ++ e ∷ []) w.at w.by (length trace) (IsFrom-append trace (e ∷ []) w.at w.by w.from)
              (at-within trace q.0 w.by w.among, joined-conflicts bounds trace e (IsWellFormed-before bounds trace (e ∷ []) well) (IsWellFormed-last bounds trace e well) q.0 w.by q.1 w.among);
        };
  }

pub knows_next : (first : ℕ) (bounds : Bounds) (s : ClockState) (trace : List Event) (e : Event) (u : ℕ) → bounds.threads ≤ 64 → IsWellFormed bounds (trace ++ e ∷ []) → AreClocksSince first s trace
    → IsLatestSince first (trace ++ e ∷ []) (λ i. i ≡ length trace) u (clock_of s (length trace) e u)
knows_next first bounds s trace e u few well stands =
    ⊎_elim
    (λ own. rw own (knows-own first bounds s trace e u few well stands own))
    (λ other. rw other (knows-other first bounds s trace e u few well stands other))
    (cases_Bool (u == thread_of e))

-- ---- one event more

-- at a place that the event is noted at, it stands beside what was, where this is kept, or in its stead; at one that it clears nothing stands
abbrev After : Bool → Bool → Bool → Type 0 → Type 0 → Type 0
After false false keeps A B = A
After false true keeps A B = ⊥
After true clears true A B = A ⊎ B
After true clears false A B = B

-- reads add up
abbrev keeps : ClockPlace → Bool
keeps (OfLast t) = false
keeps (OfWrite x) = false
keeps (OfReads x) = true

stays-keeps : (p : ClockPlace) (n : ℕ) → stays p n ≡ (if keeps p then n else 0)
stays-keeps (OfLast t) n = refl
stays-keeps (OfWrite x) n = refl
stays-keeps (OfReads x) n = refl

-- the last one is the new one, or is as it was
last-after : (b : Bool) (new old : Option ℕ) (i n : ℕ) → new ≡ (if b then Some n else old) → (new ≡ Some i) ↔ After b false false (old ≡ Some i) (i ≡ n)
last-after true new old i n h = (λ at. same_Some i n (sym at ∙ h), λ same. h ∙ ap (λ k. Some k) (sym same))
last-after false new old i n h = (λ at. sym h ∙ at, λ at. h ∙ at)

-- a position behind the longer trace's beginning is its last
last-behind : (trace : List Event) (e : Event) (test : Event → Bool) (i : ℕ) → length trace ≤ i → IsTrue (passes_at (trace ++ e ∷ []) test i) → i ≡ length trace
last-behind trace e test i past at = let same : i ≡ length trace = omega (arith, past, passes_at-within (trace ++ e ∷ []) test i at, length_push trace e) in same

passes-before : (trace : List Event) (e : Event) (test : Event → Bool) (i : ℕ) → IsTrue (passes_at trace test i) → IsTrue (passes_at (trace ++ e ∷ []) test i)
passes-before trace e test i at = passes_at-append trace (e ∷ []) test i (passes_at-within trace test i at) ∙ at

passes-last : (trace : List Event) (e : Event) (test : Event → Bool) (i : ℕ) → i ≡ length trace → IsTrue (passes_at (trace ++ e ∷ []) test i) → IsTrue (test e)
passes-last trace e test i last at = sym (passes_at-push trace e test) ∙ subst (λ k. IsTrue (passes_at (trace ++ e ∷ []) test k)) last at

-- a variable that is not written behind a position was not before the last event
unwritten-before : (trace : List Event) (e : Event) (x i : ℕ) → IsUnwrittenSince (trace ++ e ∷ []) x i → IsUnwrittenSince trace x i
unwritten-before trace e x i unwritten j after = false_from_ne_true _ (λ writes. both_ways _ (unwritten j after) (passes-before trace e (is_writing x) j writes))

-- nor is it with the last event, if this does not write it or is at the position
unwritten-next : (trace : List Event) (e : Event) (x i : ℕ) → (i < length trace → IsFalse (is_writing x e)) → (i < length trace → IsUnwrittenSince trace x i) → IsUnwrittenSince (trace ++ e ∷ []) x i
unwritten-next trace e x i reads unwritten j after = false_from_ne_true _ (λ writes. ⊎_elim
    (λ before. both_ways _ (unwritten (omega (arith, before, after)) j after) (sym (passes_at-append trace (e ∷ []) (is_writing x) j before) ∙ writes))
    (λ past. let last = last-behind trace e (is_writing x) j past writes in both_ways _ (reads (omega (arith, last, after))) (passes-last trace e (is_writing x) j last writes))
    (cases_lt j (length trace)))

-- what reads does not write
reads-write_not : (a : Access) → IsTrue (is_shared a) → IsFalse (is_exclusive a)
reads-write_not (Shared x) is = refl
reads-write_not (Exclusive x) is = absurd (false≢true is)
reads-write_not Nothing is = absurd (false≢true is)
reads-write_not (Access.Fork t) is = absurd (false≢true is)
reads-write_not (Access.Join t) is = absurd (false≢true is)

-- the reads of a variable since its last write
reads-after : (trace : List Event) (e : Event) (x i : ℕ) (b w : Bool) → is_reading x e ≡ b → is_writing x e ≡ w → IsAt (trace ++ e ∷ []) (OfReads x) i ↔ After b w true (IsAt trace (OfReads x) i) (i ≡ length trace)
reads-after trace e x i true w reads writes =
    let no_write : IsFalse (is_writing x e) = false_from_ne_true _ (λ h. both_ways _ (reads-write_not (access_of e.kind) (and_parts (is_shared (access_of e.kind)) _ reads).0) (and_parts (is_exclusive (access_of e.kind)) _ h).0) in (
      (λ at. ⊎_elim (λ before. inl (sym (passes_at-append trace (e ∷ []) (is_reading x) i before) ∙ at.0, unwritten-before trace e x i at.1))
          (λ past. inr (last-behind trace e (is_reading x) i past at.0))
          (cases_lt i (length trace))),
      (λ these. ⊎_elim
          (λ old. (passes-before trace e (is_reading x) i old.0, unwritten-next trace e x i (λ _. no_write) (λ _. old.1)))
          (λ last. (subst (λ k. IsTrue (passes_at (trace ++ e ∷ []) (is_reading x) k)) (sym last) (passes_at-push trace e (is_reading x) ∙ reads), unwritten-next trace e x i (λ _. no_write) (λ before. absurd (omega (arith, before, last)))))
          these),
    )
reads-after trace e x i false true reads writes = (
  (λ at. ⊎_elim
      (λ before. both_ways _ (at.1 (length trace) before) (passes_at-push trace e (is_writing x) ∙ writes))
      (λ past. both_ways _ reads (passes-last trace e (is_reading x) i (last-behind trace e (is_reading x) i past at.0) at.0))
      (cases_lt i (length trace))),
  (λ none. absurd none),
)
reads-after trace e x i false false reads writes = (
  (λ at. ⊎_elim
      (λ before. (sym (passes_at-append trace (e ∷ []) (is_reading x) i before) ∙ at.0, unwritten-before trace e x i at.1))
      (λ past. absurd (both_ways _ reads (passes-last trace e (is_reading x) i (last-behind trace e (is_reading x) i past at.0) at.0)))
      (cases_lt i (length trace))),
  (λ old. (passes-before trace e (is_reading x) i old.0, unwritten-next trace e x i (λ _. writes) (λ _. old.1))),
)

at-after : (trace : List Event) (e : Event) (p : ClockPlace) (i : ℕ) → IsAt (trace ++ e ∷ []) p i ↔ After (is_noted e p) (is_cleared e p) (keeps p) (IsAt trace p i) (i ≡ length trace)
at-after trace e (OfLast t) i = last-after (is_noted e (OfLast t)) (last_at (LastOf t) (trace ++ e ∷ [])) (last_at (LastOf t) trace) i (length trace) (last_at-push (LastOf t) trace e)
at-after trace e (OfWrite x) i = last-after (is_noted e (OfWrite x)) (last_at (LastWrite x) (trace ++ e ∷ [])) (last_at (LastWrite x) trace) i (length trace) (last_at-push (LastWrite x) trace e)
at-after trace e (OfReads x) i = reads-after trace e x i (is_reading x e) (is_writing x e) refl refl

-- the same of those that are not of a thread
by_others-after : (b clears keeps : Bool) (New Old Next : Type 0) (new old : Bool) → (Old → new ≡ old) → New ↔ After b clears keeps Old Next → (New × IsFalse new) ↔ After b clears keeps (Old × IsFalse old) (Next × IsFalse new)
by_others-after false false keeps New Old Next new old same each = (λ w. let a = each.0 w.0 in (a, sym (same a) ∙ w.1), λ w. (each.1 w.0, same w.0 ∙ w.1))
by_others-after false true keeps New Old Next new old same each = (λ w. each.0 w.0, λ none. absurd none)
by_others-after true clears true New Old Next new old same each = (
  (λ w. ⊎_elim (λ a. inl (a, sym (same a) ∙ w.1)) (λ b. inr (b, w.1)) (each.0 w.0)),
  (λ w. ⊎_elim (λ a. (each.1 (inl a.0), same a.0 ∙ a.1)) (λ b. (each.1 (inr b.0), b.1)) w),
)
by_others-after true clears false New Old Next new old same each = (λ w. (each.0 w.0, w.1), λ w. (each.1 w.0, w.1))

-- and what they know
latest-after : (first : ℕ) (trace : List Event) (e : Event) (u : ℕ) (b clears keeps : Bool) (old next now : ℕ → Type 0) (m n : ℕ) → ((i : ℕ) → old i → i < length trace) → ((i : ℕ) → now i ↔ After b clears keeps (old i) (next i)) → IsLatestSince first trace old u m → IsLatestSince first (trace ++ e ∷ []) next u n
    → IsLatestSince first (trace ++ e ∷ []) now u (if b then max (if keeps then m else 0) n else (if clears then 0 else m))
latest-after first trace e u false false keeps old next now m n within each l r =
    latest-same first (trace ++ e ∷ []) u old now m (λ i. (each i).1) (λ i. (each i).0) (latest-append first trace (e ∷ []) u old m within l)
latest-after first trace e u false true keeps old next now m n within each l r = latest-none first (trace ++ e ∷ []) u now (λ i. (each i).0)
latest-after first trace e u true clears true old next now m n within each l r =
    latest-union first (trace ++ e ∷ []) u old next now m n (λ i a. (each i).1 (inl a)) (λ i a. (each i).1 (inr a)) (λ i. (each i).0) (latest-append first trace (e ∷ []) u old m within l) r
latest-after first trace e u true clears false old next now m n within each l r =
    subst (IsLatestSince first (trace ++ e ∷ []) now u) (let same : n ≡ max 0 n = omega arith in same) (latest-same first (trace ++ e ∷ []) u next now n (λ i. (each i).1) (λ i. (each i).0) r)

module _ (first : ℕ) (bounds : Bounds) (old new : ClockState) (trace : List Event) (e : Event) (few : bounds.threads ≤ 64) (well : IsWellFormed bounds (trace ++ e ∷ [])) (stands : AreClocksSince first old trace) (state_after : IsNoted old (length trace) e new) where
  noted-known : (p : ClockPlace) (u : ℕ) → IsLatestSince first (trace ++ e ∷ []) (IsAt (trace ++ e ∷ []) p) u (known_at new p u)
  noted-known p u =
      subst (IsLatestSince first (trace ++ e ∷ []) (IsAt (trace ++ e ∷ []) p) u)
      (ap (λ d. if is_noted e p then max d (clock_of old (length trace) e u) else (if is_cleared e p then 0 else known_at old p u)) (sym (stays-keeps p (known_at old p u))) ∙ sym (state_after.known p u))
      (latest-after first trace e u (is_noted e p) (is_cleared e p) (keeps p) (IsAt trace p) (λ i. i ≡ length trace) (IsAt (trace ++ e ∷ []) p) (known_at old p u) (clock_of old (length trace) e u)
      (at-within trace p) (at-after trace e p) (stands.known p u) (knows_next first bounds old trace e u few well stands))

  abbrev IsNew : ℕ → ℕ → Type 0
  IsNew u i = (i ≡ length trace) × IsFalse (passes_at (trace ++ e ∷ []) (is_by u) i)

  next-by_others : (u : ℕ) → IsLatestSince first (trace ++ e ∷ []) (IsNew u) u (if u == thread_of e then 0 else clock_of old (length trace) e u)
  next-by_others u = ⊎_elim
      (λ own. rw own (latest-none first (trace ++ e ∷ []) u (IsNew u)
      (λ i w. both_ways (is_by u e) (sym (passes_at-push trace e (is_by u)) ∙ subst (λ k. IsFalse (passes_at (trace ++ e ∷ []) (is_by u) k)) w.0 w.1) (eq-eqb (thread_of e) u (sym (eqb-true u (thread_of e) own))))))
      (λ other. rw other (latest-same first (trace ++ e ∷ []) u (λ i. i ≡ length trace) (IsNew u) _
      (λ i at. (at, subst (λ k. IsFalse (passes_at (trace ++ e ∷ []) (is_by u) k)) (sym at) (passes_at-push trace e (is_by u) ∙ false_from_ne_true _ (λ by_u. both_ways (u == thread_of e) other (eq-eqb u (thread_of e) (sym (eqb-true (thread_of e) u by_u)))))))
      (λ i w. w.0) (knows-other first bounds old trace e u few well stands other)))
      (cases_Bool (u == thread_of e))

  noted-by_others : (p : ClockPlace) (u : ℕ) → IsLatestSince first (trace ++ e ∷ []) (IsByOthersAt (trace ++ e ∷ []) p u) u (by_others_at new p u)
  noted-by_others p u =
      subst (IsLatestSince first (trace ++ e ∷ []) (IsByOthersAt (trace ++ e ∷ []) p u) u)
      (ap (λ d. if is_noted e p then max d (if u == thread_of e then 0 else clock_of old (length trace) e u) else (if is_cleared e p then 0 else by_others_at old p u)) (sym (stays-keeps p (by_others_at old p u))) ∙ sym (state_after.by_others p u))
      (latest-after first trace e u (is_noted e p) (is_cleared e p) (keeps p) (IsByOthersAt trace p u) (IsNew u) (IsByOthersAt (trace ++ e ∷ []) p u) (by_others_at old p u) (if u == thread_of e then 0 else clock_of old (length trace) e u)
      (λ i w. at-within trace p i w.0)
      (λ i. by_others-after (is_noted e p) (is_cleared e p) (keeps p) (IsAt (trace ++ e ∷ []) p i) (IsAt trace p i) (i ≡ length trace) (passes_at (trace ++ e ∷ []) (is_by u) i) (passes_at trace (is_by u) i)
      (λ at. passes_at-append trace (e ∷ []) (is_by u) i (at-within trace p i at)) (at-after trace e p i))
      (stands.by_others p u) (next-by_others u))

pub notes : (first : ℕ) (bounds : Bounds) (old new : ClockState) (trace : List Event) (e : Event) → bounds.threads ≤ 64 → IsWellFormed bounds (trace ++ e ∷ [])
    → AreClocksSince first old trace → IsNoted old (length trace) e new → AreClocksSince first new (trace ++ e ∷ [])
notes first bounds old new trace e few well stands state_after = record { known = noted-known first bounds old new trace e few well stands state_after; by_others = noted-by_others first bounds old new trace e few well stands state_after }

-- ---- which open blocks are interrupted

-- a place beside the event has an event of another thread that is from b
record IsBesideFrom (trace : List Event) (e : Event) (b : ℕ) : Type 0 where
  pub place : ClockPlace
  pub at : ℕ
  pub aside : IsBeside (access_of e.kind) place
  pub there : IsByOthersAt trace place (thread_of e) at
  pub from : IsFrom trace b at

module _ (bounds : Bounds) (trace : List Event) (e : Event) (b : ℕ) (few : bounds.threads ≤ 64) (well : IsWellFormed bounds (trace ++ e ∷ [])) (none : ¬ HasCycle trace) (opened : IsTrue (is_open_at trace (thread_of e) b (length trace))) where
  module _ (q : ℕ) (f : Event) (here : slice_get trace q ≡ Some f) (other : IsFalse (passes_at trace (is_by (thread_of e)) q)) (from : IsFrom trace b q) where
    -- the last event of a place at which such an event is recorded is one too, where those of the place conflict
    last-by_others : (p : Place) → IsTrue (is_recorded f p) → ((g : Event) → IsTrue (is_recorded g p) → IsTrue (conflict f g)) → (k : ℕ) × (last_at p trace ≡ Some k) × IsFalse (passes_at trace (is_by (thread_of e)) k) × IsFrom trace b k
    last-by_others p recorded later =
        let w = last_position-at (λ g. is_recorded g p) trace q f here recorded in
        let last = last_at-is p trace w.0 w.1 in
        ⊎_elim
        (λ before.
        let link : ConflictsInOrder trace q w.0 = (before, conflict_at-events trace q w.0 f last.event here last.here (later last.event last.passes)) in
        (w.0, w.1, false_from_ne_true _ (λ own. no_return trace e b none opened q w.0 other from link own), IsFrom-next trace b q w.0 from link))
        (λ past.
        let same : q ≡ w.0 = omega (arith, past, w.2) in
        (w.0, w.1, subst (λ k. IsFalse (passes_at trace (is_by (thread_of e)) k)) same other, subst (IsFrom trace b) same from))
        (cases_lt q w.0)

    beside-write : (x : ℕ) → cell_of (access_of e.kind) ≡ Some x → cell_of (access_of f.kind) ≡ Some x → IsTrue (is_exclusive (access_of f.kind)) → IsBesideFrom trace e b
    beside-write x accesses same writes =
        let w = last-by_others (LastWrite x) (and_from _ _ writes (are_same-from _ _ x same refl))
        (λ g recorded. conflict-cell f g (are_same-from _ _ x same (are_same-some _ x (and_parts (is_exclusive (access_of g.kind)) _ recorded).1)) (or_left _ _ writes)) in
        record { place = OfWrite x; at = w.0; aside = accesses; there = (w.1, w.2); from = w.3 }

    beside-read : (x : ℕ) → cell_of (access_of e.kind) ≡ Some x → cell_of (access_of f.kind) ≡ Some x → IsTrue (is_exclusive (access_of e.kind)) → IsTrue (is_shared (access_of f.kind)) → IsBesideFrom trace e b
    beside-read x accesses same writes reads = ⊎_elim
        (λ unwritten. record {
          place = OfReads x;
          at = q;
          aside = (accesses, writes);
          there = ((passes_at-is trace (is_reading x) q f here ∙ and_from _ _ reads (are_same-from _ _ x same refl), unwritten), other);
          from = from;
        })
        (λ written.
        let link = read-write trace x q written.0 f here same written.1 written.2 in
        record {
          place = OfWrite x;
          at = written.0;
          aside = accesses;
          there = (written.1, false_from_ne_true _ (λ own. no_return trace e b none opened q written.0 other from link own));
          from = IsFrom-next trace b q written.0 from link;
        })
        (last-write trace x q)

    beside-joined : IsTrue (is_join_of (thread_of f) e) → IsBesideFrom trace e b
    beside-joined joins =
        let w = last-by_others (LastOf (thread_of f)) (or_left _ _ (eq-eqb (thread_of f) (thread_of f) refl))
        (λ g recorded. ⊎_elim
        (λ also. conflict-thread f g (sym (eqb-true _ _ also)))
        (λ forks. conflict-handled f g (fork_handles (access_of g.kind) (thread_of f) forks))
        (or_cases _ _ recorded)) in
        record { place = OfLast (thread_of f); at = w.0; aside = joins; there = (w.1, w.2); from = w.3 }

    -- the block begins after the fork of its thread
    not_forked : IsTrue (is_fork_of (thread_of e) f) → ⊥
    not_forked forks =
        let g = passes_at-event trace (is_by (thread_of e)) b (is_open_at-thread trace (thread_of e) b (length trace) opened) in
        let first = fork-first bounds trace (thread_of e) q b f g.0 (IsWellFormed-before bounds trace (e ∷ []) well) here forks g.1 (eqb-true _ _ g.2) in
        let after = IsFrom-le trace b q from in
        absurd (omega (arith, first, after))

    beside-conflicting : IsTrue (conflict f e) → IsBesideFrom trace e b
    beside-conflicting h =
        let before = IsWellFormed-before bounds trace (e ∷ []) well in
        let follows = IsWellFormed-last bounds trace e well in
        ⊎_elim
        (λ most. ⊎_elim
        (λ some. ⊎_elim
        (λ own. absurd (both_ways (passes_at trace (is_by (thread_of e)) q) other (passes_at-is trace (is_by (thread_of e)) q f here ∙ own)))
        (λ access.
        let parts = and_parts (are_same (cell_of (access_of f.kind)) (cell_of (access_of e.kind))) _ access in
        let same = are_same-both _ _ parts.0 in
        ⊎_elim (λ writes. beside-write same.0 same.2 same.1 writes)
        (λ reads. ⊎_elim
        (λ writes. beside-write same.0 same.2 same.1 writes)
        (λ writes. beside-read same.0 same.2 same.1 writes reads)
        (or_cases _ _ parts.1))
        (reads_or_writes (access_of f.kind) same.0 same.1))
        (or_cases _ _ some))
        (λ handles. ⊎_elim (λ forks. absurd (not_forked forks)) (λ joins. absurd (no_join bounds trace e before follows few q f here joins)) (forks_or_joins (access_of f.kind) (thread_of e) handles))
        (or_cases _ _ most))
        (λ handled. ⊎_elim (λ forks. absurd (no_fork bounds trace e before follows few q f here forks)) (λ joins. beside-joined joins) (forks_or_joins (access_of e.kind) (thread_of f) handled))
        (or_cases _ _ h)

pub bounded : (first : ℕ) (bounds : Bounds) (s : ClockState) (trace : List Event) (e : Event) (b : ℕ) → first ≤ b → bounds.threads ≤ 64 → IsWellFormed bounds (trace ++ e ∷ []) → ¬ HasCycle trace → AreClocksSince first s trace
    → IsTrue (is_open_at (trace ++ e ∷ []) (thread_of e) b (length (trace ++ e ∷ [])))
    → (b < blame_bound s e) ↔ IsInterruptedAtLast trace e b
bounded first bounds s trace e b since few well none stands opened = (below_bound, interrupted)
  where
    own : b < length trace → IsTrue (passes_at trace (is_by (thread_of e)) b)
    own l = sym (passes_at-append trace (e ∷ []) (is_by (thread_of e)) b l) ∙ is_open_at-thread (trace ++ e ∷ []) (thread_of e) b (length (trace ++ e ∷ [])) opened

    below_bound : b < blame_bound s e → IsInterruptedAtLast trace e b
    below_bound below =
        let q = most-some (λ p. by_others_at s p (thread_of e)) (beside (access_of e.kind)) (omega (arith, below)) in
        let w = (stands.by_others q.0 (thread_of e)).latest (omega (arith, since, below, q.2)) in
        let within = passes_at-within trace (is_by (thread_of e)) w.at w.own in
        let upto : b ≤ w.at = omega (arith, below, q.2, w.next) in
        record {
          through = w.by;
          before = at-within trace q.0 w.by w.among.0;
          of_another = w.among.1;
          from = Reaches-trans (ConflictsInOrder trace) b w.at w.by (IsFrom-same_thread trace (thread_of e) b w.at upto (own (omega (arith, upto, within))) w.own) w.from;
          in_conflict = beside-conflicts bounds trace e (IsWellFormed-before bounds trace (e ∷ []) well) (IsWellFormed-last bounds trace e well) q.0 w.by (beside-is (access_of e.kind) q.0 q.1) w.among.0;
        }

    interrupted : IsInterruptedAtLast trace e b → b < blame_bound s e
    interrupted i =
        let f = event_at trace i.through i.before in
        let after = IsFrom-le trace b i.through i.from in
        let l : b < length trace = omega (arith, after, i.before) in
        let w = beside-conflicting bounds trace e b few well none (is_open_at-before trace e (thread_of e) b l opened) i.through f.0 f.1 i.of_another i.from (conflict-from trace e i.through f.0 f.1 i.in_conflict) in
        let below = (stands.by_others w.place (thread_of e)).none_later b w.at since w.there (own l) w.from in
        let upto = most-at (λ p. by_others_at s p (thread_of e)) (beside (access_of e.kind)) w.place (beside-has (access_of e.kind) w.place w.aside) in
        omega (arith, below, upto)

-- so the open blocks below the bound are those to blame, where none of them begins before `first`
pub blames : (first : ℕ) (bounds : Bounds) (s : ClockState) (trace : List Event) (e : Event) → bounds.threads ≤ 64 → IsWellFormed bounds (trace ++ e ∷ []) → ¬ HasCycle trace → AreClocksSince first s trace
    → ((b : ℕ) → b < first → IsFalse (is_open_at (trace ++ e ∷ []) (thread_of e) b (length (trace ++ e ∷ []))))
    → AreBlamed (trace ++ e ∷ []) (thread_of e) (filter (λ b. nat_lt b (blame_bound s e)) (open_blocks (trace ++ e ∷ []) (thread_of e)))
blames first bounds s trace e few well none stands none_before =
    let whole = trace ++ e ∷ [] in
    let own : IsTrue (passes_at whole (is_by (thread_of e)) (length trace)) = passes_at-push trace e (is_by (thread_of e)) ∙ eq-eqb (thread_of e) (thread_of e) refl in
    AreBlamed-filter whole (thread_of e) (length trace) (λ b. nat_lt b (blame_bound s e)) (length_push trace e) own (λ b opened.
    let since : first ≤ b = ⊎_elim (λ before. absurd (both_ways _ (none_before b before) opened)) (λ past. past) (cases_lt b first) in
    let at_last = bounded first bounds s trace e b since few well none stands opened in
    let last = blame_law-last trace e b none opened in
    let law = blame_law whole (thread_of e) b (length trace) (length_push trace e) own opened in (
      (λ below. law.0 (last.1 (at_last.0 (ltb-true b (blame_bound s e) below)))),
      (λ cut. lt-ltb b (blame_bound s e) (at_last.1 (last.0 (law.1 cut)))),
    ))
