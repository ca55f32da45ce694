-- Who waits for whom after a prediction, and that all of them are threads of it.
use Rattle.std.proofs.Common.{◌≡◌, ◌≢◌, ℕ, ◌+◌, ◌<◌, ◌≤◌, Bool, true, false, List, [], ◌∷◌, ◌++◌, length, drop, Option, Some, None, refl, sym, ap, ◌∙◌, subst, arith, ⊎_elim, inl, inr}
use Rattle.std.specs.Prelude.{◌⊎◌, ◌||◌, ◌==◌, ◌↔◌, if◌then◌else◌, not, slice_get, IsTrue, IsFalse}
use Rattle.std.specs.Option.{option_map_or}
use Rattle.std.proofs.lemmas.Nat.Bits.{bit_at-zero}
use Rattle.std.proofs.lemmas.Bool.{cases_lt, and_parts, and_from, or_cases, or_left, or_right, both_ways, eq-eqb, eqb-true, ne_eqb, false≢true, false_from_ne_true}
use Rattle.std.proofs.lemmas.Option.{none-some, same_Some}
use Rattle.velo_events.specs.declared.config.Bounds.{Bounds}
use Rattle.velo_events.specs.declared.event.Action.{Action}
use Rattle.velo_events.specs.declared.event.Event.{Event}
use Rattle.velo_events.specs.declared.event.Kind.{Kind}
use Rattle.velo_events.specs.declared.event.Kind.TheVariants.{Acquire, Release, AcquireShared, ReleaseShared, Fork, Join, Exit}
use Rattle.velo_events.specs.declared.thread_set.ThreadSet.{ThreadSet}
use Rattle.velo_events.specs.ThreadSets.{has_thread, no_threads}
use Rattle.velo_events.specs.declared.event.Status.TheVariants.{Live}
use Rattle.velo_events.specs.Event.{thread_of, are_same, is_acquire, is_acquire_shared, is_on_lock, is_on_share, is_fork_of, exclusive_lock_of, shared_lock_of, thread_forked}
use Rattle.velo_events.specs.Heap.{latest, happened, holder_in, shares_in, status_in}
use Rattle.velo_events.specs.Meaning.{action_of, holds, is_live}
use Rattle.velo_events.specs.WellFormed.{MayFollow, NamesKnown, IsWellFormed}
use Rattle.velo_events.proofs.OnLookUps.{are_same-from, are_same-some, happened-some}
use Rattle.velo_events.proofs.OnTraces.{slice_get-append, slice_get-push}
use Rattle.velo_events.proofs.OnStatuses.{is_Live, live_parts}
use Rattle.velo_events.proofs.OnWellFormed.{IsWellFormed-induct, Facts-from, holder_in-push, shares_in-push}
use Rattle.velo_movers.specs.Programs.{own}
use Rattle.velo_predict.specs.Circles.{IsInRow}
use Rattle.velo_predict.specs.Courses.{IsCourse}
use Rattle.velo_predict.specs.Deadlocks.{WaitsFor, IsNextAction}
use Rattle.velo_predict.specs.Deadlocks.WaitsFor.{ForLock, ForShare, ForEnd}
use Rattle.velo_predict.specs.Predictions.{IsNextOf}
use Rattle.velo_predict.specs.Waits.{IsDue, hinders}
use Rattle.velo_predict.specs.declared.judge.Course.{Course}
use Rattle.velo_predict.proofs.OnCourses.{nothing_next}
use Rattle.velo_predict.proofs.OnDifferences.{along_at, kind_from_action, same_past_at}
use Rattle.velo_predict.proofs.OnPredictions.{next_same, no_next, not_turned}

yes_or_no : (b : Bool) → IsFalse b ⊎ IsTrue b
yes_or_no false = inl refl
yes_or_no true = inr refl

-- ---- whoever holds a lock is known, and so is the lock

lock-known : (bounds : Bounds) (k : Kind) (m : ℕ) → NamesKnown bounds k → IsTrue (are_same (exclusive_lock_of k) (Some m)) → m < bounds.locks
lock-known bounds (Acquire l) m known same = omega (arith, known, eqb-true l.0 m same)
lock-known bounds (Release l) m known same = omega (arith, known, eqb-true l.0 m same)
lock-known bounds _ m known same = absurd (false≢true same)

share-known : (bounds : Bounds) (k : Kind) (m : ℕ) → NamesKnown bounds k → IsTrue (are_same (shared_lock_of k) (Some m)) → m < bounds.locks
share-known bounds (AcquireShared l) m known same = omega (arith, known, eqb-true l.0 m same)
share-known bounds (ReleaseShared l) m known same = omega (arith, known, eqb-true l.0 m same)
share-known bounds _ m known same = absurd (false≢true same)

fork-known : (bounds : Bounds) (k : Kind) (u : ℕ) → NamesKnown bounds k → IsTrue (are_same (thread_forked k) (Some u)) → u < bounds.threads
fork-known bounds (Fork v) u known same = omega (arith, known, eqb-true v.0 u same)
fork-known bounds _ u known same = absurd (false≢true same)

module _ (bounds : Bounds) where
  pub holder-known : (trace : List Event) → IsWellFormed bounds trace → (m u : ℕ) → holder_in trace m ≡ Some u → (u < bounds.threads) × (m < bounds.locks)
  unfolding latest
  holder-known = IsWellFormed-induct bounds (λ trace. (m u : ℕ) → holder_in trace m ≡ Some u → (u < bounds.threads) × (m < bounds.locks)) start next
    where
      start : (m u : ℕ) → holder_in [] m ≡ Some u → (u < bounds.threads) × (m < bounds.locks)
      start m u h = absurd (none-some u h)

      next : (earlier : List Event) (e : Event) → IsWellFormed bounds earlier → ((m u : ℕ) → holder_in earlier m ≡ Some u → (u < bounds.threads) × (m < bounds.locks)) → MayFollow bounds earlier e → (m u : ℕ) → holder_in (earlier ++ e ∷ []) m ≡ Some u → (u < bounds.threads) × (m < bounds.locks)
      next earlier e well before follows m u h = by_lock (is_on_lock m e) (is_acquire e.kind) refl (sym (holder_in-push earlier e m) ∙ h)
        where
          by_lock : (on acquires : Bool) → is_on_lock m e ≡ on → (if on then (if acquires then Some (thread_of e) else None) else holder_in earlier m) ≡ Some u → (u < bounds.threads) × (m < bounds.locks)
          by_lock true true is same = (omega (arith, follows.known_thread, same_Some (thread_of e) u same), lock-known bounds e.kind m follows.known_names is)
          by_lock true false is same = absurd (none-some u same)
          by_lock false acquires is same = before m u same

  pub share-lock_known : (trace : List Event) → IsWellFormed bounds trace → (m u : ℕ) → IsTrue (shares_in trace m u) → m < bounds.locks
  unfolding latest
  share-lock_known = IsWellFormed-induct bounds (λ trace. (m u : ℕ) → IsTrue (shares_in trace m u) → m < bounds.locks) start next
    where
      start : (m u : ℕ) → IsTrue (shares_in [] m u) → m < bounds.locks
      start m u h = absurd (false≢true h)

      next : (earlier : List Event) (e : Event) → IsWellFormed bounds earlier → ((m u : ℕ) → IsTrue (shares_in earlier m u) → m < bounds.locks) → MayFollow bounds earlier e → (m u : ℕ) → IsTrue (shares_in (earlier ++ e ∷ []) m u) → m < bounds.locks
      next earlier e well before follows m u h = by_share (is_on_share m u e) refl (sym (shares_in-push earlier e m u) ∙ h)
        where
          by_share : (on : Bool) → is_on_share m u e ≡ on → IsTrue (if on then is_acquire_shared e.kind else shares_in earlier m u) → m < bounds.locks
          by_share true is same = share-known bounds e.kind m follows.known_names (and_parts _ _ is).1
          by_share false is same = before m u same

  pub alone-beyond : (trace : List Event) → IsWellFormed bounds trace → (m u : ℕ) → bounds.locks ≤ m → are_same (holder_in trace m) (Some u) ≡ false
  alone-beyond trace well m u beyond = false_from_ne_true _ (λ has. absurd (omega (arith, beyond, (holder-known trace well m u (are_same-some (holder_in trace m) u has)).1)))

  pub share-beyond : (trace : List Event) → IsWellFormed bounds trace → (m u : ℕ) → bounds.locks ≤ m → shares_in trace m u ≡ false
  share-beyond trace well m u beyond = false_from_ne_true _ (λ has. absurd (omega (arith, beyond, share-lock_known trace well m u has)))

  pub holds-known : (trace : List Event) → IsWellFormed bounds trace → (m u : ℕ) → IsTrue (holds trace u m) → (u < bounds.threads) × (m < bounds.locks)
  holds-known trace well m u h =
      ⊎_elim (λ alone. holder-known trace well m u (are_same-some (holder_in trace m) u alone))
      (λ shared. ((Facts-from bounds trace well).sharer m u shared, share-lock_known trace well m u shared))
      (or_cases (are_same (holder_in trace m) (Some u)) (shares_in trace m u) h)

  pub live-known : (trace : List Event) → IsWellFormed bounds trace → 0 < bounds.threads → (u : ℕ) → status_in trace u ≡ Live → u < bounds.threads
  live-known trace well some u live =
      ⊎_elim (λ first. omega (arith, some, eqb-true u 0 first))
      (λ forked. let w = happened-some (is_fork_of u) trace forked in fork-known bounds w.1.kind u (well.each w.0 w.1 w.2).known_names w.3)
      (or_cases (u == 0) (happened (is_fork_of u) trace) (live_parts _ _ _ live).2)

-- ---- the next event of a thread

module _ (log trace : List Event) (t : ℕ) where
  pub due-next : (at : ℕ) (d : IsDue log trace t at) → IsNextOf log trace t d.next
  due-next at d = record { sure = d.sure; rest = own t (drop (at + 1) log); along = along_at log t at d.next (own t trace) d.there d.by d.same_past }

  pub next-due : (at : ℕ) (d : IsDue log trace t at) (action : Action) → IsNextAction log trace t action → action_of d.next.kind ≡ action
  unfolding due-next
  next-due at d action its =
      let same = next_same (own t trace) d.next its.event (own t (drop (at + 1) log)) its.next.rest (sym (due-next at d).along ∙ its.next.along) in
      ap (λ f. action_of f.kind) same ∙ its.is_action

  -- by how far it is in the log
  pub due-from_course : (course : Course) (at : ℕ) (next : Event) → IsCourse log trace t course → IsFalse course.is_unsure → own t (drop course.place log) ≡ own t (drop at log) → slice_get log at ≡ Some next → thread_of next ≡ t → IsDue log trace t at
  due-from_course course at next stands sure passed here by = record {
    next = next;
    there = here;
    by = by;
    same_past = same_past_at log trace t course.place at (stands.along sure) passed;
    sure = stands.not_behind sure;
  }

  pub none_due-over : (course : Course) (at : ℕ) → IsCourse log trace t course → IsFalse course.is_unsure → own t (drop course.place log) ≡ own t (drop at log) → length log ≤ at → (action : Action) → ¬ IsNextAction log trace t action
  none_due-over course at stands sure passed over action its =
      let by_it : Event = record { thread = record { 0 = t }; kind = Exit } in
      no_next (own t trace) its.event its.next.rest (sym (nothing_next log trace by_it course stands at sure passed over) ∙ its.next.along)

  pub none_due-unsure : (course : Course) → IsCourse log trace t course → IsTrue course.is_unsure → (action : Action) → ¬ IsNextAction log trace t action
  none_due-unsure course stands unsure action its =
      ⊎_elim (λ turned. not_turned log trace t (its.event ∷ its.next.rest) its.next.along turned) (λ behind. its.next.sure behind) (stands.unsure unsure)

  -- ---- who waits for whom

  pub waits-hindered : (k : Kind) → ((action : Action) → IsNextAction log trace t action → action_of k ≡ action) → (u : ℕ) → WaitsFor (IsNextAction log trace) trace t u → IsTrue (hinders trace k t u)
  waits-hindered k only u (ForLock m next lives other has) =
      subst (λ l. IsTrue (hinders trace l t u)) (sym (kind_from_action k (Action.Acquire m) (only (Action.Acquire m) next) refl)) (and_from (not (t == u)) (holds trace u m.0) (ap not (ne_eqb t u other)) has)
  waits-hindered k only u (ForShare m next lives other has) =
      subst (λ l. IsTrue (hinders trace l t u)) (sym (kind_from_action k (Action.AcquireShared m) (only (Action.AcquireShared m) next) refl)) (and_from (not (t == u)) (are_same (holder_in trace m.0) (Some u)) (ap not (ne_eqb t u other)) (are_same-from (holder_in trace m.0) (Some u) u has refl))
  waits-hindered k only u (ForEnd v next lives same other) =
      subst (λ l. IsTrue (hinders trace l t u)) (sym (kind_from_action k (Action.Join v) (only (Action.Join v) next) refl)) (and_from (v.0 == u) (is_live (status_in trace u)) (eq-eqb v.0 u same) (ap is_live other))

  pub waits-live : (u : ℕ) → WaitsFor (IsNextAction log trace) trace t u → status_in trace t ≡ Live
  waits-live u (ForLock m next lives other has) = lives
  waits-live u (ForShare m next lives other has) = lives
  waits-live u (ForEnd v next lives same other) = lives

  apart : (u : ℕ) → IsTrue (not (t == u)) → t ≢ u
  apart u h same = both_ways (t == u) (not-true (t == u) h) (eq-eqb t u same)
    where
      not-true : (b : Bool) → IsTrue (not b) → IsFalse b
      not-true true h = absurd (false≢true h)
      not-true false h = refl

  pub hindered-waits : (k : Kind) → IsNextAction log trace t (action_of k) → status_in trace t ≡ Live → (u : ℕ) → IsTrue (hinders trace k t u) → WaitsFor (IsNextAction log trace) trace t u
  hindered-waits (Acquire m) next lives u h = let parts = and_parts (not (t == u)) (holds trace u m.0) h in ForLock m next lives (apart u parts.0) parts.1
  hindered-waits (AcquireShared m) next lives u h = let parts = and_parts (not (t == u)) (are_same (holder_in trace m.0) (Some u)) h in ForShare m next lives (apart u parts.0) (are_same-some (holder_in trace m.0) u parts.1)
  hindered-waits (Join v) next lives u h = let parts = and_parts (v.0 == u) (is_live (status_in trace u)) h in ForEnd v next lives (eqb-true v.0 u parts.0) (is_Live (status_in trace u) parts.1)
  hindered-waits _ next lives u h = absurd (false≢true h)

  pub waits-known : (bounds : Bounds) → IsWellFormed bounds trace → 0 < bounds.threads → (u : ℕ) → WaitsFor (IsNextAction log trace) trace t u → (t < bounds.threads) × (u < bounds.threads)
  waits-known bounds well some u (ForLock m next lives other has) = (live-known bounds trace well some t lives, (holds-known bounds trace well m.0 u has).0)
  waits-known bounds well some u (ForShare m next lives other has) = (live-known bounds trace well some t lives, (holder-known bounds trace well m.0 u has).0)
  waits-known bounds well some u (ForEnd v next lives same other) = (live-known bounds trace well some t lives, live-known bounds trace well some u other)

-- ---- rows, one thread later

pub row-with : (h : ℕ → Bool) (n : ℕ) (row wider : ThreadSet) → ((u : ℕ) → IsTrue (has_thread row u) ↔ ((u < n) × IsTrue (h u))) → IsTrue (h n) → ((u : ℕ) → has_thread wider u ≡ (n == u || has_thread row u)) → (u : ℕ) → IsTrue (has_thread wider u) ↔ ((u < n + 1) × IsTrue (h u))
row-with h n row wider each now members u = (
  λ has. ⊎_elim
      (λ last. let same : n ≡ u = eqb-true n u last in (omega (arith, same), subst (λ k. IsTrue (h k)) same now))
      (λ before. let w = (each u).0 before in (omega (arith, w.0), w.1))
      (or_cases (n == u) (has_thread row u) (sym (members u) ∙ has)),
  λ w. members u ∙ ⊎_elim
      (λ less. or_right (n == u) (has_thread row u) ((each u).1 (less, w.1)))
      (λ more. or_left (n == u) (has_thread row u) (eq-eqb n u (let same : n ≡ u = omega (arith, more, w.0) in same)))
      (cases_lt u n),
)

pub row-without : (h : ℕ → Bool) (n : ℕ) (row : ThreadSet) → ((u : ℕ) → IsTrue (has_thread row u) ↔ ((u < n) × IsTrue (h u))) → IsFalse (h n) → (u : ℕ) → IsTrue (has_thread row u) ↔ ((u < n + 1) × IsTrue (h u))
row-without h n row each never u = (
  λ has. let w = (each u).0 has in (omega (arith, w.0), w.1),
  λ w. ⊎_elim
      (λ less. (each u).1 (less, w.1))
      (λ more. let same : u ≡ n = omega (arith, more, w.0) in absurd (both_ways (h n) never (subst (λ k. IsTrue (h k)) same w.1)))
      (cases_lt u n),
)

-- the threads that hinder are those for which the thread waits
pub row-waits : (bounds : Bounds) (log trace : List Event) (t at : ℕ) (row : ThreadSet) (k : Kind) → IsWellFormed bounds trace → 0 < bounds.threads → (d : IsDue log trace t at) → d.next.kind ≡ k → status_in trace t ≡ Live → ((u : ℕ) → IsTrue (has_thread row u) ↔ ((u < bounds.threads) × IsTrue (hinders trace k t u))) → (u : ℕ) → IsTrue (has_thread row u) ↔ WaitsFor (IsNextAction log trace) trace t u
row-waits bounds log trace t at row k well some d kinds lives each u = (
  λ has. hindered-waits log trace t k (record { event = d.next; next = due-next log trace t at d; is_action = ap action_of kinds }) lives u ((each u).0 has).1,
  λ w. (each u).1 ((waits-known log trace t bounds well some u w).1, waits-hindered log trace t k (λ action next. ap action_of (sym kinds) ∙ next-due log trace t at d action next) u w),
)

wanted : (Next : ℕ → Action → Type 0) (trace : List Event) (t u : ℕ) → WaitsFor Next trace t u → (action : Action) × Next t action
wanted Next trace t u (ForLock m next lives other has) = (Action.Acquire m, next)
wanted Next trace t u (ForShare m next lives other has) = (Action.AcquireShared m, next)
wanted Next trace t u (ForEnd v next lives same other) = (Action.Join v, next)

-- a thread whose next action is unknown waits for nobody, and so does one that does not live
pub row-unknown : (log trace : List Event) (t : ℕ) (row : ThreadSet) → ((u : ℕ) → IsFalse (has_thread row u)) → ((action : Action) → ¬ IsNextAction log trace t action) → (u : ℕ) → IsTrue (has_thread row u) ↔ WaitsFor (IsNextAction log trace) trace t u
row-unknown log trace t row empty unknown u = (
  λ has. absurd (both_ways (has_thread row u) (empty u) has),
  λ w. let action = wanted (IsNextAction log trace) trace t u w in absurd (unknown action.0 action.1),
)

pub row-not_live : (log trace : List Event) (t : ℕ) (row : ThreadSet) → ((u : ℕ) → IsFalse (has_thread row u)) → IsFalse (is_live (status_in trace t)) → (u : ℕ) → IsTrue (has_thread row u) ↔ WaitsFor (IsNextAction log trace) trace t u
row-not_live log trace t row empty dead u = (
  λ has. absurd (both_ways (has_thread row u) (empty u) has),
  λ w. absurd (both_ways (is_live (status_in trace t)) dead (ap is_live (waits-live log trace t u w))),
)

-- no member is in the empty set
pub none-has : (u : ℕ) → IsFalse (has_thread no_threads u)
none-has u = ap (λ n. n == 1) (bit_at-zero u)

pub rows-push : (rows : List ThreadSet) (row : ThreadSet) (longer : List ThreadSet) (n : ℕ) (W : ℕ → ℕ → Type 0) → length rows ≡ n → longer ≡ rows ++ row ∷ [] → ((t u : ℕ) → t < n → IsInRow rows t u ↔ W t u) → ((u : ℕ) → IsTrue (has_thread row u) ↔ W n u) → (t u : ℕ) → t < n + 1 → IsInRow longer t u ↔ W t u
rows-push rows row longer n W count same each last t u within =
    subst (λ xs. IsInRow xs t u ↔ W t u) (sym same) (⊎_elim
    (λ less. subst (λ b. IsTrue b ↔ W t u) (sym (ap (λ (o : Option ThreadSet). option_map_or (λ r. has_thread r u) o false) (slice_get-append rows (row ∷ []) t (omega (arith, less, count))))) (each t u less))
    (λ more.
    let place : length rows ≡ t = omega (arith, more, within, count) in
    let at_end : n ≡ t = omega (arith, place, count) in
    let here : slice_get (rows ++ row ∷ []) t ≡ Some row = subst (λ k. slice_get (rows ++ row ∷ []) k ≡ Some row) place (slice_get-push rows row) in
    subst (λ b. IsTrue b ↔ W t u) (sym (ap (λ (o : Option ThreadSet). option_map_or (λ r. has_thread r u) o false) here)) (subst (λ k. IsTrue (has_thread row u) ↔ W k u) at_end (last u)))
    (cases_lt t n))
