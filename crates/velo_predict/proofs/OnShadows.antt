-- Every prediction has a shadow: a run of the program in which each thread does the same as long as its next action is known, and
-- then gives its locks back.
use Rattle.std.proofs.Common.{◌≡◌, ◌≢◌, ℕ, zero, suc, ◌+◌, ◌-◌, ◌<◌, ◌≤◌, Bool, true, false, cond, List, [], ◌∷◌, ◌++◌, length, take, Option, Some, None, refl, sym, ap, ◌∙◌, subst, arith, length-append, ⊎_elim, inl, inr}
use Rattle.std.specs.Prelude.{◌⊎◌, ◌&&◌, ◌||◌, ◌==◌, if◌then◌else◌, slice_get, Contains, IsTrue, IsFalse}
use Rattle.std.proofs.Math.Seq.{take-append_seam}
use Rattle.std.proofs.lemmas.Bool.{and_left, and_parts, and_right, both_ways, cases_Bool, cases_eq, cases_lt, eq-eqb, eqb-true, false≢true, false_from_ne_true, ne_eqb, or_cases, or_left, or_right}
use Rattle.std.proofs.lemmas.List.{append-nil, append_assoc, length_push, take-append-le}
use Rattle.std.proofs.lemmas.Option.{none-some, same_Some, slice_get_within}
use Rattle.velo_events.specs.declared.limits.TheConstants.{MAX_OPEN_BLOCKS}
use Rattle.velo_events.specs.declared.config.Bounds.{Bounds}
use Rattle.velo_events.specs.declared.event.Access.{Access}
use Rattle.velo_events.specs.declared.event.Action.{Action}
use Rattle.velo_events.specs.declared.event.Event.{Event}
use Rattle.velo_events.specs.declared.event.Kind.{Kind}
use Rattle.velo_events.specs.declared.event.Kind.TheVariants.{Read, Write, Acquire, Release, AcquireShared, ReleaseShared, Begin, End, Fork, Join, Exit}
use Rattle.velo_events.specs.declared.event.ThreadId.{ThreadId}
use Rattle.velo_events.specs.declared.event.Status.TheVariants.{Live}
use Rattle.velo_events.specs.Block.{passes_at, open_blocks}
use Rattle.velo_events.specs.Conflict.{conflict}
use Rattle.velo_events.specs.Event.{are_same, thread_of, access_of, is_by, is_read, is_begin, is_end, is_exit, is_acquire, is_release, is_acquire_shared, is_release_shared, is_begin_by, is_end_by, is_exit_by, is_fork_of, is_join_of, is_on_lock, is_on_share, shared_lock_of, forked_of, joined_of, forked_or_joined_of, thread_forked_or_joined}
use Rattle.velo_events.specs.Graph.{Path, IsCycle, HasCycle, ConflictsInOrder, conflict_at}
use Rattle.velo_events.specs.Heap.{happened, times, value_in, holder_in, shares_in, status_in, was_born, depth_in}
use Rattle.velo_events.specs.Meaning.{action_of, kind_for, holds}
use Rattle.velo_events.specs.WellFormed.{IsInTurn, MayFollow, NamesKnown, IsWellFormed}
use Rattle.velo_events.proofs.OnGraphs.{Reaches-trans}
use Rattle.velo_events.proofs.OnHappening.{ConflictsInOrder-same_thread, HappensBefore-lt, HappensBefore-within, IsFrom, IsFrom-append}
use Rattle.velo_events.specs.Reordering.{IsSelfSerializable}
use Rattle.velo_events.proofs.OnBlame.{blame_law}
use Rattle.velo_events.proofs.OnOwners.{is_in_block-open, is_open_at-begins, is_open_at-thread}
use Rattle.velo_events.proofs.OnUnfinished.{Contains-open_blocks}
use Rattle.velo_events.proofs.OnLookUps.{are_same-from, are_same-some}
use Rattle.velo_events.proofs.OnReorderings.{conflict_at-within}
use Rattle.velo_events.proofs.OnScans.{event_at, passes_at-event, passes_at-is}
use Rattle.velo_events.proofs.OnTraces.{append-induct, happened-no, happened-push, slice_get-append, slice_get-push, times-push}
use Rattle.velo_events.proofs.OnStatuses.{status_by}
use Rattle.velo_events.proofs.OnWellFormed.{IsWellFormed-induct, IsWellFormed-nil, IsWellFormed-push, holder_in-push, shares_in-kept, shares_in-push}
use Rattle.velo_movers.specs.Free.{gives_up}
use Rattle.velo_movers.specs.Programs.{own}
use Rattle.velo_movers.specs.Wants.{Does}
use Rattle.velo_movers.proofs.OnHolders.{own-push_no, own-push_yes}
use Rattle.velo_movers.proofs.OnRules.{kind-by_action}
use Rattle.velo_movers.proofs.OnWants.{Does-push}
use Rattle.velo_predict.specs.Deadlocks.{WaitsFor, IsNextAction, PredictsDeadlock}
use Rattle.velo_predict.specs.Deadlocks.WaitsFor.{ForLock, ForShare, ForEnd}
use Rattle.velo_predict.specs.Feasible.{IsRun, GivesBack, SectionsEnd, BlameIsFeasible, CanBreak, CanCycle, CanDeadlock, CyclesAreFeasible, DeadlocksAreFeasible}
use Rattle.velo_predict.specs.Predictions.{HasTurned, HasReadBehind, IsLoose, IsNextOf, IsUnsure, IsForetold, IsPrediction}
use Rattle.velo_predict.specs.Predictions.IsForetold.{Known, Unknown}
use Rattle.velo_predict.proofs.OnDifferences.{action_reads, reads_by_action}
use Rattle.velo_predict.proofs.OnKept.{wanted_next}
use Rattle.velo_predict.proofs.OnOwn.{AreAlike, exit-same, holder-back, holder-forth, shares-same, times-same}
use Rattle.velo_predict.proofs.OnOwn.AreAlike.{Same, LastRead}
use Rattle.velo_predict.proofs.OnPredictions.{HasTurned-by, HasTurned-longer, HasReadBehind-last, HasReadBehind-push, IsLoose-last, IsLoose-longer, IsLoose-push, IsUnsure-longer, not_turned}
use Rattle.velo_predict.proofs.OnSections.{conflicts_before, in_turn-before, lock-access, share-access}
use Rattle.velo_predict.proofs.OnStands.{GivesUp, GoAlong, IsTwin, Stands, Stands-nil, stands-cycle, stands-interrupted, conflict-at, grown_more, grown_one, last_or_before}

-- ---- the event that the run has in place of one of the trace

for-access : (trace : List Event) (k : Kind) → access_of (kind_for trace (action_of k)) ≡ access_of k
for-access trace (Read x v) = refl
for-access trace (Write x v) = refl
for-access trace (Acquire m) = refl
for-access trace (Release m) = refl
for-access trace (AcquireShared m) = refl
for-access trace (ReleaseShared m) = refl
for-access trace (Begin l) = refl
for-access trace End = refl
for-access trace (Fork u) = refl
for-access trace (Join u) = refl
for-access trace Exit = refl

for-begin : (trace : List Event) (k : Kind) → is_begin k ≡ is_begin (kind_for trace (action_of k))
for-begin trace (Read x v) = refl
for-begin trace (Write x v) = refl
for-begin trace (Acquire m) = refl
for-begin trace (Release m) = refl
for-begin trace (AcquireShared m) = refl
for-begin trace (ReleaseShared m) = refl
for-begin trace (Begin l) = refl
for-begin trace End = refl
for-begin trace (Fork u) = refl
for-begin trace (Join u) = refl
for-begin trace Exit = refl

for-end : (trace : List Event) (k : Kind) → is_end k ≡ is_end (kind_for trace (action_of k))
for-end trace (Read x v) = refl
for-end trace (Write x v) = refl
for-end trace (Acquire m) = refl
for-end trace (Release m) = refl
for-end trace (AcquireShared m) = refl
for-end trace (ReleaseShared m) = refl
for-end trace (Begin l) = refl
for-end trace End = refl
for-end trace (Fork u) = refl
for-end trace (Join u) = refl
for-end trace Exit = refl

for-action : (trace : List Event) (k : Kind) → action_of (kind_for trace (action_of k)) ≡ action_of k
for-action trace (Read x v) = refl
for-action trace (Write x v) = refl
for-action trace (Acquire m) = refl
for-action trace (Release m) = refl
for-action trace (AcquireShared m) = refl
for-action trace (ReleaseShared m) = refl
for-action trace (Begin l) = refl
for-action trace End = refl
for-action trace (Fork u) = refl
for-action trace (Join u) = refl
for-action trace Exit = refl

for-read : (trace : List Event) (k : Kind) → IsTrue (is_read k) → IsTrue (is_read (kind_for trace (action_of k)))
for-read trace (Read x v) read = refl
for-read trace _ read = absurd (false≢true read)

for-same : (trace : List Event) (k : Kind) → IsFalse (is_read k) → kind_for trace (action_of k) ≡ k
for-same trace (Read x v) other = absurd (false≢true (sym other))
for-same trace (Write x v) other = refl
for-same trace (Acquire m) other = refl
for-same trace (Release m) other = refl
for-same trace (AcquireShared m) other = refl
for-same trace (ReleaseShared m) other = refl
for-same trace (Begin l) other = refl
for-same trace End other = refl
for-same trace (Fork u) other = refl
for-same trace (Join u) other = refl
for-same trace Exit other = refl

for-known : (bounds : Bounds) (trace : List Event) (k : Kind) → NamesKnown bounds k → NamesKnown bounds (kind_for trace (action_of k))
for-known bounds trace (Read x v) known = known
for-known bounds trace (Write x v) known = known
for-known bounds trace (Acquire m) known = known
for-known bounds trace (Release m) known = known
for-known bounds trace (AcquireShared m) known = known
for-known bounds trace (ReleaseShared m) known = known
for-known bounds trace (Begin l) known = tt
for-known bounds trace End known = tt
for-known bounds trace (Fork u) known = known
for-known bounds trace (Join u) known = known
for-known bounds trace Exit known = tt

-- a read of one variable gives the same value or not
cases_kind : (k l : Kind) → action_of k ≡ action_of l → IsTrue (is_read k) → (k ≡ l) ⊎ (k ≢ l)
cases_kind (Read x v) (Read y w) same read = ⊎_elim
    (λ values. inl (ap (λ a. kind_with v a) same ∙ ap (λ n. Read y n) values))
    (λ differ. inr (λ h. differ (ap value h)))
    (cases_eq v w)
  where
    kind_with : ℕ → Action → Kind
    kind_with v (Action.Read x) = Read x v
    kind_with v _ = Exit

    value : Kind → ℕ
    value (Read x v) = v
    value _ = 0
cases_kind (Read x v) (Write y w) same read = inr (λ h. false≢true (sym (ap is_read h)))
cases_kind (Read x v) (Acquire m) same read = inr (λ h. false≢true (sym (ap is_read h)))
cases_kind (Read x v) (Release m) same read = inr (λ h. false≢true (sym (ap is_read h)))
cases_kind (Read x v) (AcquireShared m) same read = inr (λ h. false≢true (sym (ap is_read h)))
cases_kind (Read x v) (ReleaseShared m) same read = inr (λ h. false≢true (sym (ap is_read h)))
cases_kind (Read x v) (Begin l) same read = inr (λ h. false≢true (sym (ap is_read h)))
cases_kind (Read x v) End same read = inr (λ h. false≢true (sym (ap is_read h)))
cases_kind (Read x v) (Fork u) same read = inr (λ h. false≢true (sym (ap is_read h)))
cases_kind (Read x v) (Join u) same read = inr (λ h. false≢true (sym (ap is_read h)))
cases_kind (Read x v) Exit same read = inr (λ h. false≢true (sym (ap is_read h)))
cases_kind _ l same read = absurd (false≢true read)

same_event : (e f : Event) → thread_of e ≡ thread_of f → e.kind ≡ f.kind → e ≡ f
same_event e f threads kinds = ap (λ n. with_parts n e.kind) threads ∙ ap (with_parts (thread_of f)) kinds
  where
    with_parts : ℕ → Kind → Event
    with_parts n k = record { thread = record { 0 = n }; kind = k }

-- ---- what an event does not change for other threads

IsUnsure-other : (log q : List Event) (e : Event) (u : ℕ) → thread_of e ≢ u → IsUnsure log (q ++ e ∷ []) u → IsUnsure log q u
IsUnsure-other log q e u other unsure = ⊎_elim
    (λ turned. inl (subst (λ es. ¬ ((rest : List Event) × (own u log ≡ es ++ rest))) (own-push_no u q e (ne_eqb (thread_of e) u other)) turned))
    (λ behind. ⊎_elim (λ before. inr before) (λ now. absurd (other now.0)) (HasReadBehind-push log q e u behind))
    unsure

own-others : (r more : List Event) (t u : ℕ) → t ≢ u → ((k : ℕ) (g : Event) → slice_get more k ≡ Some g → thread_of g ≡ t) → own u (r ++ more) ≡ own u r
own-others r [] t u other alone = ap (own u) (append-nil r)
own-others r (g ∷ more) t u other alone =
    ap (own u) (sym (append_assoc r (g ∷ []) more)) ∙ (own-others (r ++ g ∷ []) more t u other (λ k h at. alone (suc k) h at) ∙ own-push_no u r g (ne_eqb (thread_of g) u (λ same. other (sym (alone 0 g refl) ∙ same))))

not_held-push : (r : List Event) (g : Event) (u m : ℕ) → thread_of g ≢ u → IsFalse (holds r u m) → IsFalse (holds (r ++ g ∷ []) u m)
not_held-push r g u m other free = false_from_ne_true _ (λ has. ⊎_elim
    (λ alone. by_lock (is_on_lock m g) (is_acquire g.kind) refl (sym (holder_in-push r g m) ∙ are_same-some (holder_in (r ++ g ∷ []) m) u alone))
    (λ shared. both_ways (holds r u m) free (or_right _ _ (sym (shares_in-kept r g m u (and_left (is_by u g) _ (ne_eqb (thread_of g) u other))) ∙ shared)))
    (or_cases (are_same (holder_in (r ++ g ∷ []) m) (Some u)) (shares_in (r ++ g ∷ []) m u) has))
  where
    by_lock : (on acquires : Bool) → is_on_lock m g ≡ on → (if on then (if acquires then Some (thread_of g) else None) else holder_in r m) ≡ Some u → ⊥
    by_lock true true on same = other (same_Some (thread_of g) u same)
    by_lock true false on same = none-some u same
    by_lock false acquires off same = both_ways (holds r u m) free (or_left _ _ (are_same-from (holder_in r m) (Some u) u same refl))

not_held-others : (r more : List Event) (t u m : ℕ) → t ≢ u → ((k : ℕ) (g : Event) → slice_get more k ≡ Some g → thread_of g ≡ t) → IsFalse (holds r u m) → IsFalse (holds (r ++ more) u m)
not_held-others r [] t u m other alone free = subst (λ es. IsFalse (holds es u m)) (sym (append-nil r)) free
not_held-others r (g ∷ more) t u m other alone free =
    subst (λ es. IsFalse (holds es u m)) (append_assoc r (g ∷ []) more)
    (not_held-others (r ++ g ∷ []) more t u m other (λ k h at. alone (suc k) h at) (not_held-push r g u m (λ same. other (sym (alone 0 g refl) ∙ same)) free))

happened-none : (test : Event → Bool) (r more : List Event) → ((k : ℕ) (g : Event) → slice_get more k ≡ Some g → IsFalse (test g)) → happened test (r ++ more) ≡ happened test r
happened-none test r [] none = ap (happened test) (append-nil r)
happened-none test r (g ∷ more) none =
    ap (happened test) (sym (append_assoc r (g ∷ []) more)) ∙ (happened-none test (r ++ g ∷ []) more (λ k h at. none (suc k) h at) ∙ happened-no test r g (none 0 g refl))

-- ---- the last event of a thread

record Last (q : List Event) (t : ℕ) : Type 0 where
  at : ℕ
  event : Event
  here : slice_get q at ≡ Some event
  by : thread_of event ≡ t
  none_later : (k : ℕ) → at < k → IsFalse (passes_at q (is_by t) k)

passes-push_no : (q : List Event) (e : Event) (t k : ℕ) → thread_of e ≢ t → IsFalse (passes_at q (is_by t) k) → IsFalse (passes_at (q ++ e ∷ []) (is_by t) k)
passes-push_no q e t k other none = false_from_ne_true _ (λ some.
    let f = passes_at-event (q ++ e ∷ []) (is_by t) k some in
    ⊎_elim (λ before. both_ways (passes_at q (is_by t) k) none (passes_at-is q (is_by t) k f.0 before.1 ∙ f.2)) (λ last. other (ap thread_of last.1 ∙ eqb-true (thread_of f.0) t f.2)) (last_or_before q e k f.0 f.1))

last_event : (t : ℕ) (q : List Event) → (own t q ≡ []) ⊎ Last q t
last_event t q = append-induct (λ es. (own t es ≡ []) ⊎ Last es t) next [] q (inl refl)
  where
    next : (es : List Event) (e : Event) → (own t es ≡ []) ⊎ Last es t → (own t (es ++ e ∷ []) ≡ []) ⊎ Last (es ++ e ∷ []) t
    next es e before = ⊎_elim
        (λ its. inr (record {
          at = length es;
          event = e;
          here = slice_get-push es e;
          by = its;
          none_later = λ k later. false_from_ne_true _ (λ some.
              let f = passes_at-event (es ++ e ∷ []) (is_by t) k some in
              absurd (omega (arith, later, slice_get_within (es ++ e ∷ []) k f.0 f.1, length-append es (e ∷ []))));
        }))
        (λ other. ⊎_elim
        (λ none. inl (own-push_no t es e (ne_eqb (thread_of e) t other) ∙ none))
        (λ w. inr (record {
          at = w.at;
          event = w.event;
          here = slice_get-append es (e ∷ []) w.at (slice_get_within es w.at w.event w.here) ∙ w.here;
          by = w.by;
          none_later = λ k later. passes-push_no es e t k other (w.none_later k later);
        }))
        before)
        (cases_eq (thread_of e) t)

own-some : (q : List Event) (t i : ℕ) (e : Event) → slice_get q i ≡ Some e → thread_of e ≡ t → own t q ≢ []
own-some [] t i e at its none = none-some e at
own-some (d ∷ q) t zero e at its none = none-some d (sym (ap (λ es. slice_get es 0) (sym (ap (λ b. cond b (d ∷ own t q) (own t q)) (eq-eqb (thread_of d) t (ap thread_of (same_Some d e at) ∙ its))) ∙ none)))
own-some (d ∷ q) t (suc i) e at its none = ⊎_elim
    (λ yes_d. none-some d (sym (ap (λ es. slice_get es 0) (sym (ap (λ b. cond b (d ∷ own t q) (own t q)) yes_d) ∙ none))))
    (λ not_d. own-some q t i e at its (sym (ap (λ b. cond b (d ∷ own t q) (own t q)) not_d) ∙ none))
    (cases_Bool (is_by t d))

-- whose next action is unknown has done something
unsure-last : (log q : List Event) (t : ℕ) → IsUnsure log q t → Last q t
unsure-last log q t unsure = ⊎_elim
    (λ none. absurd (⊎_elim (λ turned. turned (own t log, ap (λ es. es ++ own t log) (sym none))) (λ behind. own-some q t behind.read behind.event behind.here behind.by none) unsure))
    (λ w. w)
    (last_event t q)

-- ---- what a thread that gives its locks back leaves in the run

-- an event of the thread on what the operation bears on, which happens after the place
record LeavesBehind (r : List Event) (place t : ℕ) (k : Kind) : Type 0 where
  at : ℕ
  event : Event
  here : slice_get r at ≡ Some event
  by : thread_of event ≡ t
  access : access_of event.kind ≡ access_of k
  left : IsFrom r place at

LeavesBehind-append : (r more : List Event) (place t : ℕ) (k : Kind) → LeavesBehind r place t k → LeavesBehind (r ++ more) place t k
LeavesBehind-append r more place t k w = record {
  at = w.at;
  event = w.event;
  here = slice_get-append r more w.at (slice_get_within r w.at w.event w.here) ∙ w.here;
  by = w.by;
  access = w.access;
  left = IsFrom-append r more place w.at w.left;
}

-- what is no longer had was operated on
lock_changed : (r more : List Event) (t m : ℕ) → holder_in r m ≡ Some t → ¬ (holder_in (r ++ more) m ≡ Some t) → (k : ℕ) × (g : Event) × (slice_get more k ≡ Some g) × IsTrue (is_on_lock m g)
lock_changed r [] t m had lost = absurd (lost (ap (λ es. holder_in es m) (append-nil r) ∙ had))
lock_changed r (g ∷ more) t m had lost = ⊎_elim
    (λ on. (0, g, refl, on))
    (λ off.
    let w = lock_changed (r ++ g ∷ []) more t m (holder_in-push r g m ∙ (ap (λ b. cond b (cond (is_acquire g.kind) (Some (thread_of g)) None) (holder_in r m)) off ∙ had)) (λ h. lost (ap (λ es. holder_in es m) (sym (append_assoc r (g ∷ []) more)) ∙ h)) in
    (suc w.0, w.1, w.2, w.3))
    (cases_Bool (is_on_lock m g))

share_changed : (r more : List Event) (t m : ℕ) → IsTrue (shares_in r m t) → IsFalse (shares_in (r ++ more) m t) → (k : ℕ) × (g : Event) × (slice_get more k ≡ Some g) × IsTrue (is_on_share m t g)
share_changed r [] t m had lost = absurd (both_ways (shares_in r m t) (ap (λ es. shares_in es m t) (sym (append-nil r)) ∙ lost) had)
share_changed r (g ∷ more) t m had lost = ⊎_elim
    (λ on. (0, g, refl, on))
    (λ off.
    let w = share_changed (r ++ g ∷ []) more t m (shares_in-kept r g m t off ∙ had) (ap (λ es. shares_in es m t) (append_assoc r (g ∷ []) more) ∙ lost) in
    (suc w.0, w.1, w.2, w.3))
    (cases_Bool (is_on_share m t g))

slice_get-append_right : (xs ys : List Event) (i : ℕ) → slice_get (xs ++ ys) (length xs + i) ≡ slice_get ys i
slice_get-append_right [] ys i = ap (slice_get ys) (let none : length {A = Event} [] + i ≡ i = omega arith in none)
slice_get-append_right (x ∷ xs) ys i = ap (slice_get (x ∷ xs ++ ys)) (let next : length (x ∷ xs) + i ≡ suc (length xs + i) = omega arith in next) ∙ slice_get-append_right xs ys i

left_behind : (r more : List Event) (place t : ℕ) (k : Kind) (d : Event) → slice_get r place ≡ Some d → thread_of d ≡ t → ((i : ℕ) (g : Event) → slice_get more i ≡ Some g → thread_of g ≡ t) → ((m : ℕ) → IsFalse (holds (r ++ more) t m)) → IsTrue (gives_up k) → IsInTurn r t k → LeavesBehind (r ++ more) place t k
left_behind r more place t k d here_d by_d alone free release turn = by_kind k release turn
  where
    made : (k : Kind) (i : ℕ) (g : Event) → slice_get more i ≡ Some g → access_of g.kind ≡ access_of k → LeavesBehind (r ++ more) place t k
    made k i g at access =
        let within = slice_get_within r place d here_d in
        let here : slice_get (r ++ more) (length r + i) ≡ Some g = slice_get-append_right r more i ∙ at in
        let own_at : IsTrue (passes_at (r ++ more) (is_by t) (length r + i)) = passes_at-is (r ++ more) (is_by t) (length r + i) g here ∙ eq-eqb (thread_of g) t (alone i g at) in
        let own_place : IsTrue (passes_at (r ++ more) (is_by t) place) = passes_at-is (r ++ more) (is_by t) place d (slice_get-append r more place within ∙ here_d) ∙ eq-eqb (thread_of d) t by_d in
        record {
          at = length r + i;
          event = g;
          here = here;
          by = alone i g at;
          access = access;
          left = inr ([], ConflictsInOrder-same_thread (r ++ more) t place (length r + i) (omega (arith, within)) own_place own_at);
        }

    by_kind : (k : Kind) → IsTrue (gives_up k) → IsInTurn r t k → LeavesBehind (r ++ more) place t k
    by_kind (Release m) release turn =
        let w = lock_changed r more t m.0 turn (λ h. both_ways (holds (r ++ more) t m.0) (free m.0) (or_left _ _ (are_same-from (holder_in (r ++ more) m.0) (Some t) t h refl))) in
        made (Release m) w.0 w.1 w.2 (lock-access w.1.kind m.0 w.3)
    by_kind (ReleaseShared m) release turn =
        let w = share_changed r more t m.0 turn (false_from_ne_true _ (λ h. both_ways (holds (r ++ more) t m.0) (free m.0) (or_right _ _ h))) in
        made (ReleaseShared m) w.0 w.1 w.2 (share-access w.1.kind m.0 (and_parts (is_by t w.1) (are_same (shared_lock_of w.1.kind) (Some m.0)) w.3).1)
    by_kind _ release turn = absurd (false≢true release)

-- ---- small facts of kinds

first_or_rest : (d e : Event) (es : List Event) (t i : ℕ) → IsTrue (is_by t d) → ((j : ℕ) → slice_get es j ≡ Some e → thread_of e ≡ t) → slice_get (d ∷ es) i ≡ Some e → thread_of e ≡ t
first_or_rest d e es t zero its rest here = sym (ap thread_of (same_Some d e here)) ∙ eqb-true (thread_of d) t its
first_or_rest d e es t (suc i) its rest here = rest i here

own-all : (log : List Event) (t i : ℕ) (e : Event) → slice_get (own t log) i ≡ Some e → thread_of e ≡ t
own-all [] t i e at = absurd (none-some e at)
own-all (d ∷ log) t i e at = ⊎_elim
    (λ its. first_or_rest d e (own t log) t i its (λ j here. own-all log t j e here) (sym (ap (λ b. slice_get (cond b (d ∷ own t log) (own t log)) i) its) ∙ at))
    (λ other. own-all log t i e (sym (ap (λ b. slice_get (cond b (d ∷ own t log) (own t log)) i) other) ∙ at))
    (cases_Bool (is_by t d))

own-by : (log : List Event) (t : ℕ) (before : List Event) (next : Event) (rest : List Event) → own t log ≡ before ++ next ∷ rest → thread_of next ≡ t
own-by log t before next rest along =
    let there : slice_get (own t log) (length before) ≡ Some next = ap (λ es. slice_get es (length before)) along ∙ at_seam before next rest in
    own-all log t (length before) next there
  where
    at_seam : (xs : List Event) (y : Event) (ys : List Event) → slice_get (xs ++ y ∷ ys) (length xs) ≡ Some y
    at_seam [] y ys = refl
    at_seam (x ∷ xs) y ys = at_seam xs y ys

read_by_action : (k l : Kind) → action_of k ≡ action_of l → IsTrue (is_read k) → IsTrue (is_read l)
read_by_action k l same read = reads_by_action l ∙ (ap action_reads (sym same) ∙ (sym (reads_by_action k) ∙ read))

one_alone : (f : Event) (k : ℕ) (g : Event) → slice_get (f ∷ []) k ≡ Some g → thread_of g ≡ thread_of f
one_alone f zero g at = sym (ap thread_of (same_Some f g at))
one_alone f (suc k) g at = absurd (none-some g at)

forks_none : (a : Access) (u : ℕ) → forked_or_joined_of a ≡ None → IsFalse (are_same (forked_of a) (Some u))
forks_none (Access.Fork v) u none = absurd (none-some v.0 (sym none))
forks_none _ u none = refl

joins_none : (a : Access) (u : ℕ) → forked_or_joined_of a ≡ None → IsFalse (are_same (joined_of a) (Some u))
joins_none (Access.Join v) u none = absurd (none-some v.0 (sym none))
joins_none _ u none = refl

release_forks : (k : Kind) (u : ℕ) → IsTrue (gives_up k) → IsFalse (are_same (forked_of (access_of k)) (Some u))
release_forks (Release m) u h = refl
release_forks (ReleaseShared m) u h = refl
release_forks _ u h = absurd (false≢true h)

release_joins : (k : Kind) (u : ℕ) → IsTrue (gives_up k) → IsFalse (are_same (joined_of (access_of k)) (Some u))
release_joins (Release m) u h = refl
release_joins (ReleaseShared m) u h = refl
release_joins _ u h = absurd (false≢true h)

release_begins : (k : Kind) → IsTrue (gives_up k) → IsFalse (is_begin k)
release_begins (Release m) h = refl
release_begins (ReleaseShared m) h = refl
release_begins _ h = absurd (false≢true h)

begin-no_read : (k : Kind) → IsTrue (is_begin k) → IsFalse (is_read k)
begin-no_read (Begin l) h = refl
begin-no_read _ h = absurd (false≢true h)

release_exits : (k : Kind) → IsTrue (gives_up k) → IsFalse (is_exit k)
release_exits (Release m) h = refl
release_exits (ReleaseShared m) h = refl
release_exits _ h = absurd (false≢true h)

-- ---- how a thread stands in the trace and in the run

data Mode (log q r : List Event) (place : ℕ → ℕ) (t : ℕ) : Type 0 where
  -- its next action is known
  GoesOn : ¬ IsUnsure log q t → own t q ≡ own t r → Mode log q r place t
  -- its next action is unknown, since what it read last
  Stops : IsUnsure log q t → (before : List Event) (d f : Event) → own t q ≡ before ++ d ∷ [] → own t r ≡ before ++ f ∷ [] → IsTrue (is_read d.kind) → IsTrue (is_read f.kind) → Mode log q r place t
  -- and in the run it has given its locks back
  IsGone : IsUnsure log q t → IsFalse (happened (is_exit_by t) q) → ((m : ℕ) → IsFalse (holds r t m)) → ((i : ℕ) (d : Event) → slice_get q i ≡ Some d → thread_of d ≡ t → (k : Kind) → IsTrue (gives_up k) → IsInTurn q t k → LeavesBehind r (place i) t k) → Mode log q r place t

-- the run and the trace so far
record IsShadow (bounds : Bounds) (wants : ℕ → List Event → Option Action) (log q r : List Event) : Type 0 where
  run : IsRun bounds wants r
  forks : (u : ℕ) → happened (is_fork_of u) q ≡ happened (is_fork_of u) r
  joins : (u : ℕ) → happened (is_join_of u) q ≡ happened (is_join_of u) r
  loose : ((q ≡ r) × ((i : ℕ) → ¬ IsLoose log q i)) ⊎ ((i : ℕ) × IsLoose log q i)
  stands : Stands q r (λ t. ¬ IsUnsure log q t)
  mode : (t : ℕ) → Mode log q r stands.place t

module _ (bounds : Bounds) (wants : ℕ → List Event → Option Action) (log : List Event) where
  -- ---- what follows in the trace may follow in the run

  module _ (q r : List Event) (well : IsWellFormed bounds q) (s : IsShadow bounds wants log q r) where
    holder_from : (m u : ℕ) → holder_in r m ≡ Some u → holder_in q m ≡ Some u
    holder_from m u h = by_mode (s.mode u)
      where
        by_mode : Mode log q r s.stands.place u → holder_in q m ≡ Some u
        by_mode (GoesOn sure same) = holder-back bounds q r well s.run.well u (Same same) m h
        by_mode (Stops unsure before d f own_q own_r read_d read_f) = holder-back bounds q r well s.run.well u (LastRead before d f own_q own_r read_d read_f) m h
        by_mode (IsGone unsure stays free left) = absurd (both_ways (holds r u m) (free m) (or_left _ _ (are_same-from (holder_in r m) (Some u) u h refl)))

    shares_from : (m u : ℕ) → IsTrue (shares_in r m u) → IsTrue (shares_in q m u)
    shares_from m u h = by_mode (s.mode u)
      where
        by_mode : Mode log q r s.stands.place u → IsTrue (shares_in q m u)
        by_mode (GoesOn sure same) = shares-same bounds q r well s.run.well u (Same same) m ∙ h
        by_mode (Stops unsure before d f own_q own_r read_d read_f) = shares-same bounds q r well s.run.well u (LastRead before d f own_q own_r read_d read_f) m ∙ h
        by_mode (IsGone unsure stays free left) = absurd (both_ways (holds r u m) (free m) (or_right _ _ h))

    exit_forth : (u : ℕ) → IsTrue (happened (is_exit_by u) q) → IsTrue (happened (is_exit_by u) r)
    exit_forth u h = by_mode (s.mode u)
      where
        by_mode : Mode log q r s.stands.place u → IsTrue (happened (is_exit_by u) r)
        by_mode (GoesOn sure same) = sym (exit-same q r u (Same same)) ∙ h
        by_mode (Stops unsure before d f own_q own_r read_d read_f) = sym (exit-same q r u (LastRead before d f own_q own_r read_d read_f)) ∙ h
        by_mode (IsGone unsure stays free left) = absurd (both_ways _ stays h)

    nobody : (o : Option ℕ) → ((u : ℕ) → o ≡ Some u → ⊥) → o ≡ None
    nobody None none = refl
    nobody (Some u) none = absurd (none u refl)

    holder_none : (m : ℕ) → holder_in q m ≡ None → holder_in r m ≡ None
    holder_none m h = nobody (holder_in r m) (λ u has. none-some u (sym h ∙ holder_from m u has))

    shares_none : (m u : ℕ) → IsFalse (shares_in q m u) → IsFalse (shares_in r m u)
    shares_none m u h = false_from_ne_true _ (λ has. both_ways (shares_in q m u) h (shares_from m u has))

    in_turn_run : (t : ℕ) (k : Kind) → own t q ≡ own t r → IsInTurn q t k → IsInTurn r t (kind_for r (action_of k))
    in_turn_run t (Read x v) same turn = refl
    in_turn_run t (Write x v) same turn = tt
    in_turn_run t (Acquire m) same turn = (holder_none m.0 turn.0, λ u. shares_none m.0 u (turn.1 u))
    in_turn_run t (Release m) same turn = holder-forth bounds q r well s.run.well t (Same same) m.0 turn
    in_turn_run t (AcquireShared m) same turn = (holder_none m.0 turn.0, shares_none m.0 t turn.1)
    in_turn_run t (ReleaseShared m) same turn = sym (shares-same bounds q r well s.run.well t (Same same) m.0) ∙ turn
    in_turn_run t (Begin l) same turn =
        let begins : times (is_begin_by t) q ≡ times (is_begin_by t) r = times-same q r t (λ e. is_begin e.kind) same in
        let ends : times (is_end_by t) q ≡ times (is_end_by t) r = times-same q r t (λ e. is_end e.kind) same in
        subst (λ n. n < times (is_end_by t) r + MAX_OPEN_BLOCKS) begins (subst (λ n. times (is_begin_by t) q < n + MAX_OPEN_BLOCKS) ends turn)
    in_turn_run t End same turn =
        let begins : times (is_begin_by t) q ≡ times (is_begin_by t) r = times-same q r t (λ e. is_begin e.kind) same in
        let ends : times (is_end_by t) q ≡ times (is_end_by t) r = times-same q r t (λ e. is_end e.kind) same in
        subst (λ n. times (is_end_by t) r < n) begins (subst (λ n. n < times (is_begin_by t) q) ends turn)
    in_turn_run t (Fork u) same turn = (turn.0, sym (s.forks u.0) ∙ turn.1)
    in_turn_run t (Join u) same turn = (exit_forth u.0 turn.0, sym (s.joins u.0) ∙ turn.1)
    in_turn_run t Exit same turn = (
      sym (times-same q r t (λ e. is_begin e.kind) same) ∙ (turn.0 ∙ times-same q r t (λ e. is_end e.kind) same),
      sym (times-same q r t (λ e. is_acquire e.kind) same) ∙ (turn.1 ∙ times-same q r t (λ e. is_release e.kind) same),
      sym (times-same q r t (λ e. is_acquire_shared e.kind) same) ∙ (turn.2 ∙ times-same q r t (λ e. is_release_shared e.kind) same),
    )

    may_follow_run : (e : Event) → own (thread_of e) q ≡ own (thread_of e) r → MayFollow bounds q e → MayFollow bounds r (record { thread = e.thread; kind = kind_for r (action_of e.kind) })
    may_follow_run e same follows = record {
      known_thread = follows.known_thread;
      known_names = for-known bounds r e.kind follows.known_names;
      born = ap (λ b. (thread_of e == 0) || b) (sym (s.forks (thread_of e))) ∙ follows.born;
      not_exited = sym (exit-same q r (thread_of e) (Same same)) ∙ follows.not_exited;
      in_turn = in_turn_run (thread_of e) e.kind same follows.in_turn;
    }

    -- ---- the other threads

    mode_other : (e : Event) (more : List Event) (place : ℕ → ℕ) (u : ℕ) → thread_of e ≢ u → ((k : ℕ) (g : Event) → slice_get more k ≡ Some g → thread_of g ≡ thread_of e) → ((i : ℕ) → i < length q → place i ≡ s.stands.place i) → Mode log (q ++ e ∷ []) (r ++ more) place u
    mode_other e more place u other alone kept = by_mode (s.mode u)
      where
        own_q : own u (q ++ e ∷ []) ≡ own u q
        own_q = own-push_no u q e (ne_eqb (thread_of e) u other)

        own_r : own u (r ++ more) ≡ own u r
        own_r = own-others r more (thread_of e) u other alone

        by_mode : Mode log q r s.stands.place u → Mode log (q ++ e ∷ []) (r ++ more) place u
        by_mode (GoesOn sure same) = GoesOn (λ unsure. sure (IsUnsure-other log q e u other unsure)) (own_q ∙ (same ∙ sym own_r))
        by_mode (Stops unsure before d f its theirs read_d read_f) = Stops (IsUnsure-longer log q (e ∷ []) u unsure) before d f (own_q ∙ its) (own_r ∙ theirs) read_d read_f
        by_mode (IsGone unsure stays free left) = IsGone
            (IsUnsure-longer log q (e ∷ []) u unsure)
            (happened-no (is_exit_by u) q e (and_left (is_by u e) _ (ne_eqb (thread_of e) u other)) ∙ stays)
            (λ m. not_held-others r more (thread_of e) u m other alone (free m))
            (λ i d at its k release turn. ⊎_elim
            (λ before. subst (λ x. LeavesBehind (r ++ more) x u k) (sym (kept i before.0)) (LeavesBehind-append r more (s.stands.place i) u k (left i d before.1 its k release
            (⊎_elim (λ now. absurd (other now.0)) (λ had. had) (in_turn-before q e u k release turn)))))
            (λ last. absurd (other (ap thread_of last.1 ∙ its)))
            (last_or_before q e i d at))

    -- ---- one event more of a thread whose next action is known

    module _ (e next : Event) (follows : MayFollow bounds q e) (its : IsNextOf log q (thread_of e) next) (action : action_of e.kind ≡ action_of next.kind) (log_run : IsRun bounds wants log) (same : own (thread_of e) q ≡ own (thread_of e) r) where
      in_run : Event
      in_run = record { thread = e.thread; kind = kind_for r (action_of e.kind) }

      own_e : own (thread_of e) (q ++ e ∷ []) ≡ own (thread_of e) q ++ e ∷ []
      own_e = own-push_yes (thread_of e) q e (eq-eqb (thread_of e) (thread_of e) refl)

      sure : ¬ IsUnsure log q (thread_of e)
      sure unsure = ⊎_elim (λ turned. not_turned log q (thread_of e) (next ∷ its.rest) its.along turned) (λ behind. its.sure behind) unsure

      run_known : IsRun bounds wants (r ++ in_run ∷ [])
      unfolding in_run
      run_known = record {
        well = IsWellFormed-push bounds r in_run s.run.well (may_follow_run e same follows);
        each = λ u. ⊎_elim
            (λ by_u. subst (Does wants u) (sym (own-push_yes u r in_run (eq-eqb (thread_of e) u by_u)))
            (Does-push wants u (own u r) in_run (s.run.each u) by_u
            (subst (λ t. wants t (own t r) ≡ Some (action_of in_run.kind)) by_u (ap (wants (thread_of e)) (sym same) ∙ (wanted_next bounds wants log log_run q (thread_of e) next its ∙ ap Some (sym action ∙ sym (for-action r e.kind)))))))
            (λ other. subst (Does wants u) (sym (own-push_no u r in_run (ne_eqb (thread_of e) u other))) (s.run.each u))
            (cases_eq (thread_of e) u);
      }

      along_known : GoAlong q r e in_run
      unfolding in_run
      along_known = record {
        twin = record { by = refl; access = for-access r e.kind };
        begin = for-begin r e.kind;
        end = for-end r e.kind;
        same = λ begin. ap (λ k. let g : Event = record { thread = e.thread; kind = k } in g) (sym (for-same r e.kind (begin-no_read e.kind begin)));
        bounds = bounds;
        trace_before = well;
        trace_after = IsWellFormed-push bounds q e well follows;
        run_before = s.run.well;
        run_after = run_known.well;
        begins_before = times-same q r (thread_of e) (λ g. is_begin g.kind) same;
        ends_before = times-same q r (thread_of e) (λ g. is_end g.kind) same;
      }

      -- where the event is the same in both, and the log has it, the thread goes on
      goes_on : (place : ℕ → ℕ) → in_run ≡ e → e.kind ≡ next.kind → ((i : ℕ) → IsTrue (is_read e.kind) → ¬ IsLoose log q i) → Mode log (q ++ e ∷ []) (r ++ in_run ∷ []) place (thread_of e)
      unfolding in_run
      goes_on place is_e kinds no_loose = GoesOn
          (λ unsure. ⊎_elim
          (λ turned. not_turned log (q ++ e ∷ []) (thread_of e) its.rest along turned)
          (λ behind. ⊎_elim (λ before. its.sure before) (λ now. no_loose now.2.0 now.1 now.2.1) (HasReadBehind-push log q e (thread_of e) behind))
          unsure)
          (own_e ∙ (ap (λ es. es ++ e ∷ []) same ∙ (ap (λ g. own (thread_of e) r ++ g ∷ []) (sym is_e) ∙ sym (own-push_yes (thread_of e) r in_run (eq-eqb (thread_of e) (thread_of e) refl)))))
        where
          by_next : thread_of next ≡ thread_of e
          by_next = own-by log (thread_of e) (own (thread_of e) q) next its.rest its.along

          along : own (thread_of e) log ≡ own (thread_of e) (q ++ e ∷ []) ++ its.rest
          along = its.along ∙ (ap (λ g. own (thread_of e) q ++ g ∷ its.rest) (sym (same_event e next (sym by_next) kinds)) ∙ (sym (append_assoc (own (thread_of e) q) (e ∷ []) its.rest) ∙ ap (λ es. es ++ its.rest) (sym own_e)))

      stops : (place : ℕ → ℕ) → IsTrue (is_read e.kind) → IsUnsure log (q ++ e ∷ []) (thread_of e) → Mode log (q ++ e ∷ []) (r ++ in_run ∷ []) place (thread_of e)
      unfolding in_run
      stops place read unsure = Stops unsure (own (thread_of e) q) e in_run own_e (own-push_yes (thread_of e) r in_run (eq-eqb (thread_of e) (thread_of e) refl) ∙ ap (λ es. es ++ in_run ∷ []) (sym same)) read (for-read r e.kind read)

      run_same : q ≡ r → in_run ≡ e
      unfolding in_run
      run_same both = ap (λ k. let g : Event = record { thread = e.thread; kind = k } in g) (ap (λ es. kind_for es (action_of e.kind)) (sym both) ∙ sym (kind-by_action q (thread_of e) e.kind follows.in_turn))

      kind_same : IsFalse (is_read e.kind) → in_run ≡ e
      unfolding in_run
      kind_same other = ap (λ k. let g : Event = record { thread = e.thread; kind = k } in g) (for-same r e.kind other)

      mode_known : (place : ℕ → ℕ) → Mode log (q ++ e ∷ []) (r ++ in_run ∷ []) place (thread_of e)
      mode_known place = ⊎_elim
          (λ read. ⊎_elim
          (λ none. ⊎_elim
          (λ kinds. goes_on place (run_same none.0) kinds (λ i h. none.1 i))
          (λ differ. stops place read (inl (HasTurned-by log q e next its.rest its.along differ)))
          (cases_kind e.kind next.kind action read))
          (λ some. stops place read (inr (HasReadBehind-last log q e some.0 some.1 read)))
          s.loose)
          (λ other. goes_on place (kind_same other) (same_kind other) (λ i read. absurd (both_ways (is_read e.kind) other read)))
          (cases_Bool (is_read e.kind))
        where
          same_kind : IsFalse (is_read e.kind) → e.kind ≡ next.kind
          same_kind other = sym (for-same r e.kind other) ∙ (ap (kind_for r) action ∙ for-same r next.kind (false_from_ne_true _ (λ read. both_ways (is_read e.kind) other (read_by_action next.kind e.kind (sym action) read))))

      loose_known : (((q ++ e ∷ []) ≡ (r ++ in_run ∷ [])) × ((i : ℕ) → ¬ IsLoose log (q ++ e ∷ []) i)) ⊎ ((i : ℕ) × IsLoose log (q ++ e ∷ []) i)
      loose_known = ⊎_elim
          (λ none. inl (
            ap (λ es. es ++ e ∷ []) none.0 ∙ ap (λ g. r ++ g ∷ []) (sym (run_same none.0)),
            λ i l. ⊎_elim (λ before. none.1 i before) (λ now. not_turned log q (thread_of e) (next ∷ its.rest) its.along now.1) (IsLoose-push log q e i l),
          ))
          (λ some. inr (some.0, IsLoose-longer log q (e ∷ []) some.0 some.1))
          s.loose

      shadow_known : IsShadow bounds wants log (q ++ e ∷ []) (r ++ in_run ∷ [])
      unfolding in_run
      shadow_known =
          let grown = grown_one q r e in_run (λ t. ¬ IsUnsure log q t) (λ t. ¬ IsUnsure log (q ++ e ∷ []) t) s.stands sure (λ t later unsure. later (IsUnsure-longer log q (e ∷ []) t unsure)) along_known in
          record {
            run = run_known;
            forks = λ u. happened-push (is_fork_of u) q e ∙ (ap (λ b. b || is_fork_of u e) (s.forks u) ∙ (ap (λ a. happened (is_fork_of u) r || are_same (forked_of a) (Some u)) (sym (for-access r e.kind)) ∙ sym (happened-push (is_fork_of u) r in_run)));
            joins = λ u. happened-push (is_join_of u) q e ∙ (ap (λ b. b || is_join_of u e) (s.joins u) ∙ (ap (λ a. happened (is_join_of u) r || are_same (joined_of a) (Some u)) (sym (for-access r e.kind)) ∙ sym (happened-push (is_join_of u) r in_run)));
            loose = loose_known;
            stands = grown.0;
            mode = λ u. ⊎_elim
                (λ by_u. subst (Mode log (q ++ e ∷ []) (r ++ in_run ∷ []) grown.0.place) by_u (mode_known grown.0.place))
                (λ other. mode_other e (in_run ∷ []) grown.0.place u other (one_alone in_run) grown.1)
                (cases_eq (thread_of e) u);
          }

    -- ---- one release more of a thread whose next action is unknown

    module _ (e : Event) (follows : MayFollow bounds q e) (release : IsTrue (gives_up e.kind)) (unsure : IsUnsure log q (thread_of e)) (more : List Event)
        (alone : (k : ℕ) (g : Event) → slice_get more k ≡ Some g → (thread_of g ≡ thread_of e) × (thread_forked_or_joined g.kind ≡ None))
        (run_more : IsRun bounds wants (r ++ more)) (free : (m : ℕ) → IsFalse (holds (r ++ more) (thread_of e) m))
        (behind : (i : ℕ) (d : Event) → slice_get q i ≡ Some d → thread_of d ≡ thread_of e → (k : Kind) → IsTrue (gives_up k) → IsInTurn q (thread_of e) k → LeavesBehind (r ++ more) (s.stands.place i) (thread_of e) k) where
      last : Last q (thread_of e)
      last = unsure-last log q (thread_of e) unsure

      own_last : IsTrue (passes_at q (is_by (thread_of e)) last.at)
      own_last = passes_at-is q (is_by (thread_of e)) last.at last.event last.here ∙ eq-eqb (thread_of last.event) (thread_of e) last.by

      -- an event of the thread leads to its last one
      to_last : (a : ℕ) (g : Event) → slice_get q a ≡ Some g → thread_of g ≡ thread_of e → IsFrom r (s.stands.place a) (s.stands.place last.at)
      to_last a g here by =
          let own_a : IsTrue (passes_at q (is_by (thread_of e)) a) = passes_at-is q (is_by (thread_of e)) a g here ∙ eq-eqb (thread_of g) (thread_of e) by in
          ⊎_elim
          (λ less. s.stands.ordered a last.at (ConflictsInOrder-same_thread q (thread_of e) a last.at less own_a own_last))
          (λ le. ⊎_elim
          (λ more. absurd (both_ways _ (last.none_later a more) own_a))
          (λ most. inl (ap s.stands.place (let at : a ≡ last.at = omega (arith, le, most) in at)))
          (cases_lt last.at a))
          (cases_lt a last.at)

      reached : (i : ℕ) → IsTrue (conflict_at (q ++ e ∷ []) i (length q)) → i < length q → IsFrom r (s.stands.place i) (s.stands.place last.at)
      reached i c within =
          let d = event_at q i within in
          let clash : IsTrue (conflict d.0 e) = conflict-at (q ++ e ∷ []) i (length q) d.0 e (slice_get-append q (e ∷ []) i within ∙ d.1) (slice_get-push q e) c in
          ⊎_elim
          (λ same. to_last i d.0 d.1 same)
          (λ other.
          let w = conflicts_before bounds q e well follows release last.at last.event last.here last.by i d.0 d.1 other clash in
          Reaches-trans (ConflictsInOrder r) (s.stands.place i) (s.stands.place w.0) (s.stands.place last.at) (s.stands.ordered i w.0 w.4) (to_last w.0 w.1 w.2 w.3))
          (cases_eq (thread_of d.0) (thread_of e))

      gives : GivesUp q r e more (λ t. ¬ IsUnsure log q t) s.stands
      gives =
          let left = behind last.at last.event last.here last.by e.kind release follows.in_turn in
          record {
            no_begin = release_begins e.kind release;
            last = last.at;
            event = last.event;
            here = last.here;
            by = last.by;
            none_later = last.none_later;
            alone = λ k g at. (alone k g at).0;
            reached = reached;
            twin = left.at;
            twin_event = left.event;
            twin_here = left.here;
            is_twin = record { by = left.by; access = left.access };
            left = left.left;
          }

      loose_more : (i : ℕ) × IsLoose log (q ++ e ∷ []) i
      loose_more = ⊎_elim (λ turned. (length q, IsLoose-last log q e release turned)) (λ read. (read.release, IsLoose-longer log q (e ∷ []) read.release read.loose)) unsure

      no_fork : (u k : ℕ) (g : Event) → slice_get more k ≡ Some g → IsFalse (is_fork_of u g)
      no_fork u k g at = forks_none (access_of g.kind) u (alone k g at).1

      no_join : (u k : ℕ) (g : Event) → slice_get more k ≡ Some g → IsFalse (is_join_of u g)
      no_join u k g at = joins_none (access_of g.kind) u (alone k g at).1

      shadow_more : IsShadow bounds wants log (q ++ e ∷ []) (r ++ more)
      unfolding gives
      shadow_more =
          let grown = grown_more q r e more (λ t. ¬ IsUnsure log q t) (λ t. ¬ IsUnsure log (q ++ e ∷ []) t) s.stands (λ t later was. later (IsUnsure-longer log q (e ∷ []) t was)) (λ sure. sure (IsUnsure-longer log q (e ∷ []) (thread_of e) unsure)) gives in
          record {
            run = run_more;
            forks = λ u. happened-no (is_fork_of u) q e (release_forks e.kind u release) ∙ (s.forks u ∙ sym (happened-none (is_fork_of u) r more (no_fork u)));
            joins = λ u. happened-no (is_join_of u) q e (release_joins e.kind u release) ∙ (s.joins u ∙ sym (happened-none (is_join_of u) r more (no_join u)));
            loose = inr loose_more;
            stands = grown.0;
            mode = λ u. ⊎_elim
                (λ by_u. subst (Mode log (q ++ e ∷ []) (r ++ more) grown.0.place) by_u (IsGone
                (IsUnsure-longer log q (e ∷ []) (thread_of e) unsure)
                (happened-no (is_exit_by (thread_of e)) q e (and_right (is_by (thread_of e) e) _ (release_exits e.kind release)) ∙ follows.not_exited)
                free
                (λ i d at its k other turn.
                let had : IsInTurn q (thread_of e) k = ⊎_elim (λ now. absurd (both_ways (gives_up e.kind) now.2 release)) (λ had. had) (in_turn-before q e (thread_of e) k other turn) in
                ⊎_elim
                (λ before. subst (λ x. LeavesBehind (r ++ more) x (thread_of e) k) (sym (grown.1 i before.0)) (behind i d before.1 its k other had))
                (λ now. subst (λ x. LeavesBehind (r ++ more) x (thread_of e) k) (sym (grown.2 i now.0)) (behind last.at last.event last.here last.by k other had))
                (last_or_before q e i d at))))
                (λ other. mode_other e more grown.0.place u other (λ k g at. (alone k g at).0) grown.1)
                (cases_eq (thread_of e) u);
          }

    -- the thread gives its locks back now
    module _ (e : Event) (follows : MayFollow bounds q e) (release : IsTrue (gives_up e.kind)) (sections : SectionsEnd bounds wants) (unsure : IsUnsure log q (thread_of e)) (before : List Event) (d f : Event) (own_q : own (thread_of e) q ≡ before ++ d ∷ []) (own_r : own (thread_of e) r ≡ before ++ f ∷ []) (read_d : IsTrue (is_read d.kind)) (read_f : IsTrue (is_read f.kind)) where
      alike : AreAlike (own (thread_of e) q) (own (thread_of e) r)
      alike = LastRead before d f own_q own_r read_d read_f

      -- what it has in the trace it has in the run
      turn_forth : (k : Kind) → IsTrue (gives_up k) → IsInTurn q (thread_of e) k → IsInTurn r (thread_of e) k
      turn_forth (Release m) h turn = holder-forth bounds q r well s.run.well (thread_of e) alike m.0 turn
      turn_forth (ReleaseShared m) h turn = sym (shares-same bounds q r well s.run.well (thread_of e) alike m.0) ∙ turn
      turn_forth _ h turn = absurd (false≢true h)

      has_some : (k : Kind) → IsTrue (gives_up k) → IsInTurn r (thread_of e) k → (m : ℕ) × IsTrue (holds r (thread_of e) m)
      has_some (Release m) h turn = (m.0, or_left _ _ (are_same-from (holder_in r m.0) (Some (thread_of e)) (thread_of e) turn refl))
      has_some (ReleaseShared m) h turn = (m.0, or_right _ _ turn)
      has_some _ h turn = absurd (false≢true h)

      back : GivesBack bounds wants r (thread_of e)
      back =
          let has = has_some e.kind release (turn_forth e.kind release follows.in_turn) in
          sections.each r (thread_of e) has.0 before f s.run has.1 own_r read_f

      shadow_stops : IsShadow bounds wants log (q ++ e ∷ []) (r ++ back.more)
      shadow_stops = shadow_more e follows release unsure back.more back.alone back.goes_on back.nothing_held
          (λ i g at by k h turn.
          let f = s.stands.places i g at in
          left_behind r back.more (s.stands.place i) (thread_of e) k f.0 f.1 (f.2 ∙ by) (λ j x there. (back.alone j x there).0) back.nothing_held h (turn_forth k h turn))

    -- it has given them back
    shadow_gone : (e : Event) → MayFollow bounds q e → IsTrue (gives_up e.kind) → IsUnsure log q (thread_of e) → ((m : ℕ) → IsFalse (holds r (thread_of e) m)) →
        ((i : ℕ) (d : Event) → slice_get q i ≡ Some d → thread_of d ≡ thread_of e → (k : Kind) → IsTrue (gives_up k) → IsInTurn q (thread_of e) k → LeavesBehind r (s.stands.place i) (thread_of e) k) → IsShadow bounds wants log (q ++ e ∷ []) (r ++ [])
    shadow_gone e follows release unsure free left =
        shadow_more e follows release unsure [] (λ k g at. absurd (none-some g at)) (subst (IsRun bounds wants) (sym (append-nil r)) s.run) (λ m. subst (λ es. IsFalse (holds es (thread_of e) m)) (sym (append-nil r)) (free m))
        (λ i d at by k h turn. LeavesBehind-append r [] (s.stands.place i) (thread_of e) k (left i d at by k h turn))

  -- ---- every prediction has a shadow

  module _ (log_run : IsRun bounds wants log) (sections : SectionsEnd bounds wants) where
    -- one event more
    shadow_next : (q : List Event) (e : Event) → IsWellFormed bounds q → MayFollow bounds q e → IsForetold log q e → (r : List Event) → IsShadow bounds wants log q r → (r' : List Event) × IsShadow bounds wants log (q ++ e ∷ []) r'
    shadow_next q e well follows foretold r s = by_mode (s.mode (thread_of e)) foretold
      where
        known_sure : (next : Event) → IsNextOf log q (thread_of e) next → ¬ IsUnsure log q (thread_of e)
        known_sure next its unsure = ⊎_elim (λ turned. not_turned log q (thread_of e) (next ∷ its.rest) its.along turned) (λ behind. its.sure behind) unsure

        by_mode : Mode log q r s.stands.place (thread_of e) → IsForetold log q e → (r' : List Event) × IsShadow bounds wants log (q ++ e ∷ []) r'
        by_mode (GoesOn goes same) (Known next its action) = (r ++ in_run q r well s e next follows its action log_run same ∷ [], shadow_known q r well s e next follows its action log_run same)
        by_mode (GoesOn goes same) (Unknown unsure release) = absurd (goes unsure)
        by_mode (Stops unsure before d f own_q own_r read_d read_f) (Known next its action) = absurd (known_sure next its unsure)
        by_mode (Stops unsure before d f own_q own_r read_d read_f) (Unknown also release) = (r ++ (back q r well s e follows release sections unsure before d f own_q own_r read_d read_f).more, shadow_stops q r well s e follows release sections unsure before d f own_q own_r read_d read_f)
        by_mode (IsGone unsure stays free left) (Known next its action) = absurd (known_sure next its unsure)
        by_mode (IsGone unsure stays free left) (Unknown also release) = (r ++ [], shadow_gone q r well s e follows release unsure free left)

    start : IsShadow bounds wants log [] []
    start = record {
      run = record { well = IsWellFormed-nil bounds; each = λ t. record { by = λ i e at. absurd (none-some e at); each = λ i e at. absurd (none-some e at) } };
      forks = λ u. refl;
      joins = λ u. refl;
      loose = inl (refl, λ i l. none-some l.event l.here);
      stands = Stands-nil (λ t. ¬ IsUnsure log [] t);
      mode = λ t. GoesOn (λ unsure. ⊎_elim (λ turned. turned (own t log, refl)) (λ behind. none-some behind.event behind.here) unsure) refl;
    }

    shadow : (q : List Event) → IsWellFormed bounds q → ((i : ℕ) (e : Event) → slice_get q i ≡ Some e → IsForetold log (take i q) e) → (r : List Event) × IsShadow bounds wants log q r
    shadow = IsWellFormed-induct bounds (λ q. ((i : ℕ) (e : Event) → slice_get q i ≡ Some e → IsForetold log (take i q) e) → (r : List Event) × IsShadow bounds wants log q r) (λ foretold. ([], start)) next
      where
        next : (q : List Event) (e : Event) → IsWellFormed bounds q → (((i : ℕ) (e : Event) → slice_get q i ≡ Some e → IsForetold log (take i q) e) → (r : List Event) × IsShadow bounds wants log q r) → MayFollow bounds q e → ((i : ℕ) (f : Event) → slice_get (q ++ e ∷ []) i ≡ Some f → IsForetold log (take i (q ++ e ∷ [])) f) → (r : List Event) × IsShadow bounds wants log (q ++ e ∷ []) r
        next q e well before follows foretold =
            let shorter = before (λ i f at.
            let within = slice_get_within q i f at in
            subst (λ es. IsForetold log es f) (take-append-le i q (e ∷ []) (omega (arith, within))) (foretold i f (slice_get-append q (e ∷ []) i within ∙ at))) in
            let last = subst (λ es. IsForetold log es e) (take-append_seam q (e ∷ [])) (foretold (length q) e (slice_get-push q e)) in
            shadow_next q e well follows last shorter.0 shorter.1

    shadow_of : (trace : List Event) → IsPrediction bounds log trace → (r : List Event) × IsShadow bounds wants log trace r
    shadow_of trace prediction = shadow trace prediction.well_formed prediction.each

    -- ---- cycles

    pub can_cycle : (trace : List Event) → IsPrediction bounds log trace → HasCycle trace → CanCycle bounds wants
    can_cycle trace prediction cyclic =
        let w = shadow_of trace prediction in
        record { run = w.0; is_run = w.1.run; cyclic = stands-cycle trace w.0 (λ t. ¬ IsUnsure log trace t) w.1.stands cyclic }

    -- ---- blocks to blame

    pub can_break : (trace : List Event) (t b p : ℕ) (begin : Event) → IsPrediction bounds log trace → length trace ≡ p + 1 → IsTrue (passes_at trace (is_by t) p) → Contains (open_blocks trace t) b → ¬ IsSelfSerializable trace b → slice_get trace b ≡ Some begin → CanBreak bounds wants begin
    can_break trace t b p begin prediction long own open_b broken here =
        let w = shadow_of trace prediction in
        let opened = (Contains-open_blocks trace t b).0 open_b in
        let own_b = is_open_at-thread trace t b (length trace) opened in
        let by_t : thread_of begin ≡ t = eqb-true (thread_of begin) t (sym (passes_at-is trace (is_by t) b begin here) ∙ own_b) in
        let begun : IsTrue (is_begin begin.kind) = sym (passes_at-is trace (λ e. is_begin e.kind) b begin here) ∙ is_open_at-begins trace t b (length trace) opened in
        let last = passes_at-event trace (is_by t) p own in
        let i = (blame_law trace t b p long own opened).0 broken in
        let within = HappensBefore-within trace i.through p i.back in
        let m = event_at trace i.through within.0 in
        let le : b ≤ p = omega (arith, HappensBefore-lt trace b i.through i.out, HappensBefore-lt trace i.through p i.back) in
        let inside = is_in_block-open trace t b (length trace) p opened le (omega (arith, long)) own in
        record {
          run = w.0;
          is_run = w.1.run;
          block = w.1.stands.place b;
          begins = w.1.stands.begun b begin here begun;
          broken = stands-interrupted trace w.0 (λ t. ¬ IsUnsure log trace t) w.1.stands b i.through p begin m.0 last.0 here m.1 last.1
              (by_t ∙ sym (eqb-true (thread_of last.0) t last.2))
              (λ same. both_ways (passes_at trace (is_by t) i.through) i.of_another (passes_at-is trace (is_by t) i.through m.0 m.1 ∙ eq-eqb (thread_of m.0) t (same ∙ by_t)))
              inside i.out i.back;
        }

    -- ---- circles of waits

    module _ (q r : List Event) (well : IsWellFormed bounds q) (s : IsShadow bounds wants log q r) where
      -- a thread whose next action is known does the same in both
      is_sure : (t : ℕ) (action : Action) → IsNextAction log q t action → ¬ IsUnsure log q t
      is_sure t action next unsure = ⊎_elim (λ turned. not_turned log q t (next.event ∷ next.next.rest) next.next.along turned) (λ behind. next.next.sure behind) unsure

      same_own : (t : ℕ) → ¬ IsUnsure log q t → own t q ≡ own t r
      same_own t sure = by_mode (s.mode t)
        where
          by_mode : Mode log q r s.stands.place t → own t q ≡ own t r
          by_mode (GoesOn known same) = same
          by_mode (Stops unsure before d f own_q own_r read_d read_f) = absurd (sure unsure)
          by_mode (IsGone unsure stays free left) = absurd (sure unsure)

      same_status : (t : ℕ) → ¬ IsUnsure log q t → status_in q t ≡ status_in r t
      same_status t sure =
          ap (λ b. status_by b (happened (is_exit_by t) q) (was_born q t)) (s.joins t)
          ∙ (ap (λ b. status_by (happened (is_join_of t) r) b (was_born q t)) (exit-same q r t (Same (same_own t sure)))
          ∙ ap (λ b. status_by (happened (is_join_of t) r) (happened (is_exit_by t) r) ((t == 0) || b)) (s.forks t))

      same_holds : (t m : ℕ) → ¬ IsUnsure log q t → IsTrue (holds q t m) → IsTrue (holds r t m)
      same_holds t m sure has = ⊎_elim
          (λ alone. or_left _ _ (are_same-from (holder_in r m) (Some t) t (holder-forth bounds q r well s.run.well t (Same (same_own t sure)) m (are_same-some (holder_in q m) t alone)) refl))
          (λ shared. or_right _ _ (sym (shares-same bounds q r well s.run.well t (Same (same_own t sure)) m) ∙ shared))
          (or_cases (are_same (holder_in q m) (Some t)) (shares_in q m t) has)

      wants_same : (t : ℕ) (action : Action) → IsNextAction log q t action → wants t (own t r) ≡ Some action
      wants_same t action next = ap (wants t) (sym (same_own t (is_sure t action next))) ∙ (wanted_next bounds wants log log_run q t next.event next.next ∙ ap Some next.is_action)

      waits_same : (t u : ℕ) → WaitsFor (IsNextAction log q) q t u → ¬ IsUnsure log q u → WaitsFor (λ t action. wants t (own t r) ≡ Some action) r t u
      waits_same t u (ForLock m next lives other has) sure = ForLock m (wants_same t (Action.Acquire m) next) (sym (same_status t (is_sure t (Action.Acquire m) next)) ∙ lives) other (same_holds u m.0 sure has)
      waits_same t u (ForShare m next lives other has) sure = ForShare m (wants_same t (Action.AcquireShared m) next) (sym (same_status t (is_sure t (Action.AcquireShared m) next)) ∙ lives) other (holder-forth bounds q r well s.run.well u (Same (same_own u sure)) m.0 has)
      waits_same t u (ForEnd v next lives same other) sure = ForEnd v (wants_same t (Action.Join v) next) (sym (same_status t (is_sure t (Action.Join v) next)) ∙ lives) same (sym (same_status u sure) ∙ other)

      waits_sure : (t u : ℕ) → WaitsFor (IsNextAction log q) q t u → ¬ IsUnsure log q t
      waits_sure t u (ForLock m next lives other has) = is_sure t (Action.Acquire m) next
      waits_sure t u (ForShare m next lives other has) = is_sure t (Action.AcquireShared m) next
      waits_sure t u (ForEnd v next lives same other) = is_sure t (Action.Join v) next

      path_sure : (a : ℕ) (between : List ℕ) (b : ℕ) → Path (WaitsFor (IsNextAction log q) q) a between b → ¬ IsUnsure log q a
      path_sure a [] b p = waits_sure a b p
      path_sure a (c ∷ cs) b p = waits_sure a c p.0

      path_same : (a : ℕ) (between : List ℕ) (b : ℕ) → Path (WaitsFor (IsNextAction log q) q) a between b → ¬ IsUnsure log q b → Path (WaitsFor (λ t action. wants t (own t r) ≡ Some action) r) a between b
      path_same a [] b p sure = waits_same a b p sure
      path_same a (c ∷ cs) b p sure = (waits_same a c p.0 (path_sure c cs b p.1), path_same c cs b p.1 sure)

      circle_same : (circle : List ℕ) → IsCycle (WaitsFor (IsNextAction log q) q) circle → IsCycle (WaitsFor (λ t action. wants t (own t r) ≡ Some action) r) circle
      circle_same [] c = c
      circle_same (a ∷ []) c = c
      circle_same (a ∷ b ∷ rest) c = path_same a (b ∷ rest) a c (path_sure a (b ∷ rest) a c)

    pub can_deadlock : (trace : List Event) → PredictsDeadlock bounds log trace → CanDeadlock bounds wants
    can_deadlock trace predicts =
        let w = shadow_of trace predicts.prediction in
        record {
          run = w.0;
          is_run = w.1.run;
          deadlock = record { threads = predicts.deadlock.threads; circle = circle_same trace w.0 predicts.prediction.well_formed w.1 predicts.deadlock.threads predicts.deadlock.circle };
        }

pub cycles_are_feasible : CyclesAreFeasible
cycles_are_feasible bounds wants log trace run sections predicts = can_cycle bounds wants log run sections trace predicts.prediction predicts.cyclic

pub blame_is_feasible : BlameIsFeasible
blame_is_feasible bounds wants log earlier last blamed b begin run sections prediction are contains here =
    can_break bounds wants log run sections (earlier ++ last ∷ []) (thread_of last) b (length earlier) begin prediction (length_push earlier last)
    (passes_at-is (earlier ++ last ∷ []) (is_by (thread_of last)) (length earlier) last (slice_get-push earlier last) ∙ eq-eqb (thread_of last) (thread_of last) refl)
    ((are.which b).0 contains).0 ((are.which b).0 contains).1 here

pub deadlocks_are_feasible : DeadlocksAreFeasible
deadlocks_are_feasible bounds wants log trace run sections predicts = can_deadlock bounds wants log run sections trace predicts
