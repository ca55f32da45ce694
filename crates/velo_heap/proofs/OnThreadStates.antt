-- How a thread stands after one more event.
use Rattle.std.proofs.Common.{◌≡◌, ℕ, zero, suc, ◌+◌, ◌-◌, ◌≤◌, Bool, true, false, cond, List, [], ◌∷◌, ◌++◌, None, refl, sym, ap, ◌∙◌, arith}
use Rattle.std.specs.Prelude.{◌==◌, ◌||◌, if◌then◌else◌, IsTrue, IsFalse}
use Rattle.std.proofs.lemmas.Bool.{eq-eqb, ne_eqb, and_left, and_right, and_from, or_right, or_from, false_from_ne_true, false≢true}
use Rattle.velo_events.specs.declared.config.Bounds.{Bounds}
use Rattle.velo_events.specs.declared.event.ThreadId.{ThreadId}
use Rattle.velo_events.specs.declared.event.Event.{Event}
use Rattle.velo_events.specs.declared.event.Kind.{Kind}
use Rattle.velo_events.specs.declared.event.Kind.TheVariants.{Read, Write, Acquire, Release, AcquireShared, ReleaseShared, Begin, End, Fork, Join, Exit}
use Rattle.velo_events.specs.declared.event.Status.{Status}
use Rattle.velo_events.specs.declared.event.Status.TheVariants.{Unborn, Live, Exited, Joined}
use Rattle.velo_events.specs.Event.{is_begin_by, is_end_by, is_acquire_by, is_release_by, is_acquire_shared_by, is_release_shared_by, is_exit_by, is_fork_of, is_join_of, thread_forked_or_joined}
use Rattle.velo_events.specs.Heap.{latest, happened, times, was_born, status_in, depth_in}
use Rattle.velo_events.specs.WellFormed.{MayFollow}
use Rattle.velo_events.proofs.OnTraces.{happened-yes, happened-no, times-yes, times-no}
use Rattle.velo_events.proofs.OnStatuses.{status_by}
use Rattle.velo_events.proofs.OnWellFormed.{Facts, count_below, held_by, shares_of, held-next, shared-next}
use Rattle.velo_heap.specs.declared.thread_state.ThreadState.{ThreadState}
use Rattle.velo_heap.specs.Contents.{locks_in, thread_state_in}
use Rattle.velo_heap.specs.Steps.{CountsFit, thread_state_after}

-- ---- one field at a time

module _ (trace : List Event) (e : Event) (i : ℕ) where
  status-same : IsFalse (is_join_of i e) → IsFalse (is_exit_by i e) → IsFalse (is_fork_of i e) → status_in (trace ++ e ∷ []) i ≡ status_in trace i
  status-same no_join no_exit no_fork =
      ap (λ b. status_by b (happened (is_exit_by i) (trace ++ e ∷ [])) (was_born (trace ++ e ∷ []) i)) (happened-no (is_join_of i) trace e no_join)
      ∙ (ap (λ b. status_by (happened (is_join_of i) trace) b (was_born (trace ++ e ∷ []) i)) (happened-no (is_exit_by i) trace e no_exit)
      ∙ ap (λ b. status_by (happened (is_join_of i) trace) (happened (is_exit_by i) trace) ((i == 0) || b)) (happened-no (is_fork_of i) trace e no_fork))

  status-joined : IsTrue (is_join_of i e) → status_in (trace ++ e ∷ []) i ≡ Joined
  status-joined join = ap (λ b. status_by b (happened (is_exit_by i) (trace ++ e ∷ [])) (was_born (trace ++ e ∷ []) i)) (happened-yes (is_join_of i) trace e join)

  status-exited : IsFalse (happened (is_join_of i) trace) → IsFalse (is_join_of i e) → IsTrue (is_exit_by i e) → status_in (trace ++ e ∷ []) i ≡ Exited
  status-exited unjoined no_join exit =
      ap (λ b. status_by b (happened (is_exit_by i) (trace ++ e ∷ [])) (was_born (trace ++ e ∷ []) i)) (happened-no (is_join_of i) trace e no_join ∙ unjoined)
      ∙ ap (λ b. status_by false b (was_born (trace ++ e ∷ []) i)) (happened-yes (is_exit_by i) trace e exit)

  status-forked : IsFalse (happened (is_join_of i) trace) → IsFalse (happened (is_exit_by i) trace) → IsFalse (is_join_of i e) → IsFalse (is_exit_by i e) → IsTrue (is_fork_of i e) → status_in (trace ++ e ∷ []) i ≡ Live
  status-forked unjoined unexited no_join no_exit fork =
      ap (λ b. status_by b (happened (is_exit_by i) (trace ++ e ∷ [])) (was_born (trace ++ e ∷ []) i)) (happened-no (is_join_of i) trace e no_join ∙ unjoined)
      ∙ (ap (λ b. status_by false b (was_born (trace ++ e ∷ []) i)) (happened-no (is_exit_by i) trace e no_exit ∙ unexited)
      ∙ ap (λ b. status_by false false b) (or_right (i == 0) _ (happened-yes (is_fork_of i) trace e fork)))

  depth-same : IsFalse (is_begin_by i e) → IsFalse (is_end_by i e) → depth_in (trace ++ e ∷ []) i ≡ depth_in trace i
  depth-same no_begin no_end = omega (arith, times-no (is_begin_by i) trace e no_begin, times-no (is_end_by i) trace e no_end)

  -- an event of another thread, or on no lock
  locks-same : IsFalse (is_acquire_by i e) → IsFalse (is_release_by i e) → IsFalse (is_acquire_shared_by i e) → IsFalse (is_release_shared_by i e) → locks_in (trace ++ e ∷ []) i ≡ locks_in trace i
  locks-same no_acquire no_release no_share no_unshare = omega (
    arith,
    times-no (is_acquire_by i) trace e no_acquire,
    times-no (is_release_by i) trace e no_release,
    times-no (is_acquire_shared_by i) trace e no_share,
    times-no (is_release_shared_by i) trace e no_unshare,
  )

pub same_thread_state : (s s' : Status) (d d' l l' : ℕ) → s ≡ s' → d ≡ d' → l ≡ l' → ◌≡◌ {A = ThreadState} (record { status = s; depth = d; locks = l }) (record { status = s'; depth = d'; locks = l' })
same_thread_state s s' d d' l l' hs hd hl = rw (hs, hd, hl) refl

-- ---- all fields, by the kind of the event

module _ (trace : List Event) (by : ThreadId) (k : Kind) where
  abbrev event : Event
  event = record { thread = by; kind = k }

  -- a thread that neither acts nor is forked or joined
  pub thread_state-elsewhere : (i : ℕ) → (i ≡ by.0 → ⊥) → IsFalse (is_fork_of i event) → IsFalse (is_join_of i event) → thread_state_in (trace ++ event ∷ []) i ≡ thread_state_in trace i
  thread_state-elsewhere i differ no_fork no_join =
      let other : IsFalse (by.0 == i) = ne_eqb by.0 i (λ e. differ (sym e)) in
      same_thread_state _ _ _ _ _ _
      (status-same trace event i no_join (and_left _ _ other) no_fork)
      (depth-same trace event i (and_left _ _ other) (and_left _ _ other))
      (locks-same trace event i (and_left _ _ other) (and_left _ _ other) (and_left _ _ other) (and_left _ _ other))

-- the thread itself, but for a fork or a join
pub thread_state-own : (bounds : Bounds) (trace : List Event) (by : ThreadId) (k : Kind) → Facts bounds trace → MayFollow bounds trace (record { thread = by; kind = k }) → thread_forked_or_joined k ≡ None → thread_state_in (trace ++ record { thread = by; kind = k } ∷ []) by.0 ≡ thread_state_after (thread_state_in trace by.0) k
thread_state-own bounds trace by (Read x v) facts f own =
    let e : Event = record { thread = by; kind = Read x v } in
    same_thread_state _ _ _ _ _ _ (status-same trace e by.0 refl (and_right _ _ refl) refl) (depth-same trace e by.0 (and_right _ _ refl) (and_right _ _ refl)) (locks-same trace e by.0 (and_right _ _ refl) (and_right _ _ refl) (and_right _ _ refl) (and_right _ _ refl))
thread_state-own bounds trace by (Write x v) facts f own =
    let e : Event = record { thread = by; kind = Write x v } in
    same_thread_state _ _ _ _ _ _ (status-same trace e by.0 refl (and_right _ _ refl) refl) (depth-same trace e by.0 (and_right _ _ refl) (and_right _ _ refl)) (locks-same trace e by.0 (and_right _ _ refl) (and_right _ _ refl) (and_right _ _ refl) (and_right _ _ refl))
thread_state-own bounds trace by (Acquire m) facts f own =
    let e : Event = record { thread = by; kind = Acquire m } in
    let held = facts.held by.0 in
    let shared = facts.shared by.0 in
    let more : locks_in (trace ++ e ∷ []) by.0 ≡ locks_in trace by.0 + 1 = omega (arith, times-yes (is_acquire_by by.0) trace e (and_from _ _ (eq-eqb _ _ refl) refl), times-no (is_release_by by.0) trace e (and_right _ _ refl), times-no (is_acquire_shared_by by.0) trace e (and_right _ _ refl), times-no (is_release_shared_by by.0) trace e (and_right _ _ refl), held, shared) in
    same_thread_state _ _ _ _ _ _ (status-same trace e by.0 refl (and_right _ _ refl) refl) (depth-same trace e by.0 (and_right _ _ refl) (and_right _ _ refl)) more
thread_state-own bounds trace by (Release m) facts f own =
    let e : Event = record { thread = by; kind = Release m } in
    let held = facts.held by.0 in
    let shared = facts.shared by.0 in
    let after = held-next bounds trace by (Release m) f.known_names f.in_turn by.0 held in
    let fewer : locks_in (trace ++ e ∷ []) by.0 ≡ locks_in trace by.0 - 1 = omega (arith, times-no (is_acquire_by by.0) trace e (and_right _ _ refl), times-yes (is_release_by by.0) trace e (and_from _ _ (eq-eqb _ _ refl) refl), times-no (is_acquire_shared_by by.0) trace e (and_right _ _ refl), times-no (is_release_shared_by by.0) trace e (and_right _ _ refl), held, shared, after) in
    same_thread_state _ _ _ _ _ _ (status-same trace e by.0 refl (and_right _ _ refl) refl) (depth-same trace e by.0 (and_right _ _ refl) (and_right _ _ refl)) fewer
thread_state-own bounds trace by (AcquireShared m) facts f own =
    let e : Event = record { thread = by; kind = AcquireShared m } in
    let held = facts.held by.0 in
    let shared = facts.shared by.0 in
    let more : locks_in (trace ++ e ∷ []) by.0 ≡ locks_in trace by.0 + 1 = omega (arith, times-no (is_acquire_by by.0) trace e (and_right _ _ refl), times-no (is_release_by by.0) trace e (and_right _ _ refl), times-yes (is_acquire_shared_by by.0) trace e (and_from _ _ (eq-eqb _ _ refl) refl), times-no (is_release_shared_by by.0) trace e (and_right _ _ refl), held, shared) in
    same_thread_state _ _ _ _ _ _ (status-same trace e by.0 refl (and_right _ _ refl) refl) (depth-same trace e by.0 (and_right _ _ refl) (and_right _ _ refl)) more
thread_state-own bounds trace by (ReleaseShared m) facts f own =
    let e : Event = record { thread = by; kind = ReleaseShared m } in
    let held = facts.held by.0 in
    let shared = facts.shared by.0 in
    let after = shared-next bounds trace by (ReleaseShared m) f.known_names f.in_turn by.0 shared in
    let fewer : locks_in (trace ++ e ∷ []) by.0 ≡ locks_in trace by.0 - 1 = omega (arith, times-no (is_acquire_by by.0) trace e (and_right _ _ refl), times-no (is_release_by by.0) trace e (and_right _ _ refl), times-no (is_acquire_shared_by by.0) trace e (and_right _ _ refl), times-yes (is_release_shared_by by.0) trace e (and_from _ _ (eq-eqb _ _ refl) refl), held, shared, after) in
    same_thread_state _ _ _ _ _ _ (status-same trace e by.0 refl (and_right _ _ refl) refl) (depth-same trace e by.0 (and_right _ _ refl) (and_right _ _ refl)) fewer
thread_state-own bounds trace by (Begin label) facts f own =
    let e : Event = record { thread = by; kind = Begin label } in
    let deeper : depth_in (trace ++ e ∷ []) by.0 ≡ depth_in trace by.0 + 1 = omega (arith, times-yes (is_begin_by by.0) trace e (and_from _ _ (eq-eqb _ _ refl) refl), times-no (is_end_by by.0) trace e (and_right _ _ refl), facts.nested by.0) in
    same_thread_state _ _ _ _ _ _ (status-same trace e by.0 refl (and_right _ _ refl) refl) deeper (locks-same trace e by.0 (and_right _ _ refl) (and_right _ _ refl) (and_right _ _ refl) (and_right _ _ refl))
thread_state-own bounds trace by End facts f own =
    let e : Event = record { thread = by; kind = End } in
    let shallower : depth_in (trace ++ e ∷ []) by.0 ≡ depth_in trace by.0 - 1 = omega (arith, times-no (is_begin_by by.0) trace e (and_right _ _ refl), times-yes (is_end_by by.0) trace e (and_from _ _ (eq-eqb _ _ refl) refl)) in
    same_thread_state _ _ _ _ _ _ (status-same trace e by.0 refl (and_right _ _ refl) refl) shallower (locks-same trace e by.0 (and_right _ _ refl) (and_right _ _ refl) (and_right _ _ refl) (and_right _ _ refl))
thread_state-own bounds trace by Exit facts f own =
    let e : Event = record { thread = by; kind = Exit } in
    let unjoined : IsFalse (happened (is_join_of by.0) trace) = false_from_ne_true _ (λ j. false≢true (sym f.not_exited ∙ facts.exited by.0 j)) in
    same_thread_state _ _ _ _ _ _ (status-exited trace e by.0 unjoined refl (and_from _ _ (eq-eqb _ _ refl) refl)) (depth-same trace e by.0 (and_right _ _ refl) (and_right _ _ refl)) (locks-same trace e by.0 (and_right _ _ refl) (and_right _ _ refl) (and_right _ _ refl) (and_right _ _ refl))
thread_state-own bounds trace by (Fork u) facts f own = cc
thread_state-own bounds trace by (Join u) facts f own = cc

-- the thread that is forked
pub thread_state-forked : (bounds : Bounds) (trace : List Event) (by u : ThreadId) → Facts bounds trace → MayFollow bounds trace (record { thread = by; kind = Fork u }) → thread_state_in (trace ++ record { thread = by; kind = Fork u } ∷ []) u.0 ≡ record { status = Live; depth = depth_in trace u.0; locks = locks_in trace u.0 }
thread_state-forked bounds trace by u facts f =
    let e : Event = record { thread = by; kind = Fork u } in
    let unborn : IsFalse (was_born trace u.0) = or_from _ _ (ne_eqb _ _ f.in_turn.0) f.in_turn.1 in
    let no_exit : IsFalse (happened (is_exit_by u.0) trace) = false_from_ne_true _ (λ x. false≢true (sym unborn ∙ facts.born u.0 x)) in
    let no_join : IsFalse (happened (is_join_of u.0) trace) = false_from_ne_true _ (λ j. false≢true (sym no_exit ∙ facts.exited u.0 j)) in
    same_thread_state _ _ _ _ _ _ (status-forked trace e u.0 no_join no_exit refl (and_right _ _ refl) (eq-eqb _ _ refl)) (depth-same trace e u.0 (and_right _ _ refl) (and_right _ _ refl)) (locks-same trace e u.0 (and_right _ _ refl) (and_right _ _ refl) (and_right _ _ refl) (and_right _ _ refl))

-- the thread that is joined
pub thread_state-joined : (trace : List Event) (by u : ThreadId) → thread_state_in (trace ++ record { thread = by; kind = Join u } ∷ []) u.0 ≡ record { status = Joined; depth = depth_in trace u.0; locks = locks_in trace u.0 }
thread_state-joined trace by u =
    let e : Event = record { thread = by; kind = Join u } in
    same_thread_state _ _ _ _ _ _ (status-joined trace e u.0 (eq-eqb _ _ refl)) (depth-same trace e u.0 (and_right _ _ refl) (and_right _ _ refl)) (locks-same trace e u.0 (and_right _ _ refl) (and_right _ _ refl) (and_right _ _ refl) (and_right _ _ refl))

-- any other thread, also the one that forks or joins
pub thread_state-not_forked : (trace : List Event) (by u : ThreadId) (i : ℕ) → (i ≡ u.0 → ⊥) → thread_state_in (trace ++ record { thread = by; kind = Fork u } ∷ []) i ≡ thread_state_in trace i
thread_state-not_forked trace by u i differ =
    let e : Event = record { thread = by; kind = Fork u } in
    same_thread_state _ _ _ _ _ _ (status-same trace e i refl (and_right _ _ refl) (ne_eqb u.0 i (λ s. differ (sym s)))) (depth-same trace e i (and_right _ _ refl) (and_right _ _ refl)) (locks-same trace e i (and_right _ _ refl) (and_right _ _ refl) (and_right _ _ refl) (and_right _ _ refl))

pub thread_state-not_joined : (trace : List Event) (by u : ThreadId) (i : ℕ) → (i ≡ u.0 → ⊥) → thread_state_in (trace ++ record { thread = by; kind = Join u } ∷ []) i ≡ thread_state_in trace i
thread_state-not_joined trace by u i differ =
    let e : Event = record { thread = by; kind = Join u } in
    same_thread_state _ _ _ _ _ _ (status-same trace e i (ne_eqb u.0 i (λ s. differ (sym s))) (and_right _ _ refl) refl) (depth-same trace e i (and_right _ _ refl) (and_right _ _ refl)) (locks-same trace e i (and_right _ _ refl) (and_right _ _ refl) (and_right _ _ refl) (and_right _ _ refl))

-- ---- the start

pub thread_state-nil : (i : ℕ) → thread_state_in [] i ≡ record { status = (if i == 0 then Live else Unborn); depth = 0; locks = 0 }
unfolding latest happened times
thread_state-nil i = elim (i == 0) as (λ b. ◌≡◌ {A = ThreadState} (record { status = (if b || false then Live else Unborn); depth = 0; locks = 0 }) (record { status = (if b then Live else Unborn); depth = 0; locks = 0 })) [ true ↦ refl | false ↦ refl ]

-- ---- no count wraps

count_below-le : (n : ℕ) (test : ℕ → Bool) → count_below n test ≤ n
unfolding count_below
count_below-le zero test = omega arith
count_below-le (suc n) test =
    let last : cond {A = ℕ} (test n) 1 0 ≤ 1 = elim (test n) as (λ b. cond {A = ℕ} b 1 0 ≤ 1) [ true ↦ omega arith | false ↦ omega arith ] in
    omega (arith, count_below-le n test, last)

pub CountsFit-admitted : (bounds : Bounds) (trace : List Event) (by : ThreadId) (k : Kind) → Facts bounds (trace ++ record { thread = by; kind = k } ∷ []) → MayFollow bounds trace (record { thread = by; kind = k }) → CountsFit bounds.locks (thread_state_in trace by.0) k
CountsFit-admitted bounds trace by (Acquire m) after f =
    let e : Event = record { thread = by; kind = Acquire m } in
    let few : held_by bounds (trace ++ e ∷ []) by.0 ≤ bounds.locks = count_below-le bounds.locks _ in
    let few_shared : shares_of bounds (trace ++ e ∷ []) by.0 ≤ bounds.locks = count_below-le bounds.locks _ in
    omega (arith, after.held by.0, after.shared by.0, times-yes (is_acquire_by by.0) trace e (and_from _ _ (eq-eqb _ _ refl) refl), times-no (is_release_by by.0) trace e (and_right _ _ refl), times-no (is_acquire_shared_by by.0) trace e (and_right _ _ refl), times-no (is_release_shared_by by.0) trace e (and_right _ _ refl), few, few_shared)
CountsFit-admitted bounds trace by (Release m) after f =
    let e : Event = record { thread = by; kind = Release m } in
    omega (arith, after.held by.0, after.shared by.0, times-no (is_acquire_by by.0) trace e (and_right _ _ refl), times-yes (is_release_by by.0) trace e (and_from _ _ (eq-eqb _ _ refl) refl), times-no (is_acquire_shared_by by.0) trace e (and_right _ _ refl), times-no (is_release_shared_by by.0) trace e (and_right _ _ refl))
CountsFit-admitted bounds trace by (AcquireShared m) after f =
    let e : Event = record { thread = by; kind = AcquireShared m } in
    let few : held_by bounds (trace ++ e ∷ []) by.0 ≤ bounds.locks = count_below-le bounds.locks _ in
    let few_shared : shares_of bounds (trace ++ e ∷ []) by.0 ≤ bounds.locks = count_below-le bounds.locks _ in
    omega (arith, after.held by.0, after.shared by.0, times-no (is_acquire_by by.0) trace e (and_right _ _ refl), times-no (is_release_by by.0) trace e (and_right _ _ refl), times-yes (is_acquire_shared_by by.0) trace e (and_from _ _ (eq-eqb _ _ refl) refl), times-no (is_release_shared_by by.0) trace e (and_right _ _ refl), few, few_shared)
CountsFit-admitted bounds trace by (ReleaseShared m) after f =
    let e : Event = record { thread = by; kind = ReleaseShared m } in
    omega (arith, after.held by.0, after.shared by.0, times-no (is_acquire_by by.0) trace e (and_right _ _ refl), times-no (is_release_by by.0) trace e (and_right _ _ refl), times-no (is_acquire_shared_by by.0) trace e (and_right _ _ refl), times-yes (is_release_shared_by by.0) trace e (and_from _ _ (eq-eqb _ _ refl) refl))
CountsFit-admitted bounds trace by (Begin label) after f = let turn = f.in_turn in omega (arith, turn)
CountsFit-admitted bounds trace by End after f = let turn = f.in_turn in omega (arith, turn)
CountsFit-admitted bounds trace by _ after f = tt
