-- The heap of a trace, changed by an event that may follow, is the heap of the trace with that event.
use Rattle.std.proofs.Common.{◌≡◌, ℕ, ◌<◌, ◌≤◌, Bool, true, cond, List, [], ◌∷◌, ◌++◌, length, set, replicate, Option, Some, None, refl, sym, ap, ◌∙◌, subst, arith}
use Rattle.std.specs.Prelude.{if◌then◌else◌, option_map, IsFalse}
use Rattle.std.proofs.lemmas.Bool.{eq-eqb, ne_eqb}
use Rattle.std.proofs.lemmas.List.{length-set, length-replicate, set-get_or}
use Rattle.velo_events.specs.declared.config.Bounds.{Bounds}
use Rattle.velo_events.specs.declared.event.ThreadId.{ThreadId}
use Rattle.velo_events.specs.declared.event.Event.{Event}
use Rattle.velo_events.specs.declared.event.Kind.{Kind}
use Rattle.velo_events.specs.declared.event.Kind.TheVariants.{Read, Write, Acquire, Release, AcquireShared, ReleaseShared, Begin, End, Fork, Join, Exit}
use Rattle.velo_events.specs.declared.event.Status.{Status}
use Rattle.velo_events.specs.declared.event.Status.TheVariants.{Unborn, Live, Joined}
use Rattle.velo_events.specs.Event.{are_same, thread_forked_or_joined, thread_forked, thread_joined}
use Rattle.velo_events.specs.Heap.{latest, value_in, holder_in, depth_in}
use Rattle.velo_events.specs.WellFormed.{MayFollow, IsWellFormed}
use Rattle.velo_events.proofs.OnTraces.{value_in-push}
use Rattle.velo_events.proofs.OnWellFormed.{Facts, Facts-from, IsWellFormed-nil, IsWellFormed-push}
use Rattle.velo_heap.specs.declared.lock.Lock.{Lock}
use Rattle.velo_heap.specs.declared.thread_state.ThreadState.{ThreadState}
use Rattle.velo_heap.specs.Contents.{Contents, bounds_of, Tabulates, mask_below, lock_in, locks_in, thread_state_in, IsHeapOf, IsAdmitted}
use Rattle.velo_heap.specs.Steps.{CountsFit, CanChange, contents_after, thread_state_after, thread_state_at, with_status, unborn, free, with_holder, with_sharer, without_sharer}
use Rattle.velo_heap.proofs.OnAdmission.{MayFollow-each}
use Rattle.velo_heap.proofs.OnMasks.{mask_below-none}
use Rattle.velo_heap.proofs.OnLocks.{same_lock, lock-no_lock, lock-elsewhere, lock-elsewhere-shared, lock-held, lock-shared, lock-unshared}
use Rattle.velo_heap.proofs.OnTables.{get_or-tabulated, Tabulates-same, Tabulates-set, Tabulates-replicate}
use Rattle.velo_heap.proofs.OnThreadStates.{thread_state-elsewhere, thread_state-own, thread_state-forked, thread_state-joined, thread_state-not_forked, thread_state-not_joined, thread_state-nil, CountsFit-admitted}

not_handled : (k : Kind) (i : ℕ) → thread_forked_or_joined k ≡ None → IsFalse (are_same (thread_forked k) (Some i)) × IsFalse (are_same (thread_joined k) (Some i))
not_handled (Fork u) i h = cc
not_handled (Join u) i h = cc
not_handled _ i h = (refl, refl)

module _ (heap : Contents) (trace : List Event) (stands : IsHeapOf heap trace) (by : ThreadId) where
  values-after : (k : Kind) → MayFollow (bounds_of heap) trace (record { thread = by; kind = k }) → Tabulates (contents_after heap (record { thread = by; kind = k })).values (value_in (trace ++ record { thread = by; kind = k } ∷ []))
  values-after (Write x v) f =
      let e : Event = record { thread = by; kind = Write x v } in
      Tabulates-set heap.values (value_in trace) _ x.0 v stands.values f.known_names
      (value_in-push trace e x.0 ∙ ap (λ b. cond b v (value_in trace x.0)) (eq-eqb x.0 x.0 refl))
      (λ i differ. value_in-push trace e i ∙ ap (λ b. cond b v (value_in trace i)) (ne_eqb x.0 i (λ s. differ (sym s))))
  values-after k f = Tabulates-same _ _ _ stands.values (value_in-push trace (record { thread = by; kind = k }))

  locks-after : (few : length heap.threads ≤ 64) (k : Kind) → MayFollow (bounds_of heap) trace (record { thread = by; kind = k }) → Tabulates (contents_after heap (record { thread = by; kind = k })).locks (lock_in (length heap.threads) (trace ++ record { thread = by; kind = k } ∷ []))
  locks-after few (Acquire m) f =
      let now = get_or-tabulated heap.locks (lock_in (length heap.threads) trace) free m.0 stands.locks f.known_names in
      Tabulates-set heap.locks (lock_in (length heap.threads) trace) _ m.0 _ stands.locks f.known_names
      (lock-held (length heap.threads) trace by (Acquire m) m refl refl ∙ ap (with_holder (Some by)) (sym now))
      (λ i differ. lock-elsewhere (length heap.threads) trace by (Acquire m) m i (refl, refl) differ)
  locks-after few (Release m) f =
      let now = get_or-tabulated heap.locks (lock_in (length heap.threads) trace) free m.0 stands.locks f.known_names in
      Tabulates-set heap.locks (lock_in (length heap.threads) trace) _ m.0 _ stands.locks f.known_names
      (lock-held (length heap.threads) trace by (Release m) m refl refl ∙ ap (with_holder None) (sym now))
      (λ i differ. lock-elsewhere (length heap.threads) trace by (Release m) m i (refl, refl) differ)
  locks-after few (AcquireShared m) f =
      let now = get_or-tabulated heap.locks (lock_in (length heap.threads) trace) free m.0 stands.locks f.known_names in
      Tabulates-set heap.locks (lock_in (length heap.threads) trace) _ m.0 _ stands.locks f.known_names
      (lock-shared (length heap.threads) trace by few f.known_thread m ∙ ap (with_sharer by) (sym now))
      (λ i differ. lock-elsewhere-shared (length heap.threads) trace by (AcquireShared m) m i (refl, refl) differ)
  locks-after few (ReleaseShared m) f =
      let now = get_or-tabulated heap.locks (lock_in (length heap.threads) trace) free m.0 stands.locks f.known_names in
      Tabulates-set heap.locks (lock_in (length heap.threads) trace) _ m.0 _ stands.locks f.known_names
      (lock-unshared (length heap.threads) trace by few f.known_thread m ∙ ap (without_sharer by) (sym now))
      (λ i differ. lock-elsewhere-shared (length heap.threads) trace by (ReleaseShared m) m i (refl, refl) differ)
  locks-after few k f = Tabulates-same _ _ _ stands.locks (λ i. lock-no_lock (length heap.threads) trace by k i refl refl)

  facts : Facts (bounds_of heap) trace
  facts = Facts-from (bounds_of heap) trace stands.well_formed

  -- the acting thread's own place
  own_place-after : (k : Kind) → MayFollow (bounds_of heap) trace (record { thread = by; kind = k }) → thread_forked_or_joined k ≡ None → Tabulates (set heap.threads by.0 (thread_state_after (thread_state_at heap.threads by.0) k)) (thread_state_in (trace ++ record { thread = by; kind = k } ∷ []))
  own_place-after k f own =
      let now = get_or-tabulated heap.threads (thread_state_in trace) unborn by.0 stands.threads f.known_thread in
      Tabulates-set heap.threads (thread_state_in trace) _ by.0 _ stands.threads f.known_thread
      (thread_state-own (bounds_of heap) trace by k facts f own ∙ ap (λ s. thread_state_after s k) (sym now))
      (λ i differ. let untouched = not_handled k i own in thread_state-elsewhere trace by k i differ untouched.0 untouched.1)

  -- all places, where the acting thread stands as before
  places-kept : (k : Kind) → MayFollow (bounds_of heap) trace (record { thread = by; kind = k }) → thread_forked_or_joined k ≡ None → ((s : ThreadState) → thread_state_after s k ≡ s) → Tabulates heap.threads (thread_state_in (trace ++ record { thread = by; kind = k } ∷ []))
  places-kept k f own kept =
      let same : set heap.threads by.0 (thread_state_after (thread_state_at heap.threads by.0) k) ≡ heap.threads = ap (set heap.threads by.0) (kept (thread_state_at heap.threads by.0)) ∙ set-get_or heap.threads by.0 unborn in
      subst (λ threads. Tabulates threads (thread_state_in (trace ++ record { thread = by; kind = k } ∷ []))) same (own_place-after k f own)

  -- the place of a thread that is forked or joined
  status-after : (k : Kind) (u : ThreadId) (status : Status) → u.0 < length heap.threads →
      thread_state_in (trace ++ record { thread = by; kind = k } ∷ []) u.0 ≡ record { status = status; depth = depth_in trace u.0; locks = locks_in trace u.0 } →
      ((i : ℕ) → (i ≡ u.0 → ⊥) → thread_state_in (trace ++ record { thread = by; kind = k } ∷ []) i ≡ thread_state_in trace i) →
      Tabulates (with_status heap.threads u.0 status) (thread_state_in (trace ++ record { thread = by; kind = k } ∷ []))
  status-after k u status known here elsewhere =
      let now = get_or-tabulated heap.threads (thread_state_in trace) unborn u.0 stands.threads known in
      Tabulates-set heap.threads (thread_state_in trace) _ u.0 _ stands.threads known
      (here ∙ ap (λ (s : ThreadState). record s { status = status }) (sym now))
      elsewhere

  threads-after : (k : Kind) → MayFollow (bounds_of heap) trace (record { thread = by; kind = k }) → Tabulates (contents_after heap (record { thread = by; kind = k })).threads (thread_state_in (trace ++ record { thread = by; kind = k } ∷ []))
  threads-after (Read x v) f = places-kept (Read x v) f refl (λ s. refl)
  threads-after (Write x v) f = places-kept (Write x v) f refl (λ s. refl)
  threads-after (Acquire m) f = own_place-after (Acquire m) f refl
  threads-after (Release m) f = own_place-after (Release m) f refl
  threads-after (AcquireShared m) f = own_place-after (AcquireShared m) f refl
  threads-after (ReleaseShared m) f = own_place-after (ReleaseShared m) f refl
  threads-after (Begin label) f = own_place-after (Begin label) f refl
  threads-after End f = own_place-after End f refl
  threads-after Exit f = own_place-after Exit f refl
  threads-after (Fork u) f = status-after (Fork u) u Live f.known_names (thread_state-forked (bounds_of heap) trace by u facts f) (thread_state-not_forked trace by u)
  threads-after (Join u) f = status-after (Join u) u Joined f.known_names (thread_state-joined trace by u) (thread_state-not_joined trace by u)

-- ---- the bounds stay

as_many : (heap : Contents) (values : List ℕ) (locks : List Lock) (threads : List ThreadState) → length values ≡ length heap.values → length locks ≡ length heap.locks → length threads ≡ length heap.threads → bounds_of (record { values = values; locks = locks; threads = threads }) ≡ bounds_of heap
as_many heap values locks threads hv hl ht = rw (hv, hl, ht) refl

pub bounds_of-contents_after : (heap : Contents) (by : ThreadId) (k : Kind) → bounds_of (contents_after heap (record { thread = by; kind = k })) ≡ bounds_of heap
bounds_of-contents_after heap by (Read x v) = refl
bounds_of-contents_after heap by (Write x v) = as_many heap _ _ _ (length-set _ _ _) refl refl
bounds_of-contents_after heap by (Acquire m) = as_many heap _ _ _ refl (length-set _ _ _) (length-set _ _ _)
bounds_of-contents_after heap by (Release m) = as_many heap _ _ _ refl (length-set _ _ _) (length-set _ _ _)
bounds_of-contents_after heap by (AcquireShared m) = as_many heap _ _ _ refl (length-set _ _ _) (length-set _ _ _)
bounds_of-contents_after heap by (ReleaseShared m) = as_many heap _ _ _ refl (length-set _ _ _) (length-set _ _ _)
bounds_of-contents_after heap by (Begin label) = as_many heap _ _ _ refl refl (length-set _ _ _)
bounds_of-contents_after heap by End = as_many heap _ _ _ refl refl (length-set _ _ _)
bounds_of-contents_after heap by (Fork u) = as_many heap _ _ _ refl refl (length-set _ _ _)
bounds_of-contents_after heap by (Join u) = as_many heap _ _ _ refl refl (length-set _ _ _)
bounds_of-contents_after heap by Exit = as_many heap _ _ _ refl refl (length-set _ _ _)

-- ---- the whole

pub IsHeapOf-after : (heap : Contents) (trace : List Event) (e : Event) → length heap.threads ≤ 64 → IsHeapOf heap trace → MayFollow (bounds_of heap) trace e → IsHeapOf (contents_after heap e) (trace ++ e ∷ [])
IsHeapOf-after heap trace e few stands f = record {
  well_formed = subst (λ bounds. IsWellFormed bounds (trace ++ e ∷ [])) (sym (bounds_of-contents_after heap e.thread e.kind)) (IsWellFormed-push (bounds_of heap) trace e stands.well_formed f);
  values = values-after heap trace stands e.thread e.kind f;
  locks = subst (λ n. Tabulates (contents_after heap e).locks (lock_in n (trace ++ e ∷ []))) (sym (ap (λ (b : Bounds). b.threads) (bounds_of-contents_after heap e.thread e.kind))) (locks-after heap trace stands e.thread few e.kind f);
  threads = threads-after heap trace stands e.thread e.kind f;
}

-- an admitted event fits the heap
pub CanChange-admitted : (heap : Contents) (e : Event) → IsAdmitted heap e → CanChange heap e
CanChange-admitted heap e admitted =
    let trace = admitted.trace in
    let stands = admitted.stands in
    let f = admitted.follows in
    let longer : IsWellFormed (bounds_of heap) (trace ++ e ∷ []) = IsWellFormed-push (bounds_of heap) trace e stands.well_formed f in
    let now = get_or-tabulated heap.threads (thread_state_in trace) unborn e.thread.0 stands.threads f.known_thread in
    record {
      thread = f.known_thread;
      names = f.known_names;
      room = subst (λ s. CountsFit (length heap.locks) s e.kind) (sym now) (CountsFit-admitted (bounds_of heap) trace e.thread e.kind (Facts-from (bounds_of heap) (trace ++ e ∷ []) longer) f);
    }

-- whichever trace the heap stands for
pub IsHeapOf-apply : (heap : Contents) (e : Event) → length heap.threads ≤ 64 → IsAdmitted heap e → (trace : List Event) → IsHeapOf heap trace → IsHeapOf (contents_after heap e) (trace ++ e ∷ [])
IsHeapOf-apply heap e few admitted trace stands = IsHeapOf-after heap trace e few stands (MayFollow-each heap admitted.trace trace e admitted.stands stands admitted.follows)

-- ---- the start

abbrev pub start_by : Bool → ThreadState
start_by b = record { status = (if b then Live else Unborn); depth = 0; locks = 0 }

pub IsHeapOf-start : (threads variables locks : ℕ) → 0 < threads → IsHeapOf (record { values = replicate variables 0; locks = replicate locks free; threads = set (replicate threads unborn) 0 (start_by true) }) []
unfolding latest
IsHeapOf-start threads variables locks some = record {
  well_formed = IsWellFormed-nil _;
  values = Tabulates-replicate variables 0 (value_in []) (λ i. refl);
  locks = Tabulates-replicate locks free _ (λ i. same_lock None None _ 0 refl (mask_below-none _));
  threads = Tabulates-set (replicate threads unborn) (λ i. unborn) (thread_state_in []) 0 (start_by true)
      (Tabulates-replicate threads unborn (λ i. unborn) (λ i. refl))
      (omega (arith, some, length-replicate threads unborn))
      (thread_state-nil 0)
      (λ i differ. thread_state-nil i ∙ ap start_by (ne_eqb i 0 differ));
}

pub IsHeapOf-made : (threads variables locks : ℕ) (values : List ℕ) (holding : List Lock) (thread_states : List ThreadState) (first : ThreadState) → 0 < threads →
    values ≡ replicate variables 0 → holding ≡ replicate locks free → thread_states ≡ replicate threads unborn → first ≡ start_by true →
    IsHeapOf (record { values = values; locks = holding; threads = set thread_states 0 first }) []
IsHeapOf-made threads variables locks values holding thread_states first some hv hh ht hf = rw (hv, hh, ht, hf) (IsHeapOf-start threads variables locks some)
