-- What a heap admits is what its trace admits.
use Rattle.std.proofs.Common.{◌≡◌, ℕ, ◌<◌, Bool, true, false, not, List, length, Option, Some, None, Ok, Err, refl, sym, ap, ◌∙◌, subst, arith, ⊎_elim}
use Rattle.std.specs.Prelude.{◌&&◌, ◌||◌, is_some, ◌==◌, nat_lt, nat_le, if◌then◌else◌, IsTrue, IsFalse, Result, option_map, slice_get}
use Rattle.std.proofs.lemmas.Bool.{or_parts, or_from, cases_Bool, cases_lt, lt-ltb, le-ltb, lt-leb, le-leb, eq-eqb, eqb-true, false_from_ne_true, false≢true}
use Rattle.std.proofs.lemmas.Option.{slice_get_past, same_Some}
use Rattle.velo_events.specs.declared.limits.TheConstants.{MAX_OPEN_BLOCKS}
use Rattle.velo_events.specs.declared.config.Bounds.{Bounds}
use Rattle.velo_events.specs.declared.event.ThreadId.{ThreadId}
use Rattle.velo_events.specs.declared.event.LockId.{LockId}
use Rattle.velo_events.specs.declared.event.Action.{Action}
use Rattle.velo_events.specs.declared.event.Action.TheVariants.{Read, Write, Acquire, Release, AcquireShared, ReleaseShared, Begin, End, Fork, Join, Exit}
use Rattle.velo_events.specs.declared.event.Event.{Event}
use Rattle.velo_events.specs.declared.event.Kind.{Kind}
use Rattle.velo_events.specs.declared.event.Kind.TheVariants as kind
use Rattle.velo_events.specs.declared.event.Status.{Status}
use Rattle.velo_events.specs.declared.event.Status.TheVariants.{Unborn, Live, Exited, Joined}
use Rattle.velo_events.specs.declared.refusal.Refusal.{Refusal}
use Rattle.velo_events.specs.declared.refusal.Refusal.TheVariants.{NotLive, NoSuchVariable, NoSuchLock, NoSuchThread, Busy, AlreadyHeld, NotHolder, NoOpenBlock, TooDeep, AlreadyForked, NotForked, NotExited, AlreadyJoined, BlockOpen, LockHeld}
use Rattle.velo_events.specs.Event.{are_same}
use Rattle.velo_events.specs.ThreadSets.{has_none}
use Rattle.velo_events.specs.Heap.{value_in, holder_in, shares_in, status_in, depth_in}
use Rattle.velo_events.specs.WellFormed.{MayFollow, IsWellFormed}
use Rattle.velo_events.specs.Block.{any_below}
use Rattle.velo_events.specs.Meaning.{refusal_of, holds, holds_a_lock, is_busy, kind_for, event_for, action_of, is_another, is_live, is_unborn, is_joined}
use Rattle.velo_events.proofs.OnWellFormed.{Facts, Facts-from, any_below-never, count_below-zero, count_below-none, count_below, is_held_by}
use Rattle.velo_events.proofs.OnBlocks.{any_below-none}
use Rattle.velo_events.proofs.OnMeaning.{HasItsValue, MayFollow-refusal_of, HasItsValue-kind_for}
use Rattle.velo_heap.specs.Contents.{Contents, bounds_of, Tabulates, lock_in, locks_in, thread_state_in, IsHeapOf, unless_refused, admission, IsAdmitted}
use Rattle.velo_heap.proofs.OnLocks.{is_holder-in, is_sharer-in, is_held_by-in, is_taken-in, is_shared-in}
use Rattle.velo_heap.specs.Steps.{refusal_in, read_at, write_at, acquire_in, acquire_shared_in, release_in, release_shared_in, acquire_at, acquire_shared_at, release_at, release_shared_at, fork_by, fork_at, join_by, join_at, live_kind, kind_in}

-- the refusal if there is one, or else the operation
abbrev kind_or : Kind → Option Refusal → Result Kind Refusal
kind_or k (Some refusal) = Err refusal
kind_or k None = Ok k

-- ---- what stands at the place that the action names

refused_if : (b : Bool) (r : Refusal) (k : Kind) → (if b then Err r else Ok k) ≡ kind_or k (if b then Some r else None)
refused_if true r k = refl
refused_if false r k = refl

-- the thread holds the lock, or others do
acquired : (held taken taken' : Bool) (k : Kind) → (IsFalse held → taken ≡ taken') →
    (if held then Err AlreadyHeld else (if taken then Err Busy else Ok k)) ≡ kind_or k (if not held && taken' then Some Busy else (if held then Some AlreadyHeld else None))
acquired true taken taken' k h = refl
acquired false taken taken' k h = refused_if taken Busy k ∙ ap (λ b. kind_or k (if b then Some Busy else None)) (h refl)

released : (held : Bool) (k : Kind) → (if held then Ok k else Err NotHolder) ≡ kind_or k (if not held then Some NotHolder else None)
released true k = refl
released false k = refl

fork_of : (u : ThreadId) (s : Status) → fork_by u s ≡ kind_or (kind.Fork u) (if not (is_unborn s) then Some AlreadyForked else None)
fork_of u Unborn = refl
fork_of u Live = refl
fork_of u Exited = refl
fork_of u Joined = refl

join_of : (u : ThreadId) (s : Status) → join_by u s ≡ kind_or (kind.Join u) (if is_unborn s then Some NotForked else (if is_live s then Some NotExited else (if is_joined s then Some AlreadyJoined else None)))
join_of u Unborn = refl
join_of u Live = refl
join_of u Exited = refl
join_of u Joined = refl

exit_of : (deep held : Bool) → (if deep then Err BlockOpen else (if held then Err LockHeld else Ok kind.Exit)) ≡ kind_or kind.Exit (if deep then Some BlockOpen else (if held then Some LockHeld else None))
exit_of true held = refl
exit_of false true = refl
exit_of false false = refl

-- a thread that has acquired as often as it has released, in both ways, holds no lock, and the other way round
holds_a_lock-locks_in : (bounds : Bounds) (trace : List Event) (t : ℕ) → IsWellFormed bounds trace → holds_a_lock bounds trace t ≡ not (locks_in trace t == 0)
unfolding holds_a_lock
holds_a_lock-locks_in bounds trace t well =
    let facts = Facts-from bounds trace well in
    let held = facts.held t in
    let shared = facts.shared t in
    ⊎_elim
    (λ (some : IsTrue (any_below bounds.locks (holds trace t))).
    let more : IsFalse (locks_in trace t == 0) = false_from_ne_true _ (λ e.
    let none : locks_in trace t ≡ 0 = eqb-true _ _ e in
    let free : count_below bounds.locks (is_held_by trace t) ≡ 0 = omega (arith, none, held, shared) in
    let unshared : count_below bounds.locks (λ m. shares_in trace m t) ≡ 0 = omega (arith, none, held, shared) in
    false≢true (sym (any_below-never bounds.locks (holds trace t) (λ m l. or_from _ _
    (any_below-none bounds.locks _ (count_below-none bounds.locks (is_held_by trace t) free) m l)
    (any_below-none bounds.locks _ (count_below-none bounds.locks _ unshared) m l))) ∙ some)) in
    some ∙ sym (ap not more))
    (λ (none : IsFalse (any_below bounds.locks (holds trace t))).
    let apart : (m : ℕ) → m < bounds.locks → IsFalse (holds trace t m) = any_below-none bounds.locks (holds trace t) none in
    let free : count_below bounds.locks (is_held_by trace t) ≡ 0 = count_below-zero bounds.locks (is_held_by trace t) (any_below-never bounds.locks _ (λ m l. (or_parts _ _ (apart m l)).0)) in
    let unshared : count_below bounds.locks (λ m. shares_in trace m t) ≡ 0 = count_below-zero bounds.locks _ (any_below-never bounds.locks _ (λ m l. (or_parts _ _ (apart m l)).1)) in
    let equal : locks_in trace t ≡ 0 = omega (arith, free, unshared, held, shared) in
    none ∙ sym (ap not (eq-eqb _ _ equal)))
    (cases_Bool (any_below bounds.locks (holds trace t)))

module _ (heap : Contents) (trace : List Event) (stands : IsHeapOf heap trace) where
  -- the item at a place that may not be there
  tabulated : {X Y : Type 0} (items : List X) (f : ℕ → X) (i : ℕ) (at : Option X → Y) (missing : Y) (y : Y) → Tabulates items f → at None ≡ missing → at (Some (f i)) ≡ y → at (slice_get items i) ≡ (if nat_le (length items) i then missing else y)
  tabulated items f i at missing y table none some = ⊎_elim
      (λ within. rw (table.each i within, lt-leb (length items) i within) some)
      (λ past. rw (slice_get_past items i past, le-leb (length items) i past) none)
      (cases_lt i (length items))

  kind_or-if : (b : Bool) (r : Refusal) (k : Kind) (rest : Option Refusal) → kind_or k (if b then Some r else rest) ≡ (if b then Err r else kind_or k rest)
  kind_or-if true r k rest = refl
  kind_or-if false r k rest = refl

  -- only a live thread acts
  when_live : (t : ThreadId) (action : Action) (k : Kind) (rest : Option Refusal) → live_kind heap t (thread_state_in trace t.0) action ≡ kind_or k rest →
      kind_in heap t action ≡ kind_or k (if not (nat_lt t.0 (length heap.threads) && is_live (status_in trace t.0)) then Some NotLive else rest)
  when_live t action k rest h = ⊎_elim
      (λ within. rw (stands.threads.each t.0 within, lt-ltb t.0 (length heap.threads) within) (acts (is_live (status_in trace t.0))))
      (λ past. rw (slice_get_past heap.threads t.0 past, le-ltb t.0 (length heap.threads) past) refl)
      (cases_lt t.0 (length heap.threads))
    where
      acts : (b : Bool) → (if b then live_kind heap t (thread_state_in trace t.0) action else Err NotLive) ≡ kind_or k (if not b then Some NotLive else rest)
      acts true = h
      acts false = refl

  facts : Facts (bounds_of heap) trace
  facts = Facts-from (bounds_of heap) trace stands.well_formed

  at_acquire : (t : ThreadId) (m : LockId) → acquire_in t m (lock_in (length heap.threads) trace m.0) ≡ kind_or (kind.Acquire m) (if is_busy (bounds_of heap) trace t.0 (kind.Acquire m) then Some Busy else (if holds trace t.0 m.0 then Some AlreadyHeld else None))
  at_acquire t m =
      let lock = lock_in (length heap.threads) trace m.0 in
      ap (λ b. if b then Err AlreadyHeld else (if is_some lock.holder || not (has_none lock.sharers) then Err Busy else Ok (kind.Acquire m))) (is_held_by-in (bounds_of heap) trace facts t m.0)
      ∙ acquired (holds trace t.0 m.0) (is_some lock.holder || not (has_none lock.sharers)) _ (kind.Acquire m)
      (λ free. ap (λ b. b || not (has_none lock.sharers)) (is_taken-in (bounds_of heap) trace facts t m.0 free) ∙ ap (λ b. is_another (holder_in trace m.0) t.0 || b) (is_shared-in (bounds_of heap) trace facts t m.0 free))

  at_acquire_shared : (t : ThreadId) (m : LockId) → acquire_shared_in t m (lock_in (length heap.threads) trace m.0) ≡ kind_or (kind.AcquireShared m) (if is_busy (bounds_of heap) trace t.0 (kind.AcquireShared m) then Some Busy else (if holds trace t.0 m.0 then Some AlreadyHeld else None))
  at_acquire_shared t m =
      let lock = lock_in (length heap.threads) trace m.0 in
      ap (λ b. if b then Err AlreadyHeld else (if is_some lock.holder then Err Busy else Ok (kind.AcquireShared m))) (is_held_by-in (bounds_of heap) trace facts t m.0)
      ∙ acquired (holds trace t.0 m.0) (is_some lock.holder) _ (kind.AcquireShared m) (λ free. is_taken-in (bounds_of heap) trace facts t m.0 free)

  at_release : (t : ThreadId) (m : LockId) → release_in t m (lock_in (length heap.threads) trace m.0) ≡ kind_or (kind.Release m) (if not (are_same (holder_in trace m.0) (Some t.0)) then Some NotHolder else None)
  at_release t m = ap (λ b. if b then Ok (kind.Release m) else Err NotHolder) (is_holder-in (bounds_of heap) trace facts t m.0) ∙ released _ (kind.Release m)

  at_release_shared : (t : ThreadId) (m : LockId) → release_shared_in t m (lock_in (length heap.threads) trace m.0) ≡ kind_or (kind.ReleaseShared m) (if not (shares_in trace m.0 t.0) then Some NotHolder else None)
  at_release_shared t m = ap (λ b. if b then Ok (kind.ReleaseShared m) else Err NotHolder) (is_sharer-in (bounds_of heap) trace facts t m.0) ∙ released _ (kind.ReleaseShared m)

  kind_in-refusal_of : (t : ThreadId) (action : Action) → kind_in heap t action ≡ kind_or (kind_for trace action) (refusal_of (bounds_of heap) trace t.0 (kind_for trace action))
  unfolding refusal_of
  kind_in-refusal_of t (Read x) = when_live t (Read x) _ _
      (tabulated heap.values (value_in trace) x.0 (read_at x) (Err NoSuchVariable) (Ok (kind.Read x (value_in trace x.0))) stands.values refl refl
      ∙ refused_if (nat_le (length heap.values) x.0) NoSuchVariable _)
  kind_in-refusal_of t (Write x v) = when_live t (Write x v) _ _
      (tabulated heap.values (value_in trace) x.0 (write_at x v) (Err NoSuchVariable) (Ok (kind.Write x v)) stands.values refl refl
      ∙ refused_if (nat_le (length heap.values) x.0) NoSuchVariable _)
  kind_in-refusal_of t (Acquire m) = when_live t (Acquire m) _ _
      (tabulated heap.locks (lock_in (length heap.threads) trace) m.0 (acquire_at t m) (Err NoSuchLock) _ stands.locks refl (at_acquire t m)
      ∙ sym (kind_or-if (nat_le (length heap.locks) m.0) NoSuchLock _ _))
  kind_in-refusal_of t (Release m) = when_live t (Release m) _ _
      (tabulated heap.locks (lock_in (length heap.threads) trace) m.0 (release_at t m) (Err NoSuchLock) _ stands.locks refl (at_release t m)
      ∙ sym (kind_or-if (nat_le (length heap.locks) m.0) NoSuchLock _ _))
  kind_in-refusal_of t (AcquireShared m) = when_live t (AcquireShared m) _ _
      (tabulated heap.locks (lock_in (length heap.threads) trace) m.0 (acquire_shared_at t m) (Err NoSuchLock) _ stands.locks refl (at_acquire_shared t m)
      ∙ sym (kind_or-if (nat_le (length heap.locks) m.0) NoSuchLock _ _))
  kind_in-refusal_of t (ReleaseShared m) = when_live t (ReleaseShared m) _ _
      (tabulated heap.locks (lock_in (length heap.threads) trace) m.0 (release_shared_at t m) (Err NoSuchLock) _ stands.locks refl (at_release_shared t m)
      ∙ sym (kind_or-if (nat_le (length heap.locks) m.0) NoSuchLock _ _))
  kind_in-refusal_of t (Begin label) = when_live t (Begin label) _ _ (refused_if (nat_le MAX_OPEN_BLOCKS (depth_in trace t.0)) TooDeep (kind.Begin label))
  kind_in-refusal_of t End = when_live t End _ _ (refused_if (depth_in trace t.0 == 0) NoOpenBlock kind.End)
  kind_in-refusal_of t (Fork u) = when_live t (Fork u) _ _
      (tabulated heap.threads (thread_state_in trace) u.0 (fork_at u) (Err NoSuchThread) _ stands.threads refl (fork_of u (status_in trace u.0))
      ∙ sym (kind_or-if (nat_le (length heap.threads) u.0) NoSuchThread _ _))
  kind_in-refusal_of t (Join u) = when_live t (Join u) _ _
      (tabulated heap.threads (thread_state_in trace) u.0 (join_at u) (Err NoSuchThread) _ stands.threads refl (join_of u (status_in trace u.0))
      ∙ sym (kind_or-if (nat_le (length heap.threads) u.0) NoSuchThread _ _))
  kind_in-refusal_of t Exit = when_live t Exit _ _
      (subst (λ b. (if not (depth_in trace t.0 == 0) then Err BlockOpen else (if not (locks_in trace t.0 == 0) then Err LockHeld else Ok kind.Exit)) ≡ kind_or kind.Exit (if not (depth_in trace t.0 == 0) then Some BlockOpen else (if b then Some LockHeld else None)))
      (sym (holds_a_lock-locks_in (bounds_of heap) trace t.0 stands.well_formed))
      (exit_of (not (depth_in trace t.0 == 0)) (not (locks_in trace t.0 == 0))))
  -- ---- the event of an operation

abbrev pub event_by : ThreadId → Result Kind Refusal → Result Event Refusal
event_by t (Ok k) = Ok (record { thread = t; kind = k })
event_by t (Err refusal) = Err refusal

pub admission-kind_in : (heap : Contents) (trace : List Event) (t : ThreadId) (action : Action) → IsHeapOf heap trace → event_by t (kind_in heap t action) ≡ admission (bounds_of heap) trace t action
admission-kind_in heap trace t action stands = ap (event_by t) (kind_in-refusal_of heap trace stands t action) ∙ joined (refusal_of (bounds_of heap) trace t.0 (kind_for trace action))
  where
    joined : (o : Option Refusal) → event_by t (kind_or (kind_for trace action) o) ≡ unless_refused o (event_for trace t action)
    joined (Some refusal) = refl
    joined None = refl

-- ---- why an operation is refused

-- what a read read plays no part
refusal_of-asked : (bounds : Bounds) (trace : List Event) (t : ℕ) (k : Kind) → refusal_of bounds trace t (kind_for trace (action_of k)) ≡ refusal_of bounds trace t k
unfolding refusal_of
refusal_of-asked bounds trace t (kind.Read x v) = refl
refusal_of-asked bounds trace t _ = refl

pub refusal_in-kind_in : (heap : Contents) (trace : List Event) (e : Event) → IsHeapOf heap trace → refusal_in (kind_in heap e.thread (action_of e.kind)) ≡ refusal_of (bounds_of heap) trace e.thread.0 e.kind
refusal_in-kind_in heap trace e stands =
    ap refusal_in (kind_in-refusal_of heap trace stands e.thread (action_of e.kind))
    ∙ (joined (refusal_of (bounds_of heap) trace e.thread.0 (kind_for trace (action_of e.kind)))
    ∙ refusal_of-asked (bounds_of heap) trace e.thread.0 e.kind)
  where
    joined : (o : Option Refusal) → refusal_in (kind_or (kind_for trace (action_of e.kind)) o) ≡ o
    joined (Some refusal) = refl
    joined None = refl

-- ---- an admitted event may follow

unrefused : (o : Option Refusal) (e e' : Event) → unless_refused o e ≡ Ok e' → (o ≡ None) × (e ≡ e')
unrefused None e e' h = (refl, cc)
unrefused (Some refusal) e e' h = cc

pub MayFollow-admission : (bounds : Bounds) (trace : List Event) (t : ThreadId) (action : Action) (e : Event) → IsWellFormed bounds trace → admission bounds trace t action ≡ Ok e → MayFollow bounds trace e
MayFollow-admission bounds trace t action e well h =
    let parts = unrefused (refusal_of bounds trace t.0 (kind_for trace action)) (event_for trace t action) e h in
    subst (MayFollow bounds trace) parts.1 ((MayFollow-refusal_of bounds trace (event_for trace t action) well).1 (parts.0, HasItsValue-kind_for trace action))

-- what `admit` answers may be applied
pub IsAdmitted-from : (heap : Contents) (trace : List Event) (t : ThreadId) (action : Action) (e : Event) → IsHeapOf heap trace → admission (bounds_of heap) trace t action ≡ Ok e → IsAdmitted heap e
IsAdmitted-from heap trace t action e stands h = record { trace = trace; stands = stands; follows = MayFollow-admission (bounds_of heap) trace t action e stands.well_formed h }

-- ---- an event that may follow one of the heap's traces may follow each of them

kind_for-known : (heap : Contents) (one other : List Event) (t : ThreadId) (k : Kind) → IsHeapOf heap one → IsHeapOf heap other → MayFollow (bounds_of heap) one (record { thread = t; kind = k }) → kind_for other (action_of k) ≡ k
kind_for-known heap one other t (kind.Read x v) s s' f =
    ap (kind.Read x) (sym (f.in_turn ∙ same_Some _ _ (sym (s.values.each x.0 f.known_names) ∙ s'.values.each x.0 f.known_names)))
kind_for-known heap one other t _ s s' f = refl

pub MayFollow-each : (heap : Contents) (one other : List Event) (e : Event) → IsHeapOf heap one → IsHeapOf heap other → MayFollow (bounds_of heap) one e → MayFollow (bounds_of heap) other e
MayFollow-each heap one other e s s' f =
    let bounds = bounds_of heap in
    let asked = action_of e.kind in
    let same : kind_for other asked ≡ e.kind = kind_for-known heap one other e.thread e.kind s s' f in
    let same_one : kind_for one asked ≡ e.kind = kind_for-known heap one one e.thread e.kind s s f in
    let none : refusal_of bounds one e.thread.0 e.kind ≡ None = ((MayFollow-refusal_of bounds one e s.well_formed).0 f).0 in
    let answered : admission bounds one e.thread asked ≡ Ok e = rw same_one (rw none refl) in
    let answered_too : admission bounds other e.thread asked ≡ Ok e = sym (admission-kind_in heap other e.thread asked s') ∙ (admission-kind_in heap one e.thread asked s ∙ answered) in
    let none_too : refusal_of bounds other e.thread.0 e.kind ≡ None = subst (λ k. refusal_of bounds other e.thread.0 k ≡ None) same (unrefused _ _ _ answered_too).0 in
    (MayFollow-refusal_of bounds other e s'.well_formed).1 (none_too, subst (HasItsValue other) same (HasItsValue-kind_for other asked))
