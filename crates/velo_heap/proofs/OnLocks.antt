-- Who holds a lock, after one more event, and what that admits.
use Rattle.std.proofs.Common.{◌≡◌, ℕ, ◌+◌, ◌<◌, ◌≤◌, Bool, true, false, not, cond, List, [], ◌∷◌, ◌++◌, Option, Some, None, refl, sym, ap, ◌∙◌, subst, arith, ⊎_elim}
use Rattle.std.specs.Prelude.{◌==◌, ◌&&◌, ◌||◌, if◌then◌else◌, is_some, option_map, IsTrue, IsFalse}
use Rattle.std.proofs.lemmas.Bool.{cases_Bool, cases_eq, eq-eqb, ne_eqb, and_left, and_right, and_from, or_parts, or_from, false≢true}
use Rattle.velo_events.specs.declared.config.Bounds.{Bounds}
use Rattle.velo_events.specs.declared.event.ThreadId.{ThreadId}
use Rattle.velo_events.specs.declared.event.LockId.{LockId}
use Rattle.velo_events.specs.declared.event.Event.{Event}
use Rattle.velo_events.specs.declared.event.Kind.{Kind}
use Rattle.velo_events.specs.declared.event.Kind.TheVariants.{Acquire, Release, AcquireShared, ReleaseShared}
use Rattle.velo_events.specs.Event.{are_same, exclusive_lock_of, shared_lock_of, is_on_lock, is_on_share, is_acquire}
use Rattle.velo_events.specs.Heap.{holder_in, shares_in}
use Rattle.velo_events.specs.Block.{any_below}
use Rattle.velo_events.specs.ThreadSets.{has_thread, has_none}
use Rattle.velo_events.specs.Meaning.{holds, is_another, is_shared_beside}
use Rattle.velo_events.proofs.OnBlocks.{any_below-same}
use Rattle.velo_events.proofs.OnWellFormed.{Facts, holder_in-push, shares_in-kept, shares_in-set}
use Rattle.velo_heap.specs.declared.lock.Lock.{Lock}
use Rattle.velo_heap.specs.Contents.{lock_in, thread_named}
use Rattle.velo_heap.specs.Steps.{is_holder, is_held_by, with_holder, with_sharer, without_sharer}
use Rattle.velo_heap.proofs.OnMasks.{mask_below-same, mask_below-set, mask_below-cleared, mask_below-some, is_in-mask_below}

-- ---- what the lock says of a thread

pub same_lock : (h h' : Option ThreadId) (s s' : ℕ) → h ≡ h' → s ≡ s' → ◌≡◌ {A = Lock} (record { holder = h; sharers = record { 0 = s } }) (record { holder = h'; sharers = record { 0 = s' } })
same_lock h h' s s' hh hs = rw (hh, hs) refl

named_again : (o : Option ℕ) (t : ℕ) → are_same (option_map (λ (h : ThreadId). h.0) (option_map thread_named o)) (Some t) ≡ are_same o (Some t)
named_again None t = refl
named_again (Some k) t = refl

module _ (bounds : Bounds) (trace : List Event) (facts : Facts bounds trace) (t : ThreadId) (m : ℕ) where
  abbrev lock : Lock
  lock = lock_in bounds.threads trace m

  pub is_holder-in : is_holder lock t ≡ are_same (holder_in trace m) (Some t.0)
  is_holder-in = named_again (holder_in trace m) t.0

  pub is_sharer-in : has_thread lock.sharers t.0 ≡ shares_in trace m t.0
  is_sharer-in = is_in-mask_below bounds.threads (shares_in trace m) t.0 (facts.sharer m t.0)

  pub is_held_by-in : is_held_by lock t ≡ holds trace t.0 m
  is_held_by-in = ap (λ b. b || has_thread lock.sharers t.0) is_holder-in ∙ ap (λ b. are_same (holder_in trace m) (Some t.0) || b) is_sharer-in

  -- of a lock that the thread does not hold
  others-hold : (o : Option ℕ) → IsFalse (are_same o (Some t.0)) → is_some (option_map thread_named o) ≡ is_another o t.0
  others-hold None h = refl
  others-hold (Some k) h = sym (ap not h)

  pub is_taken-in : IsFalse (holds trace t.0 m) → is_some lock.holder ≡ is_another (holder_in trace m) t.0
  is_taken-in free = others-hold (holder_in trace m) (or_parts _ _ free).0

  pub is_shared-in : IsFalse (holds trace t.0 m) → not (has_none lock.sharers) ≡ is_shared_beside bounds trace t.0 m
  unfolding is_shared_beside
  is_shared-in free =
      mask_below-some bounds.threads (shares_in trace m)
      ∙ any_below-same bounds.threads (shares_in trace m) (λ u. not (u == t.0) && shares_in trace m u)
      (λ u l. ⊎_elim
      (λ at. subst (λ k. shares_in trace m k ≡ (not (k == t.0) && shares_in trace m k)) (sym at)
      ((or_parts _ _ free).1 ∙ sym (and_right (not (t.0 == t.0)) _ (or_parts _ _ free).1)))
      (λ other. sym (ap (λ b. not b && shares_in trace m u) (ne_eqb u t.0 other)))
      (cases_eq u t.0))

-- ---- after one more event

module _ (n : ℕ) (trace : List Event) (by : ThreadId) where
  -- an event on no lock
  pub lock-kept : (k : Kind) (m : ℕ) → IsFalse (is_on_lock m (record { thread = by; kind = k })) → ((t : ℕ) → IsFalse (is_on_share m t (record { thread = by; kind = k }))) → lock_in n (trace ++ record { thread = by; kind = k } ∷ []) m ≡ lock_in n trace m
  lock-kept k m off unshared =
      let e : Event = record { thread = by; kind = k } in
      same_lock _ _ _ _
      (ap (option_map thread_named) (holder_in-push trace e m ∙ ap (λ b. if b then (if is_acquire k then Some by.0 else None) else holder_in trace m) off))
      (mask_below-same n (shares_in trace m) (shares_in (trace ++ e ∷ []) m) (λ t. shares_in-kept trace e m t (unshared t)))

  pub lock-no_lock : (k : Kind) (m : ℕ) → exclusive_lock_of k ≡ None → shared_lock_of k ≡ None → lock_in n (trace ++ record { thread = by; kind = k } ∷ []) m ≡ lock_in n trace m
  lock-no_lock k m none none_shared = lock-kept k m (ap (λ o. are_same o (Some m)) none) (λ t. and_right _ _ (ap (λ o. are_same o (Some m)) none_shared))

  -- an operation on another lock
  pub lock-elsewhere : (k : Kind) (l : LockId) (m : ℕ) → (exclusive_lock_of k ≡ Some l.0) × (shared_lock_of k ≡ None) → (m ≡ l.0 → ⊥) → lock_in n (trace ++ record { thread = by; kind = k } ∷ []) m ≡ lock_in n trace m
  lock-elsewhere k l m is differ = lock-kept k m (ap (λ o. are_same o (Some m)) is.0 ∙ ne_eqb l.0 m (λ s. differ (sym s))) (λ t. and_right _ _ (ap (λ o. are_same o (Some m)) is.1))

  pub lock-elsewhere-shared : (k : Kind) (l : LockId) (m : ℕ) → (exclusive_lock_of k ≡ None) × (shared_lock_of k ≡ Some l.0) → (m ≡ l.0 → ⊥) → lock_in n (trace ++ record { thread = by; kind = k } ∷ []) m ≡ lock_in n trace m
  lock-elsewhere-shared k l m is differ = lock-kept k m (ap (λ o. are_same o (Some m)) is.0) (λ t. and_right _ _ (ap (λ o. are_same o (Some m)) is.1 ∙ ne_eqb l.0 m (λ s. differ (sym s))))

  -- taken or given up alone
  pub lock-held : (k : Kind) (m : LockId) → exclusive_lock_of k ≡ Some m.0 → shared_lock_of k ≡ None → lock_in n (trace ++ record { thread = by; kind = k } ∷ []) m.0 ≡ with_holder (if is_acquire k then Some by else None) (lock_in n trace m.0)
  lock-held k m is unshared =
      let e : Event = record { thread = by; kind = k } in
      same_lock _ _ _ _
      (ap (option_map thread_named) (holder_in-push trace e m.0 ∙ ap (λ b. if b then (if is_acquire k then Some by.0 else None) else holder_in trace m.0) (ap (λ o. are_same o (Some m.0)) is ∙ eq-eqb m.0 m.0 refl))
      ∙ named (is_acquire k))
      (mask_below-same n (shares_in trace m.0) (shares_in (trace ++ e ∷ []) m.0) (λ t. shares_in-kept trace e m.0 t (and_right _ _ (ap (λ o. are_same o (Some m.0)) unshared))))
    where
      named : (b : Bool) → option_map thread_named (if b then Some by.0 else None) ≡ (if b then Some by else None)
      named true = refl
      named false = refl

  module _ (few : n ≤ 64) (within : by.0 < n) (m : LockId) where
    -- its share is taken
    pub lock-shared : lock_in n (trace ++ record { thread = by; kind = AcquireShared m } ∷ []) m.0 ≡ with_sharer by (lock_in n trace m.0)
    lock-shared =
        let e : Event = record { thread = by; kind = AcquireShared m } in
        same_lock _ _ _ _
        (ap (option_map thread_named) (holder_in-push trace e m.0))
        (sym (mask_below-set n few (shares_in trace m.0) (shares_in (trace ++ e ∷ []) m.0) by.0 within
        (λ t other. shares_in-kept trace e m.0 t (and_left _ _ (ne_eqb by.0 t (λ s. other (sym s)))))
        (shares_in-set trace e m.0 by.0 (and_from _ _ (eq-eqb by.0 by.0 refl) (eq-eqb m.0 m.0 refl)))))

    -- its share is given up
    pub lock-unshared : lock_in n (trace ++ record { thread = by; kind = ReleaseShared m } ∷ []) m.0 ≡ without_sharer by (lock_in n trace m.0)
    lock-unshared =
        let e : Event = record { thread = by; kind = ReleaseShared m } in
        same_lock _ _ _ _
        (ap (option_map thread_named) (holder_in-push trace e m.0))
        (sym (mask_below-cleared n few (shares_in trace m.0) (shares_in (trace ++ e ∷ []) m.0) by.0 within
        (λ t other. shares_in-kept trace e m.0 t (and_left _ _ (ne_eqb by.0 t (λ s. other (sym s)))))
        (shares_in-set trace e m.0 by.0 (and_from _ _ (eq-eqb by.0 by.0 refl) (eq-eqb m.0 m.0 refl)))))
