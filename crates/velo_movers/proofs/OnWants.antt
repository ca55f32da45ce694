-- Threads that want one action after another make a program, and what becomes of their tries depends on the heap alone.
use Rattle.std.proofs.Common.{◌≡◌, ℕ, ◌≤◌, Bool, not, List, [], ◌∷◌, ◌++◌, length, length-append, take, Option, Some, None, refl, sym, ap, ◌∙◌, subst, arith, ⊎_elim, inl, inr}
use Rattle.std.specs.Prelude.{◌==◌, ◌&&◌, ◌||◌, nat_le, nat_lt, if◌then◌else◌, slice_get}
use Rattle.std.proofs.Math.Seq.{take-append_seam}
use Rattle.std.proofs.lemmas.List.{take-append-le}
use Rattle.std.proofs.lemmas.Option.{slice_get_within, same_Some}
use Rattle.std.proofs.lemmas.Bool.{cases_lt}
use Rattle.velo_events.specs.declared.limits.TheConstants.{MAX_OPEN_BLOCKS}
use Rattle.velo_events.specs.declared.config.Bounds.{Bounds}
use Rattle.velo_events.specs.declared.event.Action.{Action}
use Rattle.velo_events.specs.declared.event.Event.{Event}
use Rattle.velo_events.specs.declared.event.Kind.{Kind}
use Rattle.velo_events.specs.declared.event.Kind.TheVariants.{Read, Acquire, Release, AcquireShared, ReleaseShared, Join}
use Rattle.velo_events.specs.declared.event.Status.{Status}
use Rattle.velo_events.specs.declared.refusal.Refusal.{Refusal}
use Rattle.velo_events.specs.declared.refusal.Refusal.TheVariants.{NotLive, NoSuchVariable, NoSuchLock, NoSuchThread, Busy, AlreadyHeld, NotHolder, NoOpenBlock, TooDeep, AlreadyForked, NotForked, NotExited, AlreadyJoined, BlockOpen, LockHeld}
use Rattle.velo_events.specs.Event.{are_same, thread_of, variable_of, lock_of, thread_forked, thread_joined, thread_forked_or_joined, is_begin, is_end, is_exit}
use Rattle.velo_events.specs.Heap.{status_in, depth_in, holder_in, shares_in}
use Rattle.velo_events.specs.Meaning.{kind_for, action_of, refusal_of, is_beyond, is_another, is_unborn, is_live, is_joined, holds, is_shared_beside, is_busy, is_held_already, is_unheld, status_is, holds_a_lock}
use Rattle.velo_events.proofs.OnTraces.{slice_get-append, slice_get-push}
use Rattle.velo_events.proofs.OnBlocks.{any_below-same}
use Rattle.velo_certify.specs.Reordered.{LeavesSameHeap}
use Rattle.velo_movers.specs.Programs.{own, IsProgram}
use Rattle.velo_movers.specs.Wants.{Does, AreWanted, refusal_at, IsRefused, IsStuck, HasRefusal}

-- ---- a program

module _ (wants : ℕ → List Event → Option Action) where
  pub last_wanted : (t : ℕ) (events : List Event) (e : Event) → Does wants t (events ++ e ∷ []) → wants t events ≡ Some (action_of e.kind)
  last_wanted t events e d = ap (wants t) (sym (take-append_seam events (e ∷ []))) ∙ d.each (length events) e (slice_get-push events e)

  pub IsProgram-wants : IsProgram (Does wants)
  IsProgram-wants = record {
    earlier = λ t events more d. record {
      by = λ i e h. d.by i e (slice_get-append events more i (slice_get_within events i e h) ∙ h);
      each = λ i e h.
          let l = slice_get_within events i e h in
          ap (wants t) (sym (take-append-le i events more (omega (arith, l)))) ∙ d.each i e (slice_get-append events more i l ∙ h);
    };
    next = λ t events e f d c. same_Some (action_of e.kind) (action_of f.kind) (sym (last_wanted t events e d) ∙ last_wanted t events f c);
  }

  -- one more event, of the action that is wanted
  pub Does-push : (t : ℕ) (events : List Event) (e : Event) → Does wants t events → thread_of e ≡ t → wants t events ≡ Some (action_of e.kind) → Does wants t (events ++ e ∷ [])
  Does-push t events e d own_e now = record {
    by = λ i f h. ⊎_elim
        (λ l. d.by i f (sym (slice_get-append events (e ∷ []) i l) ∙ h))
        (λ g. ap thread_of (sym (last i f h g)) ∙ own_e)
        (cases_lt i (length events));
    each = λ i f h. ⊎_elim
        (λ l. ap (wants t) (take-append-le i events (e ∷ []) (omega (arith, l))) ∙ d.each i f (sym (slice_get-append events (e ∷ []) i l) ∙ h))
        (λ g.
        ap (λ k. wants t (take k (events ++ e ∷ []))) (sym (here i f h g)) ∙ (ap (wants t) (take-append_seam events (e ∷ [])) ∙ (now ∙ ap (λ x. Some (action_of x.kind)) (last i f h g))))
        (cases_lt i (length events));
  }
    where
      here : (i : ℕ) (f : Event) → slice_get (events ++ e ∷ []) i ≡ Some f → length events ≤ i → length events ≡ i
      here i f h g = let l = slice_get_within (events ++ e ∷ []) i f h in let long = length-append events (e ∷ []) in omega (arith, g, l, long)

      last : (i : ℕ) (f : Event) → slice_get (events ++ e ∷ []) i ≡ Some f → length events ≤ i → e ≡ f
      last i f h g = same_Some e f (sym (slice_get-push events e) ∙ subst (λ k. slice_get (events ++ e ∷ []) k ≡ Some f) (sym (here i f h g)) h)

  pub AreWanted-does : AreWanted (Does wants) wants
  AreWanted-does = record {
    done = last_wanted;
    joins = λ t events v d now. Does-push t.0 events (record { thread = t; kind = Join v }) d refl now;
  }

-- ---- refusals after logs that leave the same heap

reason_step : (b c : Bool) (r : Refusal) (rest more : Option Refusal) → b ≡ c → rest ≡ more → (if b then Some r else rest) ≡ (if c then Some r else more)
reason_step b c r rest more same others = ap (λ x. if x then Some r else rest) same ∙ ap (λ o. if c then Some r else o) others

-- the same holders, sharers, statuses and depths
pub record StandsAlike (old new : List Event) : Type 0 where
  pub holders : (m : ℕ) → holder_in new m ≡ holder_in old m
  pub sharers : (m t : ℕ) → shares_in new m t ≡ shares_in old m t
  pub statuses : (t : ℕ) → status_in new t ≡ status_in old t
  pub depths : (t : ℕ) → depth_in new t ≡ depth_in old t

module _ (bounds : Bounds) (old new : List Event) (heap : StandsAlike old new) where
  has-same : (t m : ℕ) → holds new t m ≡ holds old t m
  has-same t m = ap (λ o. are_same o (Some t) || shares_in new m t) (heap.holders m) ∙ ap (λ b. are_same (holder_in old m) (Some t) || b) (heap.sharers m t)

  beside-same : (t m : ℕ) → is_shared_beside bounds new t m ≡ is_shared_beside bounds old t m
  unfolding is_shared_beside
  beside-same t m = any_below-same bounds.threads _ _ (λ u l. ap (λ b. not (u == t) && b) (heap.sharers m u))

  busy-same : (t : ℕ) (k : Kind) → is_busy bounds new t k ≡ is_busy bounds old t k
  busy-same t (Acquire m) =
      ap (λ b. not b && (is_another (holder_in new m.0) t || is_shared_beside bounds new t m.0)) (has-same t m.0)
      ∙ (ap (λ o. not (holds old t m.0) && (is_another o t || is_shared_beside bounds new t m.0)) (heap.holders m.0)
      ∙ ap (λ b. not (holds old t m.0) && (is_another (holder_in old m.0) t || b)) (beside-same t m.0))
  busy-same t (AcquireShared m) =
      ap (λ b. not b && is_another (holder_in new m.0) t) (has-same t m.0) ∙ ap (λ o. not (holds old t m.0) && is_another o t) (heap.holders m.0)
  busy-same t _ = refl

  already-same : (t : ℕ) (k : Kind) → is_held_already new t k ≡ is_held_already old t k
  already-same t (Acquire m) = has-same t m.0
  already-same t (AcquireShared m) = has-same t m.0
  already-same t _ = refl

  unheld-same : (t : ℕ) (k : Kind) → is_unheld new t k ≡ is_unheld old t k
  unheld-same t (Release m) = ap (λ o. not (are_same o (Some t))) (heap.holders m.0)
  unheld-same t (ReleaseShared m) = ap not (heap.sharers m.0 t)
  unheld-same t _ = refl

  status-same : (o : Option ℕ) (test : Status → Bool) → status_is new o test ≡ status_is old o test
  status-same (Some u) test = ap test (heap.statuses u)
  status-same None test = refl

  holds-same : (t : ℕ) → holds_a_lock bounds new t ≡ holds_a_lock bounds old t
  unfolding holds_a_lock
  holds-same t = any_below-same bounds.locks _ _ (λ m l. has-same t m)

  -- nothing else plays a part in what is refused
  pub refusal-same : (t : ℕ) (k : Kind) → refusal_of bounds new t k ≡ refusal_of bounds old t k
  unfolding refusal_of
  refusal-same t k =
      reason_step _ _ NotLive _ _ (ap (λ s. not (nat_lt t bounds.threads && is_live s)) (heap.statuses t))
      (reason_step (is_beyond (variable_of k) bounds.variables) _ NoSuchVariable _ _ refl
      (reason_step (is_beyond (lock_of k) bounds.locks) _ NoSuchLock _ _ refl
      (reason_step (is_beyond (thread_forked_or_joined k) bounds.threads) _ NoSuchThread _ _ refl
      (reason_step _ _ Busy _ _ (busy-same t k)
      (reason_step _ _ AlreadyHeld _ _ (already-same t k)
      (reason_step _ _ NotHolder _ _ (unheld-same t k)
      (reason_step _ _ NoOpenBlock _ _ (ap (λ d. is_end k && (d == 0)) (heap.depths t))
      (reason_step _ _ TooDeep _ _ (ap (λ d. is_begin k && nat_le MAX_OPEN_BLOCKS d) (heap.depths t))
      (reason_step _ _ AlreadyForked _ _ (status-same (thread_forked k) (λ s. not (is_unborn s)))
      (reason_step _ _ NotForked _ _ (status-same (thread_joined k) is_unborn)
      (reason_step _ _ NotExited _ _ (status-same (thread_joined k) is_live)
      (reason_step _ _ AlreadyJoined _ _ (status-same (thread_joined k) is_joined)
      (reason_step _ _ BlockOpen _ _ (ap (λ d. is_exit k && not (d == 0)) (heap.depths t))
      (reason_step _ _ LockHeld None None (ap (λ b. is_exit k && b) (holds-same t)) refl))))))))))))))

module _ (bounds : Bounds) (old new : List Event) (heap : LeavesSameHeap old new) where
  kind-same : (action : Action) → kind_for new action ≡ kind_for old action
  kind-same (Action.Read x) = ap (Read x) (heap.values x.0)
  kind-same (Action.Write x v) = refl
  kind-same (Action.Acquire m) = refl
  kind-same (Action.Release m) = refl
  kind-same (Action.AcquireShared m) = refl
  kind-same (Action.ReleaseShared m) = refl
  kind-same (Action.Begin l) = refl
  kind-same Action.End = refl
  kind-same (Action.Fork u) = refl
  kind-same (Action.Join u) = refl
  kind-same Action.Exit = refl

  refusal_at-same : (t : ℕ) (o : Option Action) → refusal_at bounds new t o ≡ refusal_at bounds old t o
  refusal_at-same t (Some action) =
      ap (refusal_of bounds new t) (kind-same action)
      ∙ refusal-same bounds old new (record { holders = heap.holders; sharers = heap.sharers; statuses = heap.statuses; depths = heap.depths }) t (kind_for old action)
  refusal_at-same t None = refl

  module _ (wants : ℕ → List Event → Option Action) (events : (t : ℕ) → own t old ≡ own t new) where
    pub IsRefused-same : (t : ℕ) (r : Refusal) → IsRefused bounds wants old t r → IsRefused bounds wants new t r
    IsRefused-same t r w = record {
      born = λ e. w.born (sym (heap.statuses t) ∙ e);
      refused = ap (λ es. refusal_at bounds new t (wants t es)) (sym (events t)) ∙ (refusal_at-same t (wants t (own t old)) ∙ w.refused);
    }

    pub IsStuck-same : IsStuck bounds wants old → IsStuck bounds wants new
    IsStuck-same w = record {
      waiting = w.waiting;
      reason = w.reason;
      waits = IsRefused-same w.waiting w.reason w.waits;
      is_waiting = w.is_waiting;
      each = λ t l. ⊎_elim
          (λ idle. inl (⊎_elim (λ none. inl (ap (wants t) (sym (events t)) ∙ none)) (λ unborn. inr (heap.statuses t ∙ unborn)) idle))
          (λ r. inr (r.0, IsRefused-same t r.0 r.1, r.2)) (w.each t l);
    }

    pub HasRefusal-same : HasRefusal bounds wants old → HasRefusal bounds wants new
    HasRefusal-same w = record { thread = w.thread; reason = w.reason; refused = IsRefused-same w.thread w.reason w.refused; no_wait = w.no_wait }
