-- The threads that a wanted thing leads to.
use Rattle.std.proofs.Common.{◌≡◌, ℕ, ◌<◌, ◌≤◌, ◌⊎◌, inl, inr, ⊎_elim, Bool, true, false, refl, sym, ap, ◌∙◌, subst, List, [], ◌∷◌, ◌++◌, arith}
use Rattle.std.specs.Prelude.{◌==◌, ◌||◌, Option, Some, None, IfSome, IsTrue, IsFalse, option_map, if◌then◌else◌, ◌↔◌}
use Rattle.std.proofs.lemmas.Bool.{eqb-true, eq-eqb, false≢true, or_cases, or_left, or_right}
use Rattle.std.proofs.lemmas.Option.{same_Some}
use Rattle.std.proofs.lemmas.Nat.Bits.{bit_at-zero}
use Rattle.velo_events.specs.declared.config.Bounds.{Bounds}
use Rattle.velo_events.specs.declared.event.Event.{Event}
use Rattle.velo_events.specs.declared.event.LockId.{LockId}
use Rattle.velo_events.specs.declared.event.ThreadId.{ThreadId}
use Rattle.velo_events.specs.declared.limits.TheConstants.{MAX_THREADS}
use Rattle.velo_events.specs.declared.thread_set.ThreadSet.{ThreadSet}
use Rattle.velo_events.specs.Event.{thread_of, is_acquire, is_on_lock}
use Rattle.velo_events.specs.Heap.{holder_in, shares_in, status_in, latest}
use Rattle.velo_events.specs.ThreadSets.{has_thread, no_threads}
use Rattle.velo_events.specs.WellFormed.{IsWellFormed, MayFollow}
use Rattle.velo_events.proofs.OnThreadSets.{up-with}
use Rattle.velo_events.proofs.OnWellFormed.{Facts-from, IsWellFormed-induct, holder_in-push}
use Rattle.velo_heap.specs.Contents.{set_below}
use Rattle.velo_heap.proofs.OnMasks.{is_in-mask_below}
use Rattle.velo_runtime.specs.declared.wait.Wanted.TheVariants.{Lock, LockShared, Thread}
use Rattle.velo_runtime.specs.Waits.{Leads, has_exited}
use Rattle.velo_runtime.specs.Leads.{set_of, AreLeads}

-- ---- one thread

pub no_member : (u : ℕ) → IsFalse (has_thread no_threads u)
no_member u = ap (λ n. n == 1) (bit_at-zero u)

pub set_of-is : (o : Option ThreadId) → IfSome o (λ t. t.0 < MAX_THREADS) → (u : ℕ) → IsTrue (has_thread (set_of o) u) ↔ (option_map (λ t. t.0) o ≡ Some u)
set_of-is None few u = (λ is. absurd (false≢true (sym (no_member u) ∙ is)), λ is. cc)
set_of-is (Some t) few u = (
  λ is. ap Some (eqb-true t.0 u (sym member ∙ is)),
  λ is. member ∙ eq-eqb t.0 u (same_Some t.0 u is),
)
  where
    nothing_more : (b : Bool) → (b || false) ≡ b
    nothing_more true = refl
    nothing_more false = refl

    member : has_thread (set_of (Some t)) u ≡ (t.0 == u)
    member = up-with 0 t.0 u few ∙ (ap (λ b. (t.0 == u) || b) (no_member u) ∙ nothing_more (t.0 == u))

-- ---- who holds a lock is there

no_holder : (m : ℕ) → holder_in [] m ≡ None
unfolding latest
no_holder m = refl

pub holder_there : (bounds : Bounds) (log : List Event) → IsWellFormed bounds log → (m t : ℕ) → holder_in log m ≡ Some t → t < bounds.threads
holder_there bounds log well = IsWellFormed-induct bounds (λ trace. (m t : ℕ) → holder_in trace m ≡ Some t → t < bounds.threads) (λ m t is. let none : None ≡ Some t = sym (no_holder m) ∙ is in cc) next log well
  where
    next : (earlier : List Event) (e : Event) → IsWellFormed bounds earlier → ((m t : ℕ) → holder_in earlier m ≡ Some t → t < bounds.threads) → MayFollow bounds earlier e → (m t : ℕ) → holder_in (earlier ++ e ∷ []) m ≡ Some t → t < bounds.threads
    next earlier e well before follows m t is = by (is_on_lock m e) (is_acquire e.kind) (sym (holder_in-push earlier e m) ∙ is)
      where
        by : (on acquires : Bool) → (if on then (if acquires then Some (thread_of e) else None) else holder_in earlier m) ≡ Some t → t < bounds.threads
        by true true h = let own : thread_of e ≡ t = same_Some (thread_of e) t h in omega (arith, own, follows.known_thread)
        by true false h = cc
        by false acquires h = before m t h

few_named : (o : Option ThreadId) (n : ℕ) → n ≤ 64 → ((t : ℕ) → option_map (λ t. t.0) o ≡ Some t → t < n) → IfSome o (λ t. t.0 < MAX_THREADS)
few_named None n few there = tt
few_named (Some t) n few there = let within = there t.0 refl in omega (arith, within, few)

pub holder_few : (bounds : Bounds) (log : List Event) (m : ℕ) (holder : Option ThreadId) → IsWellFormed bounds log → bounds.threads ≤ 64 → option_map (λ t. t.0) holder ≡ holder_in log m → IfSome holder (λ t. t.0 < MAX_THREADS)
holder_few bounds log m holder well few held = few_named holder bounds.threads few (λ t is. holder_there bounds log well m t (sym held ∙ is))

-- ---- what a wanted thing leads to

module _ (bounds : Bounds) (log : List Event) (m : LockId) (holder : Option ThreadId) (well : IsWellFormed bounds log) (few : bounds.threads ≤ 64) (held : option_map (λ t. t.0) holder ≡ holder_in log m.0) where
  alone : (t : ℕ) → IsTrue (has_thread (set_of holder) t) ↔ (holder_in log m.0 ≡ Some t)
  alone t =
      let is = set_of-is holder (holder_few bounds log m.0 holder well few held) t in
      (λ member. sym held ∙ is.0 member, λ holds. is.1 (held ∙ holds))

  -- a lock that is wanted alone: to the sharers and the holder
  pub AreLeads-lock : (sharers threads : ThreadSet) → sharers ≡ set_below bounds.threads (shares_in log m.0) → ((u : ℕ) → has_thread threads u ≡ (has_thread sharers u || has_thread (set_of holder) u)) → AreLeads log (Lock m) threads
  AreLeads-lock sharers threads shared members = record {
    each = λ t is. ⊎_elim
        (λ shares. inr (sym (share t) ∙ subst (λ (s : ThreadSet). IsTrue (has_thread s t)) shared shares))
        (λ holds. inl ((alone t).0 holds))
        (or_cases (has_thread sharers t) (has_thread (set_of holder) t) (sym (members t) ∙ is));
    every = λ t lead. members t ∙ ⊎_elim
        (λ holds. or_right (has_thread sharers t) (has_thread (set_of holder) t) ((alone t).1 holds))
        (λ shares. or_left (has_thread sharers t) (has_thread (set_of holder) t) (subst (λ (s : ThreadSet). IsTrue (has_thread s t)) (sym shared) (share t ∙ shares)))
        lead;
  }
    where
      share : (t : ℕ) → has_thread (set_below bounds.threads (shares_in log m.0)) t ≡ shares_in log m.0 t
      share t = is_in-mask_below bounds.threads (shares_in log m.0) t ((Facts-from bounds log well).sharer m.0 t)

  -- one that is wanted shared: to the holder
  pub AreLeads-lock_shared : AreLeads log (LockShared m) (set_of holder)
  AreLeads-lock_shared = record { each = λ t is. (alone t).0 is; every = λ t lead. (alone t).1 lead }

pub AreLeads-thread : (log : List Event) (u : ThreadId) → u.0 < 64 → IsFalse (has_exited (status_in log u.0)) → AreLeads log (Thread u) (set_of (Some u))
AreLeads-thread log u few unfinished = record {
  each = λ t is. (sym (same_Some u.0 t ((set_of-is (Some u) few t).0 is)), unfinished);
  every = λ t lead. (set_of-is (Some u) few t).1 (ap Some (sym lead.0));
}
