-- That a thread is refused goes along where an event is brought forward, and stays where a free event of another thread follows.
use Rattle.std.proofs.Common.{◌≡◌, ◌≢◌, ℕ, Bool, true, false, cond, not, List, [], ◌∷◌, ◌++◌, Option, Some, None, refl, sym, ap, ◌∙◌, subst, ⊎_elim}
use Rattle.std.specs.Prelude.{◌==◌, ◌&&◌, nat_le, nat_lt, if◌then◌else◌, IsTrue, IsFalse}
use Rattle.std.proofs.lemmas.Bool.{cases_Bool, cases_eq, and_left, and_parts, and_from, or_left, or_right, or_cases, or_parts, not-true, not_from_true, not_from_false, eqb-true, eq-eqb, ne_eqb, false≢true, false_from_ne_true, both_ways}
use Rattle.std.proofs.lemmas.Option.{none-some, same_Some}
use Rattle.velo_events.specs.declared.limits.TheConstants.{MAX_OPEN_BLOCKS}
use Rattle.velo_events.specs.declared.config.Bounds.{Bounds}
use Rattle.velo_events.specs.declared.event.Action.{Action}
use Rattle.velo_events.specs.declared.event.Event.{Event}
use Rattle.velo_events.specs.declared.event.ThreadId.{ThreadId}
use Rattle.velo_events.specs.declared.event.Kind.TheVariants.{Acquire, AcquireShared, Join}
use Rattle.velo_events.specs.declared.event.Status.TheVariants.{Unborn, Joined}
use Rattle.velo_events.specs.declared.refusal.Refusal.{Refusal}
use Rattle.velo_events.specs.declared.refusal.Refusal.TheVariants.{AlreadyHeld, AlreadyJoined}
use Rattle.velo_events.specs.Event.{are_same, thread_of, is_by, is_acquire, is_on_lock, is_on_share, is_begin_by, is_end_by, is_fork_of, is_join_of, is_exit_by}
use Rattle.velo_events.specs.Block.{any_below}
use Rattle.velo_events.specs.Heap.{happened, times, status_in, depth_in, holder_in, shares_in, was_born}
use Rattle.velo_events.specs.Meaning.{kind_for, refusal_of, is_another, is_unborn, is_live, is_joined, holds, is_busy, holds_a_lock}
use Rattle.velo_events.specs.WellFormed.{MayFollow, IsWellFormed}
use Rattle.velo_events.proofs.OnBlocks.{any_below-at, any_below-some}
use Rattle.velo_events.proofs.OnTraces.{happened-push, times-no}
use Rattle.velo_events.proofs.OnStatuses.{status_by, is_Live, is_Unborn, live-before, unborn-before, unborn-same, forked-before}
use Rattle.velo_events.proofs.OnWellFormed.{holder_in-push, shares_in-kept}
use Rattle.velo_movers.specs.Programs.{own, IsProgram, IsLog, IsNever}
use Rattle.velo_movers.specs.Free.{are_twins, IsFree, GoesAlong}
use Rattle.velo_movers.specs.Wants.{AreWanted, refusal_at, IsRefused, HasRefusal, is_wait}
use Rattle.velo_movers.proofs.OnFree.{free-now}
use Rattle.velo_movers.proofs.OnHolders.{own-push_no, held-stays}
use Rattle.velo_movers.proofs.OnMoves.{LeavesSameHeap-forward}
use Rattle.velo_movers.proofs.OnRules.{own-forward, IsLog-before, rule_of_one}
use Rattle.velo_movers.proofs.OnWants.{HasRefusal-same}
use Rattle.velo_movers.proofs.OnStuck.{due_follows, due-not_refused}

-- ---- the first reason, and whether it is a wait

-- there is a reason, and it is no wait
record Refuses (o : Option Refusal) : Type 0 where
  reason : Refusal
  is : o ≡ Some reason
  no_wait : IsFalse (is_wait reason)

refuses-none : {X : Type 0} → Refuses None → X
refuses-none w = absurd (none-some w.reason w.is)

-- a reason that is no wait, and applies where it did
refuses-first : (b c : Bool) (r : Refusal) (rest more : Option Refusal) → IsFalse (is_wait r) → (IsTrue b → IsTrue c) → (Refuses rest → Refuses more) → Refuses (if b then Some r else rest) → Refuses (if c then Some r else more)
refuses-first true c r rest more no_wait first others w = record { reason = r; is = ap (λ x. if x then Some r else more) (first refl); no_wait = no_wait }
refuses-first false true r rest more no_wait first others w = record { reason = r; is = refl; no_wait = no_wait }
refuses-first false false r rest more no_wait first others w = others w

-- a wait that does not apply where a later reason does
refuses-wait : (b c : Bool) (r : Refusal) (rest more : Option Refusal) → IsTrue (is_wait r) → (Refuses rest → IsFalse c × Refuses more) → Refuses (if b then Some r else rest) → Refuses (if c then Some r else more)
refuses-wait true c r rest more waits others w = absurd (both_ways _ w.no_wait (ap is_wait (sym (same_Some r w.reason w.is)) ∙ waits))
refuses-wait false c r rest more waits others w = let v = others w in subst (λ x. Refuses (if x then Some r else more)) (sym v.0) v.1

-- the last reason
refuses-last : (b c : Bool) (r : Refusal) → IsFalse (is_wait r) → (IsTrue b → IsTrue c) → Refuses (if b then Some r else None) → Refuses (if c then Some r else None)
refuses-last b c r no_wait first w = refuses-first b c r None None no_wait first (λ v. v) w

-- it applies
refuses-is : (b : Bool) (r : Refusal) → Refuses (if b then Some r else None) → IsTrue b
refuses-is true r w = refl
refuses-is false r w = refuses-none w

-- ---- holders and statuses

is_holder : (o : Option ℕ) (t : ℕ) → IsTrue (are_same o (Some t)) → o ≡ Some t
is_holder None t h = absurd (false≢true h)
is_holder (Some k) t h = ap Some (eqb-true k t h)

joined_parts : (j x b : Bool) → IsTrue (is_joined (status_by j x b)) → IsTrue j
joined_parts true x b h = refl
joined_parts false true b h = absurd (false≢true h)
joined_parts false false true h = absurd (false≢true h)
joined_parts false false false h = absurd (false≢true h)

-- ---- after an event of another thread

module _ (bounds : Bounds) (wants : ℕ → List Event → Option Action) (log : List Event) (e : Event) (u : ThreadId) (well : IsWellFormed bounds log) (due : MayFollow bounds log e) (other : thread_of e ≢ u.0) (born : status_in log u.0 ≢ Unborn) where
  abbrev after : List Event
  after = log ++ e ∷ []

  not_own : IsFalse (is_by u.0 e)
  not_own = ne_eqb (thread_of e) u.0 other

  not_live_stays : IsTrue (not (nat_lt u.0 bounds.threads && is_live (status_in log u.0))) → IsTrue (not (nat_lt u.0 bounds.threads && is_live (status_in after u.0)))
  not_live_stays h = not_from_false _ (false_from_ne_true _ (λ now.
      let p = and_parts _ _ now in
      let not_forked : IsFalse (is_fork_of u.0 e) = false_from_ne_true _ (λ fork. born (is_Unborn (status_in log u.0) (forked-before bounds log e u.0 well due fork))) in
      both_ways _ (not-true _ h) (and_from _ _ p.0 (ap is_live (live-before log e u.0 (is_Live (status_in after u.0) p.1) not_forked)))))

  same_depth : depth_in after u.0 ≡ depth_in log u.0
  same_depth =
      let begins : times (is_begin_by u.0) after ≡ times (is_begin_by u.0) log = times-no (is_begin_by u.0) log e (and_left _ _ not_own) in
      let ends : times (is_end_by u.0) after ≡ times (is_end_by u.0) log = times-no (is_end_by u.0) log e (and_left _ _ not_own) in
      rw (begins, ends) refl

  holder_before : (m : ℕ) → holder_in after m ≡ Some u.0 → holder_in log m ≡ Some u.0
  holder_before m h = ⊎_elim
      (λ on. absurd (taken (is_acquire e.kind) (sym (ap (λ b. cond b (cond (is_acquire e.kind) (Some (thread_of e)) None) (holder_in log m)) on) ∙ (sym (holder_in-push log e m) ∙ h))))
      (λ off. sym (ap (λ b. cond b (cond (is_acquire e.kind) (Some (thread_of e)) None) (holder_in log m)) off) ∙ (sym (holder_in-push log e m) ∙ h))
      (cases_Bool (is_on_lock m e))
    where
      taken : (b : Bool) → cond b (Some (thread_of e)) None ≡ Some u.0 → ⊥
      taken true is = other (same_Some (thread_of e) u.0 is)
      taken false is = none-some u.0 is

  same_share : (m : ℕ) → shares_in after m u.0 ≡ shares_in log m u.0
  same_share m = shares_in-kept log e m u.0 (and_left _ _ not_own)

  holds_stays : (m : ℕ) → IsTrue (holds log u.0 m) → IsTrue (holds after u.0 m)
  holds_stays m h = ⊎_elim
      (λ alone. or_left (are_same (holder_in after m) (Some u.0)) (shares_in after m u.0)
      (ap (λ (o : Option ℕ). are_same o (Some u.0)) (held-stays bounds log e u.0 m other (is_holder (holder_in log m) u.0 alone) due) ∙ eq-eqb u.0 u.0 refl))
      (λ shared. or_right (are_same (holder_in after m) (Some u.0)) (shares_in after m u.0) (same_share m ∙ shared))
      (or_cases (are_same (holder_in log m) (Some u.0)) (shares_in log m u.0) h)

  joined_stays : (v : ℕ) → IsTrue (is_joined (status_in log v)) → status_in after v ≡ Joined
  joined_stays v h =
      let joined : IsTrue (happened (is_join_of v) after) = happened-push (is_join_of v) log e ∙ or_left _ _ (joined_parts (happened (is_join_of v) log) (happened (is_exit_by v) log) (was_born log v) h) in
      ap (λ b. status_by b (happened (is_exit_by v) after) (was_born after v)) joined

  -- what refuses the thread's action refuses it then
  stays : (action : Action) → ((v : ThreadId) → action ≡ Action.Join v → IsFalse (are_twins e.kind (Join v))) → Refuses (refusal_of bounds log u.0 (kind_for log action)) → Refuses (refusal_of bounds after u.0 (kind_for after action))
  unfolding refusal_of holds_a_lock
  stays (Action.Read x) single h = refuses-first _ _ _ _ _ refl not_live_stays (λ w. w) h
  stays (Action.Write x v) single h = refuses-first _ _ _ _ _ refl not_live_stays (λ w. w) h
  stays (Action.Acquire m) single h = refuses-first _ _ _ _ _ refl not_live_stays (refuses-first _ _ _ _ _ refl (λ k. k) (refuses-wait _ _ _ _ _ refl held)) h
    where
      held : Refuses (if holds log u.0 m.0 then Some AlreadyHeld else None) → IsFalse (is_busy bounds after u.0 (Acquire m)) × Refuses (if holds after u.0 m.0 then Some AlreadyHeld else None)
      held w = let now = holds_stays m.0 (refuses-is _ _ w) in (and_left _ _ (not_from_true _ now), refuses-last _ _ _ refl (λ has. now) w)
  stays (Action.AcquireShared m) single h = refuses-first _ _ _ _ _ refl not_live_stays (refuses-first _ _ _ _ _ refl (λ k. k) (refuses-wait _ _ _ _ _ refl held)) h
    where
      held : Refuses (if holds log u.0 m.0 then Some AlreadyHeld else None) → IsFalse (is_busy bounds after u.0 (AcquireShared m)) × Refuses (if holds after u.0 m.0 then Some AlreadyHeld else None)
      held w = let now = holds_stays m.0 (refuses-is _ _ w) in (and_left _ _ (not_from_true _ now), refuses-last _ _ _ refl (λ has. now) w)
  stays (Action.ReleaseShared m) single h = refuses-first _ _ _ _ _ refl not_live_stays (refuses-first _ _ _ _ _ refl (λ k. k)
      (refuses-last _ _ _ refl (λ lacks. ap not (same_share m.0) ∙ lacks))) h
  stays (Action.Release m) single h = refuses-first _ _ _ _ _ refl not_live_stays (refuses-first _ _ _ _ _ refl (λ k. k) (refuses-last _ _ _ refl lacks)) h
    where
      lacks : IsTrue (not (are_same (holder_in log m.0) (Some u.0))) → IsTrue (not (are_same (holder_in after m.0) (Some u.0)))
      lacks w = not_from_false _ (false_from_ne_true _ (λ now.
          both_ways _ (not-true _ w) (ap (λ (o : Option ℕ). are_same o (Some u.0)) (holder_before m.0 (is_holder (holder_in after m.0) u.0 now)) ∙ eq-eqb u.0 u.0 refl)))
  stays (Action.Begin l) single h = refuses-first _ _ _ _ _ refl not_live_stays (refuses-last _ _ _ refl (λ deep. ap (nat_le MAX_OPEN_BLOCKS) same_depth ∙ deep)) h
  stays Action.End single h = refuses-first _ _ _ _ _ refl not_live_stays (refuses-last _ _ _ refl (λ flat. ap (λ d. d == 0) same_depth ∙ flat)) h
  stays (Action.Fork v) single h = refuses-first _ _ _ _ _ refl not_live_stays (refuses-first _ _ _ _ _ refl (λ k. k)
      (refuses-last _ _ _ refl (λ forked. not_from_false _ (false_from_ne_true _ (λ now. both_ways _ (not-true _ forked) (unborn-before log e v.0 now).0))))) h
  stays (Action.Join v) single h = refuses-first _ _ _ _ _ refl not_live_stays (refuses-first _ _ _ _ _ refl (λ k. k)
      (refuses-first _ _ _ _ _ refl (λ unborn. unborn-same bounds log e v.0 due (or_parts _ _ (single v refl)).1 ∙ unborn)
      (refuses-wait _ _ _ _ _ refl joined))) h
    where
      joined : Refuses (if is_joined (status_in log v.0) then Some AlreadyJoined else None) → IsFalse (is_live (status_in after v.0)) × Refuses (if is_joined (status_in after v.0) then Some AlreadyJoined else None)
      joined w = let now = joined_stays v.0 (refuses-is _ _ w) in (ap is_live now, refuses-last _ _ _ refl (λ was. ap is_joined now) w)
  stays Action.Exit single h = refuses-first _ _ _ _ _ refl not_live_stays (refuses-first _ _ _ _ _ refl (λ opened. ap (λ d. not (d == 0)) same_depth ∙ opened)
      (refuses-last _ _ _ refl still)) h
    where
      still : IsTrue (any_below bounds.locks (holds log u.0)) → IsTrue (any_below bounds.locks (holds after u.0))
      still w = let m = any_below-some bounds.locks (holds log u.0) w in any_below-at bounds.locks (holds after u.0) m.0 m.1 (holds_stays m.0 m.2)

-- ---- the rule

module _ (bounds : Bounds) (May : ℕ → List Event → Type 0) (program : IsProgram May) (wants : ℕ → List Event → Option Action) (are : AreWanted May wants) where
  module _ (log : List Event) (e : Event) (free : IsFree bounds May log e) (next : IsLog bounds May (log ++ e ∷ [])) where
    refusal_stays : (t : ℕ) (r : Refusal) → IsRefused bounds wants log t r → IsFalse (is_wait r) → thread_of e ≢ t → (o : Option Action) → wants t (own t log) ≡ o → HasRefusal bounds wants (log ++ e ∷ [])
    refusal_stays t r w no_wait other None is = absurd (none-some _ (sym (ap (refusal_at bounds log t) is) ∙ w.refused))
    refusal_stays t r w no_wait other (Some action) is =
        let u : ThreadId = record { 0 = t } in
        let due = due_follows bounds May program wants are log e next in
        let all = IsLog-before bounds May program log (e ∷ []) next in
        let before : Refuses (refusal_of bounds log t (kind_for log action)) = record { reason = r; is = sym (ap (refusal_at bounds log t) is) ∙ w.refused; no_wait = no_wait } in
        let single : ((v : ThreadId) → action ≡ Action.Join v → IsFalse (are_twins e.kind (Join v))) = λ v same.
        (free-now bounds May log e free (record { thread = u; kind = Join v }) (λ h. other (sym h)) all w.born
        (are.joins u (own t log) v (all.each t) (is ∙ ap Some same))).1 in
        let now = stays bounds wants log e u all.well due other w.born action single before in
        record {
          thread = t;
          reason = now.reason;
          refused = record {
            born = λ unborn. w.born (is_Unborn (status_in log t) (unborn-before log e t (ap is_unborn unborn)).0);
            refused = ap (λ es. refusal_at bounds (log ++ e ∷ []) t (wants t es)) (own-push_no t log e (ne_eqb (thread_of e) t other)) ∙ (ap (refusal_at bounds (log ++ e ∷ []) t) is ∙ now.is);
          };
          no_wait = now.no_wait;
        }

    HasRefusal-follows : HasRefusal bounds wants log → HasRefusal bounds wants (log ++ e ∷ [])
    HasRefusal-follows w = ⊎_elim
        (λ same. absurd (due-not_refused bounds May program wants are log e next w.reason (subst (λ t. IsRefused bounds wants log t w.reason) (sym same) w.refused)))
        (λ other. refusal_stays w.thread w.reason w.refused w.no_wait other (wants w.thread (own w.thread log)) refl)
        (cases_eq (thread_of e) w.thread)

  pub HasRefusal-goes_along : GoesAlong bounds May (HasRefusal bounds wants)
  HasRefusal-goes_along = record {
    forward = λ log stretch e rest apart all w.
        HasRefusal-same bounds (log ++ (stretch ++ e ∷ rest)) (log ++ e ∷ (stretch ++ rest)) (LeavesSameHeap-forward log stretch e rest apart) wants (own-forward log stretch e rest apart) w;
    follow = λ log e free next w. HasRefusal-follows log e free next w;
  }

  -- In no trace that goes on from the log is a thread refused, where in none is that goes on from it with a free event
  pub no_refusal-rule_of_one : (log : List Event) (e : Event) → IsLog bounds May (log ++ e ∷ []) → IsFree bounds May log e → IsNever bounds May (HasRefusal bounds wants) (log ++ e ∷ []) → IsNever bounds May (HasRefusal bounds wants) log
  no_refusal-rule_of_one = rule_of_one bounds May program (HasRefusal bounds wants) HasRefusal-goes_along
