-- Who holds a lock: it is held while its holder does nothing, and a thread that has taken it by its own events holds it.
use Rattle.std.proofs.Common.{◌≡◌, ◌≢◌, ℕ, ◌+◌, Bool, true, false, cond, arith, List, [], ◌∷◌, ◌++◌, Option, Some, None, refl, sym, ap, ◌∙◌, subst, ⊎_elim}
use Rattle.std.specs.Prelude.{◌==◌, ◌&&◌, ◌||◌, IsTrue, IsFalse}
use Rattle.std.proofs.lemmas.List.{append-nil}
use Rattle.std.proofs.lemmas.List.Elements.{filter-append}
use Rattle.std.proofs.lemmas.Bool.{cases_Bool, and_left, and_right, and_parts, eqb-true, eq-eqb, ne_eqb, false≢true, both_ways}
use Rattle.velo_events.specs.declared.config.Bounds.{Bounds}
use Rattle.velo_events.specs.declared.event.Event.{Event}
use Rattle.velo_events.specs.declared.event.Kind.{Kind}
use Rattle.velo_events.specs.declared.event.Kind.TheVariants.{Read, Write, Acquire, Release, AcquireShared, ReleaseShared, Begin, End, Fork, Join, Exit}
use Rattle.velo_events.specs.Event.{are_same, thread_of, exclusive_lock_of, shared_lock_of, access_of, cell_of, is_exclusive, is_by, is_acquire, is_acquire_shared, is_on_lock, is_on_share}
use Rattle.velo_events.specs.Heap.{latest, holder_in, shares_in}
use Rattle.velo_events.specs.WellFormed.{IsInTurn, MayFollow, IsWellFormed}
use Rattle.velo_events.proofs.OnWellFormed.{IsWellFormed-induct, holder_in-push, shares_in-push, shares_in-kept, shares_in-set}
use Rattle.velo_movers.specs.Programs.{own}
use Rattle.velo_movers.specs.Free.{do_clash, gives_up}

-- ---- the own events of a longer trace

pub own-push_yes : (t : ℕ) (log : List Event) (g : Event) → IsTrue (is_by t g) → own t (log ++ g ∷ []) ≡ own t log ++ g ∷ []
own-push_yes t log g h = filter-append (is_by t) log (g ∷ []) ∙ ap (λ b. own t log ++ cond b (g ∷ []) []) h

pub own-push_no : (t : ℕ) (log : List Event) (g : Event) → IsFalse (is_by t g) → own t (log ++ g ∷ []) ≡ own t log
own-push_no t log g h = filter-append (is_by t) log (g ∷ []) ∙ (ap (λ b. own t log ++ cond b (g ∷ []) []) h ∙ append-nil (own t log))

-- ---- holders

pub one_holder : (o : Option ℕ) (t u : ℕ) → o ≡ Some t → o ≡ Some u → t ≡ u
one_holder o t u h k = eqb-true t u (ap (λ (p : Option ℕ). are_same p (Some u)) (sym h ∙ k) ∙ eq-eqb u u refl)

pub some_holder : (o : Option ℕ) (t : ℕ) → o ≡ Some t → o ≡ None → ⊥
some_holder o t h k = false≢true (ap (λ (p : Option ℕ). are_same p (Some t)) (sym k ∙ h) ∙ eq-eqb t t refl)

-- no other thread operates on a lock that is held
pub held-not_touched : (log : List Event) (u t m : ℕ) (k : Kind) → u ≢ t → holder_in log m ≡ Some t → IsInTurn log u k → IsFalse (are_same (exclusive_lock_of k) (Some m))
held-not_touched log u t m (Acquire n) other held turn = ne_eqb n.0 m (λ e. some_holder (holder_in log m) t held (subst (λ i. holder_in log i ≡ None) e turn.0))
held-not_touched log u t m (Release n) other held turn = ne_eqb n.0 m (λ e. other (one_holder (holder_in log m) u t (subst (λ i. holder_in log i ≡ Some u) e turn) held))
held-not_touched log u t m _ other held turn = refl

-- so it is held after the event of another thread
pub held-stays : (bounds : Bounds) (log : List Event) (g : Event) (t m : ℕ) → thread_of g ≢ t → holder_in log m ≡ Some t → MayFollow bounds log g → holder_in (log ++ g ∷ []) m ≡ Some t
held-stays bounds log g t m other held follows =
    holder_in-push log g m
    ∙ (ap (λ b. cond b (cond (is_acquire g.kind) (Some (thread_of g)) None) (holder_in log m)) (held-not_touched log (thread_of g) t m g.kind other held follows.in_turn) ∙ held)

-- A thread that has the lock by its own events holds it
pub holder-by_own : (bounds : Bounds) (t m : ℕ) (log : List Event) → IsWellFormed bounds log → holder_in (own t log) m ≡ Some t → holder_in log m ≡ Some t
holder-by_own bounds t m = IsWellFormed-induct bounds (λ log. holder_in (own t log) m ≡ Some t → holder_in log m ≡ Some t) (λ h. h) next
  where
    next : (log : List Event) (g : Event) → IsWellFormed bounds log → (holder_in (own t log) m ≡ Some t → holder_in log m ≡ Some t) → MayFollow bounds log g → holder_in (own t (log ++ g ∷ [])) m ≡ Some t → holder_in (log ++ g ∷ []) m ≡ Some t
    next log g well before follows h = ⊎_elim
        (λ its. ⊎_elim
        (λ on. holder_in-push log g m ∙ (ap (λ b. cond b (cond (is_acquire g.kind) (Some (thread_of g)) None) (holder_in log m)) on
        ∙ (sym (ap (λ b. cond b (cond (is_acquire g.kind) (Some (thread_of g)) None) (holder_in (own t log) m)) on) ∙ (sym (holder_in-push (own t log) g m) ∙ at_own its))))
        (λ off. holder_in-push log g m ∙ (ap (λ b. cond b (cond (is_acquire g.kind) (Some (thread_of g)) None) (holder_in log m)) off
        ∙ before (sym (ap (λ b. cond b (cond (is_acquire g.kind) (Some (thread_of g)) None) (holder_in (own t log) m)) off) ∙ (sym (holder_in-push (own t log) g m) ∙ at_own its))))
        (cases_Bool (is_on_lock m g)))
        (λ not_its. held-stays bounds log g t m (λ e. both_ways _ not_its (eq-eqb (thread_of g) t e)) (before (ap (λ es. holder_in es m) (sym (own-push_no t log g not_its)) ∙ h)) follows)
        (cases_Bool (is_by t g))
      where
        at_own : IsTrue (is_by t g) → holder_in (own t log ++ g ∷ []) m ≡ Some t
        at_own its = ap (λ es. holder_in es m) (sym (own-push_yes t log g its)) ∙ h

-- ---- shares

on_lock : (log : List Event) (s m : ℕ) (k : Kind) → IsTrue (are_same (exclusive_lock_of k) (Some m)) → IsInTurn log s k → IsTrue (is_acquire k) → (u : ℕ) → IsFalse (shares_in log m u)
on_lock log s m (Acquire n) on turn takes u = subst (λ i. IsFalse (shares_in log i u)) (eqb-true n.0 m on) (turn.1 u)
on_lock log s m _ on turn takes u = absurd (false≢true takes)

on_share : (log : List Event) (s m : ℕ) (k : Kind) → IsTrue (are_same (shared_lock_of k) (Some m)) → IsInTurn log s k → IsTrue (is_acquire_shared k) → holder_in log m ≡ None
on_share log s m (AcquireShared n) on turn takes = subst (λ i. holder_in log i ≡ None) (eqb-true n.0 m on) turn.0
on_share log s m _ on turn takes = absurd (false≢true takes)

not_shared : (k : Kind) (m : ℕ) → IsTrue (are_same (exclusive_lock_of k) (Some m)) → IsFalse (are_same (shared_lock_of k) (Some m))
not_shared (Acquire n) m on = refl
not_shared (Release n) m on = refl
not_shared _ m on = absurd (false≢true on)

-- a lock that is held alone is shared by nobody
pub held-unshared : (bounds : Bounds) (m : ℕ) (log : List Event) → IsWellFormed bounds log → (t : ℕ) → holder_in log m ≡ Some t → (u : ℕ) → IsFalse (shares_in log m u)
unfolding latest
held-unshared bounds m = IsWellFormed-induct bounds (λ log. (t : ℕ) → holder_in log m ≡ Some t → (u : ℕ) → IsFalse (shares_in log m u)) start next
  where
    start : (t : ℕ) → holder_in [] m ≡ Some t → (u : ℕ) → IsFalse (shares_in [] m u)
    start t h u = refl

    next : (log : List Event) (g : Event) → IsWellFormed bounds log → ((t : ℕ) → holder_in log m ≡ Some t → (u : ℕ) → IsFalse (shares_in log m u)) → MayFollow bounds log g → (t : ℕ) → holder_in (log ++ g ∷ []) m ≡ Some t → (u : ℕ) → IsFalse (shares_in (log ++ g ∷ []) m u)
    next log g well before follows t h u = ⊎_elim
        (λ on. ⊎_elim
        (λ takes. shares_in-kept log g m u (and_right (is_by u g) _ (not_shared g.kind m on)) ∙ on_lock log (thread_of g) m g.kind on follows.in_turn takes u)
        (λ gives. absurd (some_holder (holder_in (log ++ g ∷ []) m) t h
        (holder_in-push log g m ∙ (ap (λ b. cond b (cond (is_acquire g.kind) (Some (thread_of g)) None) (holder_in log m)) on ∙ ap (λ b. cond b (Some (thread_of g)) None) gives))))
        (cases_Bool (is_acquire g.kind)))
        (λ off.
        let held : holder_in log m ≡ Some t = sym (ap (λ b. cond b (cond (is_acquire g.kind) (Some (thread_of g)) None) (holder_in log m)) off) ∙ (sym (holder_in-push log g m) ∙ h) in
        ⊎_elim
        (λ on. ⊎_elim
        (λ takes. absurd (some_holder (holder_in log m) t held (on_share log (thread_of g) m g.kind (and_parts (is_by u g) _ on).1 follows.in_turn takes)))
        (λ gives. shares_in-set log g m u on ∙ gives)
        (cases_Bool (is_acquire_shared g.kind)))
        (λ kept. shares_in-kept log g m u kept ∙ before t held u)
        (cases_Bool (is_on_share m u g)))
        (cases_Bool (is_on_lock m g))

-- what a thread shares it shares by its own events
pub shares-by_own : (bounds : Bounds) (t m : ℕ) (log : List Event) → IsWellFormed bounds log → shares_in (own t log) m t ≡ shares_in log m t
unfolding latest
shares-by_own bounds t m = IsWellFormed-induct bounds (λ log. shares_in (own t log) m t ≡ shares_in log m t) refl next
  where
    next : (log : List Event) (g : Event) → IsWellFormed bounds log → shares_in (own t log) m t ≡ shares_in log m t → MayFollow bounds log g → shares_in (own t (log ++ g ∷ [])) m t ≡ shares_in (log ++ g ∷ []) m t
    next log g well before follows = ⊎_elim
        (λ its. ap (λ es. shares_in es m t) (own-push_yes t log g its)
        ∙ (shares_in-push (own t log) g m t ∙ (ap (λ b. cond (is_on_share m t g) (is_acquire_shared g.kind) b) before ∙ sym (shares_in-push log g m t))))
        (λ not_its. ap (λ es. shares_in es m t) (own-push_no t log g not_its) ∙ (before ∙ sym (shares_in-kept log g m t (and_left _ _ not_its))))
        (cases_Bool (is_by t g))

-- ---- who has a lock keeps it from others

-- alone: no other thread operates on it
pub alone-untouched : (bounds : Bounds) (log : List Event) → IsWellFormed bounds log → (t u m : ℕ) (l : Kind) → u ≢ t → holder_in log m ≡ Some t → IsInTurn log u l → IsFalse (are_same (Some (m + m + 1)) (cell_of (access_of l)))
alone-untouched bounds log well t u m (Read x v) other held turn = ne_eqb (m + m + 1) (x.0 + x.0) (λ e. omega (arith, e))
alone-untouched bounds log well t u m (Write x v) other held turn = ne_eqb (m + m + 1) (x.0 + x.0) (λ e. omega (arith, e))
alone-untouched bounds log well t u m (Acquire n) other held turn = ne_eqb (m + m + 1) (n.0 + n.0 + 1) (λ e.
    let same : n.0 ≡ m = omega (arith, e) in some_holder (holder_in log m) t held (subst (λ i. holder_in log i ≡ None) same turn.0))
alone-untouched bounds log well t u m (Release n) other held turn = ne_eqb (m + m + 1) (n.0 + n.0 + 1) (λ e.
    let same : n.0 ≡ m = omega (arith, e) in other (one_holder (holder_in log m) u t (subst (λ i. holder_in log i ≡ Some u) same turn) held))
alone-untouched bounds log well t u m (AcquireShared n) other held turn = ne_eqb (m + m + 1) (n.0 + n.0 + 1) (λ e.
    let same : n.0 ≡ m = omega (arith, e) in some_holder (holder_in log m) t held (subst (λ i. holder_in log i ≡ None) same turn.0))
alone-untouched bounds log well t u m (ReleaseShared n) other held turn = ne_eqb (m + m + 1) (n.0 + n.0 + 1) (λ e.
    let same : n.0 ≡ m = omega (arith, e) in both_ways _ (held-unshared bounds m log well t held u) (subst (λ i. IsTrue (shares_in log i u)) same turn))
alone-untouched bounds log well t u m _ other held turn = refl

-- shared: no thread operates on it but as a sharer
pub shared-unwritten : (bounds : Bounds) (log : List Event) → IsWellFormed bounds log → (t u m : ℕ) (l : Kind) → IsTrue (shares_in log m t) → IsInTurn log u l → IsFalse (are_same (Some (m + m + 1)) (cell_of (access_of l)) && is_exclusive (access_of l))
shared-unwritten bounds log well t u m (Read x v) shared turn = and_right _ _ refl
shared-unwritten bounds log well t u m (Write x v) shared turn = and_left _ _ (ne_eqb (m + m + 1) (x.0 + x.0) (λ e. omega (arith, e)))
shared-unwritten bounds log well t u m (Acquire n) shared turn = and_left _ _ (ne_eqb (m + m + 1) (n.0 + n.0 + 1) (λ e.
    let same : n.0 ≡ m = omega (arith, e) in both_ways _ (subst (λ i. IsFalse (shares_in log i t)) same (turn.1 t)) shared))
shared-unwritten bounds log well t u m (Release n) shared turn = and_left _ _ (ne_eqb (m + m + 1) (n.0 + n.0 + 1) (λ e.
    let same : n.0 ≡ m = omega (arith, e) in both_ways _ (held-unshared bounds m log well u (subst (λ i. holder_in log i ≡ Some u) same turn) t) shared))
shared-unwritten bounds log well t u m (AcquireShared n) shared turn = and_right _ _ refl
shared-unwritten bounds log well t u m (ReleaseShared n) shared turn = and_right _ _ refl
shared-unwritten bounds log well t u m _ shared turn = refl

-- so no other thread clashes with what gives it up
pub given_up-no_clash : (bounds : Bounds) (log : List Event) → IsWellFormed bounds log → (t u : ℕ) (k l : Kind) → u ≢ t → IsInTurn log t k → IsInTurn log u l → IsTrue (gives_up k) → IsFalse (do_clash k l)
given_up-no_clash bounds log well t u (Release m) l other turn next h = and_left _ _ (alone-untouched bounds log well t u m.0 l other turn next)
given_up-no_clash bounds log well t u (ReleaseShared m) l other turn next h = shared-unwritten bounds log well t u m.0 l turn next
given_up-no_clash bounds log well t u _ l other turn next h = absurd (false≢true h)
