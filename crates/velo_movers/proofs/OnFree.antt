-- A free event stays due and free while other threads act, and conflicts with nothing that they do.
use Rattle.std.proofs.Common.{◌≡◌, ◌≢◌, ℕ, ◌+◌, not, Bool, true, false, cond, List, [], ◌∷◌, ◌++◌, Option, Some, None, refl, sym, ap, ◌∙◌, subst, ⊎_elim}
use Rattle.std.specs.Prelude.{◌==◌, ◌&&◌, ◌||◌, IsTrue, IsFalse}
use Rattle.std.proofs.lemmas.List.{append-nil, append_assoc}
use Rattle.std.proofs.lemmas.Bool.{cases_Bool, and_left, and_parts, and_from, or_cases, or_parts, or_from, or_left, or_right, eqb-true, eq-eqb, ne_eqb, false_from_ne_true, false≢true, both_ways}
use Rattle.velo_events.specs.declared.config.Bounds.{Bounds}
use Rattle.velo_events.specs.declared.event.Event.{Event}
use Rattle.velo_events.specs.declared.event.Kind.{Kind}
use Rattle.velo_events.specs.declared.event.Status.TheVariants.{Unborn}
use Rattle.velo_events.specs.declared.event.Kind.TheVariants.{Read, Write, Acquire, Release, AcquireShared, ReleaseShared, Begin, End, Fork, Join, Exit}
use Rattle.velo_events.specs.Event.{are_same, thread_of, value_of, variable_of, exclusive_lock_of, shared_lock_of, access_of, cell_of, is_exclusive, thread_forked, thread_joined, thread_forked_or_joined, is_write, is_acquire, is_by, is_begin_by, is_end_by, is_acquire_by, is_release_by, is_acquire_shared_by, is_release_shared_by, is_exit_by, is_write_of, is_on_lock, is_on_share, is_fork_of, is_join_of}
use Rattle.velo_events.specs.Conflict.{conflict}
use Rattle.velo_events.specs.Heap.{happened, times, value_in, holder_in, status_in}
use Rattle.velo_events.specs.Meaning.{is_unborn}
use Rattle.velo_events.specs.WellFormed.{IsInTurn, MayFollow}
use Rattle.velo_events.proofs.OnTraces.{happened-push, happened-no, times-no, value_in-push}
use Rattle.velo_events.proofs.OnStatuses.{actor-born}
use Rattle.velo_events.proofs.OnWellFormed.{holder_in-push, shares_in-kept}
use Rattle.velo_movers.specs.Programs.{own, IsLog}
use Rattle.velo_movers.specs.Free.{do_clash, gives_up, are_rivals, are_twins, IsFree}
use Rattle.velo_movers.proofs.OnHolders.{held-stays, given_up-no_clash}

-- ---- the parts of a conflict

pub are_same-comm : (a b : Option ℕ) → are_same a b ≡ are_same b a
are_same-comm (Some x) (Some y) = ⊎_elim (λ h. h ∙ sym (eq-eqb y x (sym (eqb-true x y h)))) (λ h. h ∙ sym (ne_eqb y x (λ e. both_ways _ h (eq-eqb x y (sym e))))) (cases_Bool (x == y))
are_same-comm (Some x) None = refl
are_same-comm None (Some y) = refl
are_same-comm None None = refl

or-comm : (a b : Bool) → (a || b) ≡ (b || a)
or-comm true true = refl
or-comm true false = refl
or-comm false true = refl
or-comm false false = refl

clash-comm : (k l : Kind) → do_clash k l ≡ do_clash l k
clash-comm k l =
    ap (λ b. b && (is_exclusive (access_of k) || is_exclusive (access_of l))) (are_same-comm (cell_of (access_of k)) (cell_of (access_of l)))
    ∙ ap (λ b. are_same (cell_of (access_of l)) (cell_of (access_of k)) && b) (or-comm (is_exclusive (access_of k)) (is_exclusive (access_of l)))

without : (b c : Bool) → IsFalse (b && not c) → IsFalse c → IsFalse b
without true true h k = absurd (false≢true (sym k))
without true false h k = h
without false c h k = refl

-- ---- the cells of operations on a lock, and of writes

write-cell : (x : ℕ) (k : Kind) → IsTrue (is_write k && are_same (variable_of k) (Some x)) → IsTrue (are_same (Some (x + x)) (cell_of (access_of k))) × IsTrue (is_exclusive (access_of k))
write-cell x (Write y v) h = (let same = eqb-true y.0 x h in eq-eqb _ _ (ap (λ n. n + n) (sym same)), refl)
write-cell x _ h = absurd (false≢true h)

lock-cell : (m : ℕ) (k : Kind) → IsTrue (are_same (exclusive_lock_of k) (Some m)) → IsTrue (are_same (Some (m + m + 1)) (cell_of (access_of k))) × IsTrue (is_exclusive (access_of k))
lock-cell m (Acquire n) h = (let same = eqb-true n.0 m h in eq-eqb _ _ (ap (λ i. i + i + 1) (sym same)), refl)
lock-cell m (Release n) h = (let same = eqb-true n.0 m h in eq-eqb _ _ (ap (λ i. i + i + 1) (sym same)), refl)
lock-cell m _ h = absurd (false≢true h)

share-cell : (m : ℕ) (k : Kind) → IsTrue (are_same (shared_lock_of k) (Some m)) → IsTrue (are_same (Some (m + m + 1)) (cell_of (access_of k)))
share-cell m (AcquireShared n) h = let same = eqb-true n.0 m h in eq-eqb _ _ (ap (λ i. i + i + 1) (sym same))
share-cell m (ReleaseShared n) h = let same = eqb-true n.0 m h in eq-eqb _ _ (ap (λ i. i + i + 1) (sym same))
share-cell m _ h = absurd (false≢true h)

-- ---- what another thread tries next

pub free-now : (bounds : Bounds) (May : ℕ → List Event → Type 0) (log : List Event) (e : Event) → IsFree bounds May log e → (g : Event) → thread_of g ≢ thread_of e → IsLog bounds May log → status_in log (thread_of g) ≢ Unborn → May (thread_of g) (own (thread_of g) log ++ g ∷ []) → IsFalse (are_rivals e.kind g.kind) × IsFalse (are_twins e.kind g.kind)
free-now bounds May log e free g other =
    subst (λ es. IsLog bounds May es → status_in es (thread_of g) ≢ Unborn → May (thread_of g) (own (thread_of g) es ++ g ∷ []) → IsFalse (are_rivals e.kind g.kind) × IsFalse (are_twins e.kind g.kind)) (append-nil log)
    (free.apart [] g refl other)

-- ---- one event of another thread

module _ (bounds : Bounds) (May : ℕ → List Event → Type 0) (log : List Event) (e g : Event) (all : IsLog bounds May log) (due : MayFollow bounds log e) (follows : MayFollow bounds log g) (may : May (thread_of g) (own (thread_of g) log ++ g ∷ [])) (other : thread_of g ≢ thread_of e) (free : IsFree bounds May log e) where
  -- it is neither a rival nor a twin
  apart : IsFalse (are_rivals e.kind g.kind) × IsFalse (are_twins e.kind g.kind)
  apart = free-now bounds May log e free g other all (λ unborn. both_ways _ (actor-born bounds log g follows) (ap is_unborn unborn)) may

  -- it is about another cell, or both read it
  no_clash : IsFalse (do_clash e.kind g.kind)
  no_clash = ⊎_elim
      (λ gives. ⊎_elim
      (λ first. given_up-no_clash bounds log all.well (thread_of e) (thread_of g) e.kind g.kind other due.in_turn follows.in_turn first)
      (λ second. clash-comm e.kind g.kind ∙ given_up-no_clash bounds log all.well (thread_of g) (thread_of e) g.kind e.kind (λ same. other (sym same)) follows.in_turn due.in_turn second)
      (or_cases _ _ gives))
      (λ keeps. without _ _ apart.0 keeps)
      (cases_Bool (gives_up e.kind || gives_up g.kind))

  -- it neither forks nor joins the event's thread, which is born and has not exited
  no_handling : (l : Kind) → IsInTurn log (thread_of g) l → IsFalse (are_same (thread_forked_or_joined l) (Some (thread_of e)))
  no_handling (Fork u) turn = ne_eqb u.0 (thread_of e) (λ same. ⊎_elim
      (λ first. turn.0 (same ∙ eqb-true (thread_of e) 0 first))
      (λ forked. both_ways _ turn.1 (subst (λ i. IsTrue (happened (is_fork_of i) log)) (sym same) forked))
      (or_cases _ _ due.born))
  no_handling (Join u) turn = ne_eqb u.0 (thread_of e) (λ same. both_ways _ due.not_exited (subst (λ i. IsTrue (happened (is_exit_by i) log)) same turn.0))
  no_handling _ turn = refl

  -- and the event neither forks nor joins its thread
  not_handled : (k : Kind) → IsInTurn log (thread_of e) k → IsFalse (are_same (thread_forked_or_joined k) (Some (thread_of g)))
  not_handled (Fork u) turn = ne_eqb u.0 (thread_of g) (λ same. ⊎_elim
      (λ first. turn.0 (same ∙ eqb-true (thread_of g) 0 first))
      (λ forked. both_ways _ turn.1 (subst (λ i. IsTrue (happened (is_fork_of i) log)) (sym same) forked))
      (or_cases _ _ follows.born))
  not_handled (Join u) turn = ne_eqb u.0 (thread_of g) (λ same. both_ways _ follows.not_exited (subst (λ i. IsTrue (happened (is_exit_by i) log)) same turn.0))
  not_handled _ turn = refl

  pub free-no_conflict : IsFalse (conflict g e)
  free-no_conflict =
      or_from _ _ (or_from _ _ (or_from _ _
      (ne_eqb (thread_of g) (thread_of e) other)
      (clash-comm g.kind e.kind ∙ no_clash))
      (no_handling g.kind follows.in_turn))
      (not_handled e.kind due.in_turn)

  -- ---- after it

  abbrev after : List Event
  after = log ++ g ∷ []

  not_own : IsFalse (is_by (thread_of e) g)
  not_own = ne_eqb (thread_of g) (thread_of e) other

  own_times : (part : Event → Bool) → times (λ f. is_by (thread_of e) f && part f) after ≡ times (λ f. is_by (thread_of e) f && part f) log
  own_times part = times-no (λ f. is_by (thread_of e) f && part f) log g (and_left _ _ not_own)

  clash_with : (k : Kind) → e.kind ≡ k → IsFalse (do_clash k g.kind)
  clash_with k is = ap (λ x. do_clash x g.kind) (sym is) ∙ no_clash

  not_taken : (m : ℕ) → IsFalse (is_on_lock m g) → holder_in after m ≡ holder_in log m
  not_taken m none = holder_in-push log g m ∙ ap (λ b. cond b (cond (is_acquire g.kind) (Some (thread_of g)) None) (holder_in log m)) none

  turn_after : (k : Kind) → e.kind ≡ k → IsInTurn log (thread_of e) k → IsInTurn after (thread_of e) k
  turn_after (Read x v) is turn =
      let none : IsFalse (is_write_of x.0 g) = false_from_ne_true _ (λ h.
      let p = write-cell x.0 g.kind h in
      both_ways _ (clash_with (Read x v) is) (and_from _ _ p.0 p.1)) in
      turn ∙ sym (value_in-push log g x.0 ∙ ap (λ b. cond b (value_of g.kind) (value_in log x.0)) none)
  turn_after (Write x v) is turn = tt
  turn_after (Acquire m) is turn =
      let none : IsFalse (is_on_lock m.0 g) = false_from_ne_true _ (λ h. both_ways _ (clash_with (Acquire m) is) (and_from _ _ (lock-cell m.0 g.kind h).0 refl)) in
      let none_shared : (u : ℕ) → IsFalse (is_on_share m.0 u g) = λ u. false_from_ne_true _ (λ h. both_ways _ (clash_with (Acquire m) is) (and_from _ _ (share-cell m.0 g.kind (and_parts (is_by u g) _ h).1) refl)) in
      (not_taken m.0 none ∙ turn.0, (λ u. shares_in-kept log g m.0 u (none_shared u) ∙ turn.1 u))
  turn_after (AcquireShared m) is turn =
      let none : IsFalse (is_on_lock m.0 g) = false_from_ne_true _ (λ h. let p = lock-cell m.0 g.kind h in both_ways _ (clash_with (AcquireShared m) is) (and_from _ _ p.0 p.1)) in
      (not_taken m.0 none ∙ turn.0, shares_in-kept log g m.0 (thread_of e) (and_left _ _ not_own) ∙ turn.1)
  turn_after (ReleaseShared m) is turn = shares_in-kept log g m.0 (thread_of e) (and_left _ _ not_own) ∙ turn
  turn_after (Release m) is turn = held-stays bounds log g (thread_of e) m.0 other turn follows
  turn_after (Begin l) is turn =
      let begins : times (is_begin_by (thread_of e)) after ≡ times (is_begin_by (thread_of e)) log = times-no (is_begin_by (thread_of e)) log g (and_left _ _ not_own) in
      let ends : times (is_end_by (thread_of e)) after ≡ times (is_end_by (thread_of e)) log = times-no (is_end_by (thread_of e)) log g (and_left _ _ not_own) in
      rw (begins, ends) turn
  turn_after End is turn =
      let begins : times (is_begin_by (thread_of e)) after ≡ times (is_begin_by (thread_of e)) log = times-no (is_begin_by (thread_of e)) log g (and_left _ _ not_own) in
      let ends : times (is_end_by (thread_of e)) after ≡ times (is_end_by (thread_of e)) log = times-no (is_end_by (thread_of e)) log g (and_left _ _ not_own) in
      rw (begins, ends) turn
  turn_after (Fork u) is turn = (
    turn.0,
    happened-no (is_fork_of u.0) log g (are_same-comm (thread_forked g.kind) (Some u.0) ∙ (ap (λ k. are_same (thread_forked k) (thread_forked g.kind)) (sym is) ∙ (or_parts _ _ (or_parts _ _ apart.1).0).0)) ∙ turn.1,
  )
  turn_after (Join u) is turn = (
    happened-push (is_exit_by u.0) log g ∙ or_left _ _ turn.0,
    happened-no (is_join_of u.0) log g (are_same-comm (thread_joined g.kind) (Some u.0) ∙ (ap (λ k. are_same (thread_joined k) (thread_joined g.kind)) (sym is) ∙ (or_parts _ _ (or_parts _ _ apart.1).0).1)) ∙ turn.1,
  )
  turn_after Exit is turn =
      let begins = times-no (is_begin_by (thread_of e)) log g (and_left _ _ not_own) in
      let ends = times-no (is_end_by (thread_of e)) log g (and_left _ _ not_own) in
      let acquires = times-no (is_acquire_by (thread_of e)) log g (and_left _ _ not_own) in
      let releases = times-no (is_release_by (thread_of e)) log g (and_left _ _ not_own) in
      let shares = times-no (is_acquire_shared_by (thread_of e)) log g (and_left _ _ not_own) in
      let unshares = times-no (is_release_shared_by (thread_of e)) log g (and_left _ _ not_own) in
      (begins ∙ (turn.0 ∙ sym ends), acquires ∙ (turn.1 ∙ sym releases), shares ∙ (turn.2 ∙ sym unshares))

  -- the event is due after it
  pub free-due : MayFollow bounds (log ++ g ∷ []) e
  free-due = record {
    known_thread = due.known_thread;
    known_names = due.known_names;
    born = ⊎_elim (λ first. or_left (thread_of e == 0) _ first)
        (λ forked. or_right (thread_of e == 0) _ (happened-push (is_fork_of (thread_of e)) log g ∙ or_left (happened (is_fork_of (thread_of e)) log) (is_fork_of (thread_of e) g) forked))
        (or_cases (thread_of e == 0) (happened (is_fork_of (thread_of e)) log) due.born);
    not_exited = happened-no (is_exit_by (thread_of e)) log g (and_left _ _ not_own) ∙ due.not_exited;
    in_turn = turn_after e.kind refl due.in_turn;
  }

  -- and as free
  pub free-stays : IsFree bounds May (log ++ g ∷ []) e
  free-stays = record {
    apart = λ more h none.
        subst (λ es. thread_of h ≢ thread_of e → IsLog bounds May es → status_in es (thread_of h) ≢ Unborn → May (thread_of h) (own (thread_of h) es ++ h ∷ []) → IsFalse (are_rivals e.kind h.kind) × IsFalse (are_twins e.kind h.kind))
        (sym (append_assoc log (g ∷ []) more))
        (free.apart (g ∷ more) h (ap (λ b. cond b (g ∷ own (thread_of e) more) (own (thread_of e) more)) not_own ∙ none));
  }
