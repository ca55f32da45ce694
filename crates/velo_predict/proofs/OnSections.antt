-- Who gives up a lock has acquired it, and nothing that conflicts with the one came between the two.
use Rattle.std.proofs.Common.{◌≡◌, ◌≢◌, ℕ, ◌<◌, Bool, true, false, List, [], ◌∷◌, ◌++◌, length, Option, Some, None, refl, sym, ap, ◌∙◌, subst, arith, length-append, ⊎_elim, inl, inr}
use Rattle.std.specs.Prelude.{◌⊎◌, ◌||◌, if◌then◌else◌, slice_get, IsTrue, IsFalse}
use Rattle.std.proofs.lemmas.Bool.{and_from, and_parts, both_ways, cases_eq, cases_lt, eqb-true, false≢true, or_cases, or_left, or_right}
use Rattle.std.proofs.lemmas.Option.{none-some, same_Some, slice_get_within}
use Rattle.velo_events.specs.declared.config.Bounds.{Bounds}
use Rattle.velo_events.specs.declared.event.Event.{Event}
use Rattle.velo_events.specs.declared.event.Kind.{Kind}
use Rattle.velo_events.specs.declared.event.Kind.TheVariants.{Acquire, Release, AcquireShared, ReleaseShared}
use Rattle.velo_events.specs.declared.event.Access.TheVariants.{Shared, Exclusive}
use Rattle.velo_events.specs.Conflict.{conflict}
use Rattle.velo_events.specs.Event.{are_same, thread_of, access_of, cell_of, lock_cell, is_exclusive, is_acquire, is_acquire_shared, is_on_lock, is_on_share, is_by, is_join_of, exclusive_lock_of, shared_lock_of, thread_forked_or_joined}
use Rattle.velo_events.specs.Graph.{ConflictsInOrder}
use Rattle.velo_events.specs.Heap.{latest, holder_in, shares_in}
use Rattle.velo_events.specs.WellFormed.{IsInTurn, MayFollow, IsWellFormed}
use Rattle.velo_events.proofs.OnLookUps.{are_same-both, are_same-from, conflict_at-events, fork-first, forks_or_joins, happened-at}
use Rattle.velo_events.proofs.OnTraces.{slice_get-append, slice_get-push}
use Rattle.velo_events.proofs.OnWellFormed.{Facts-from, IsWellFormed-induct, holder_in-push, shares_in-push}
use Rattle.velo_movers.specs.Free.{do_clash, gives_up}
use Rattle.velo_movers.proofs.OnHolders.{given_up-no_clash}
use Rattle.velo_predict.proofs.OnStands.{last_or_before, twins-conflict}

-- ---- accesses

pub lock-access : (k : Kind) (m : ℕ) → IsTrue (are_same (exclusive_lock_of k) (Some m)) → access_of k ≡ Exclusive (lock_cell m)
lock-access (Acquire n) m same = ap (λ i. Exclusive (lock_cell i)) (eqb-true n.0 m same)
lock-access (Release n) m same = ap (λ i. Exclusive (lock_cell i)) (eqb-true n.0 m same)
lock-access _ m same = absurd (false≢true same)

pub share-access : (k : Kind) (m : ℕ) → IsTrue (are_same (shared_lock_of k) (Some m)) → access_of k ≡ Shared (lock_cell m)
share-access (AcquireShared n) m same = ap (λ i. Shared (lock_cell i)) (eqb-true n.0 m same)
share-access (ReleaseShared n) m same = ap (λ i. Shared (lock_cell i)) (eqb-true n.0 m same)
share-access _ m same = absurd (false≢true same)

acquire-keeps : (k : Kind) → IsTrue (is_acquire k) → IsFalse (gives_up k)
acquire-keeps (Acquire n) takes = refl
acquire-keeps _ takes = absurd (false≢true takes)

acquire_shared-keeps : (k : Kind) → IsTrue (is_acquire_shared k) → IsFalse (gives_up k)
acquire_shared-keeps (AcquireShared n) takes = refl
acquire_shared-keeps _ takes = absurd (false≢true takes)

-- a release forks and joins nobody
release-handles : (k : Kind) (t : ℕ) → IsTrue (gives_up k) → IsFalse (are_same (thread_forked_or_joined k) (Some t))
release-handles (Release m) t h = refl
release-handles (ReleaseShared m) t h = refl
release-handles _ t h = absurd (false≢true h)

are_same-back : (o p : Option ℕ) → IsTrue (are_same o p) → IsTrue (are_same p o)
are_same-back o p h = let w = are_same-both o p h in are_same-from p o w.0 w.2 w.1

clash-back : (k l : Kind) → IsTrue (do_clash k l) → IsTrue (do_clash l k)
clash-back k l h =
    let parts = and_parts (are_same (cell_of (access_of k)) (cell_of (access_of l))) (is_exclusive (access_of k) || is_exclusive (access_of l)) h in
    and_from (are_same (cell_of (access_of l)) (cell_of (access_of k))) (is_exclusive (access_of l) || is_exclusive (access_of k)) (are_same-back (cell_of (access_of k)) (cell_of (access_of l)) parts.0)
    (⊎_elim (λ one. or_right (is_exclusive (access_of l)) (is_exclusive (access_of k)) one) (λ other. or_left (is_exclusive (access_of l)) (is_exclusive (access_of k)) other) (or_cases (is_exclusive (access_of k)) (is_exclusive (access_of l)) parts.1))

-- ---- who may give up a lock had it before, or acquired it just now

pub in_turn-before : (es : List Event) (e : Event) (t : ℕ) (k : Kind) → IsTrue (gives_up k) → IsInTurn (es ++ e ∷ []) t k → ((thread_of e ≡ t) × (access_of e.kind ≡ access_of k) × IsFalse (gives_up e.kind)) ⊎ IsInTurn es t k
in_turn-before es e t (Release m) release turn = by_lock (is_on_lock m.0 e) (is_acquire e.kind) refl refl (sym (holder_in-push es e m.0) ∙ turn)
  where
    by_lock : (on acquires : Bool) → is_on_lock m.0 e ≡ on → is_acquire e.kind ≡ acquires → (if on then (if acquires then Some (thread_of e) else None) else holder_in es m.0) ≡ Some t → ((thread_of e ≡ t) × (access_of e.kind ≡ Exclusive (lock_cell m.0)) × IsFalse (gives_up e.kind)) ⊎ (holder_in es m.0 ≡ Some t)
    by_lock true true on takes same = inl (same_Some (thread_of e) t same, lock-access e.kind m.0 on, acquire-keeps e.kind takes)
    by_lock true false on takes same = absurd (none-some t same)
    by_lock false acquires on takes same = inr same
in_turn-before es e t (ReleaseShared m) release turn = by_share (is_on_share m.0 t e) refl (sym (shares_in-push es e m.0 t) ∙ turn)
  where
    by_share : (on : Bool) → is_on_share m.0 t e ≡ on → IsTrue (if on then is_acquire_shared e.kind else shares_in es m.0 t) → ((thread_of e ≡ t) × (access_of e.kind ≡ Shared (lock_cell m.0)) × IsFalse (gives_up e.kind)) ⊎ IsTrue (shares_in es m.0 t)
    by_share true on takes = let parts = and_parts (is_by t e) (are_same (shared_lock_of e.kind) (Some m.0)) on in inl (eqb-true (thread_of e) t parts.0, share-access e.kind m.0 parts.1, acquire_shared-keeps e.kind takes)
    by_share false on shares = inr shares
in_turn-before es e t _ release turn = absurd (false≢true release)

-- ---- where it acquired it

record Acquired (q : List Event) (t : ℕ) (k : Kind) : Type 0 where
  at : ℕ
  event : Event
  here : slice_get q at ≡ Some event
  by : thread_of event ≡ t
  access : access_of event.kind ≡ access_of k
  since : (i : ℕ) (d : Event) → at < i → slice_get q i ≡ Some d → thread_of d ≢ t → IsFalse (do_clash k d.kind)

held_by_none : (t : ℕ) (k : Kind) → IsTrue (gives_up k) → IsInTurn [] t k → ⊥
unfolding latest
held_by_none t (Release m) release turn = none-some t turn
held_by_none t (ReleaseShared m) release turn = false≢true turn
held_by_none t _ release turn = false≢true release

acquired : (bounds : Bounds) (q : List Event) → IsWellFormed bounds q → (t : ℕ) (k : Kind) → IsTrue (gives_up k) → IsInTurn q t k → Acquired q t k
acquired bounds = IsWellFormed-induct bounds (λ q. (t : ℕ) (k : Kind) → IsTrue (gives_up k) → IsInTurn q t k → Acquired q t k) start next
  where
    start : (t : ℕ) (k : Kind) → IsTrue (gives_up k) → IsInTurn [] t k → Acquired [] t k
    start t k release turn = absurd (held_by_none t k release turn)

    next : (es : List Event) (e : Event) → IsWellFormed bounds es → ((t : ℕ) (k : Kind) → IsTrue (gives_up k) → IsInTurn es t k → Acquired es t k) → MayFollow bounds es e → (t : ℕ) (k : Kind) → IsTrue (gives_up k) → IsInTurn (es ++ e ∷ []) t k → Acquired (es ++ e ∷ []) t k
    next es e well before follows t k release turn =
        ⊎_elim
        (λ now. record {
          at = length es;
          event = e;
          here = slice_get-push es e;
          by = now.0;
          access = now.1;
          since = λ i d later at other. absurd (omega (arith, later, slice_get_within (es ++ e ∷ []) i d at, length-append es (e ∷ [])));
        })
        (λ had.
        let w = before t k release had in
        record {
          at = w.at;
          event = w.event;
          here = slice_get-append es (e ∷ []) w.at (slice_get_within es w.at w.event w.here) ∙ w.here;
          by = w.by;
          access = w.access;
          since = λ i d later at other. ⊎_elim
              (λ old. w.since i d later old.1 other)
              (λ last. subst (λ f. IsFalse (do_clash k f.kind)) last.1 (given_up-no_clash bounds es well t (thread_of e) k e.kind (λ same. other (sym (ap thread_of last.1) ∙ same)) had follows.in_turn release))
              (last_or_before es e i d at);
        })
        (in_turn-before es e t k release turn)

-- ---- what conflicts with the release conflicts with an earlier event of its thread

pub conflicts_before : (bounds : Bounds) (q : List Event) (e : Event) → IsWellFormed bounds q → MayFollow bounds q e → IsTrue (gives_up e.kind) → (last : ℕ) (event : Event) → slice_get q last ≡ Some event → thread_of event ≡ thread_of e →
    (i : ℕ) (d : Event) → slice_get q i ≡ Some d → thread_of d ≢ thread_of e → IsTrue (conflict d e) → (a : ℕ) × (g : Event) × (slice_get q a ≡ Some g) × (thread_of g ≡ thread_of e) × ConflictsInOrder q i a
conflicts_before bounds q e well follows release last event there its i d here other c =
    ⊎_elim
    (λ three. ⊎_elim
    (λ two. ⊎_elim (λ same. absurd (other (eqb-true (thread_of d) (thread_of e) same))) clashes (or_cases _ _ two))
    handled (or_cases _ _ three))
    (λ handles. absurd (both_ways _ (release-handles e.kind (thread_of d) release) handles))
    (or_cases _ _ c)
  where
    clashes : IsTrue (do_clash d.kind e.kind) → (a : ℕ) × (g : Event) × (slice_get q a ≡ Some g) × (thread_of g ≡ thread_of e) × ConflictsInOrder q i a
    clashes clash =
        let w = acquired bounds q well (thread_of e) e.kind release follows.in_turn in
        let less : i < w.at = ⊎_elim (λ l. l) (λ le.
        ⊎_elim (λ same. absurd (other (ap thread_of (same_Some d w.event (sym here ∙ (ap (slice_get q) same ∙ w.here))) ∙ w.by)))
        (λ differ. absurd (both_ways (do_clash e.kind d.kind) (w.since i d (omega (arith, le, differ)) here other) (clash-back d.kind e.kind clash)))
        (cases_eq i w.at)) (cases_lt i w.at) in
        (w.at, w.event, w.here, w.by, (less, conflict_at-events q i w.at d w.event here w.here (twins-conflict d d e w.event (record { by = refl; access = refl }) (record { by = w.by; access = w.access }) c)))

    handled : IsTrue (are_same (thread_forked_or_joined d.kind) (Some (thread_of e))) → (a : ℕ) × (g : Event) × (slice_get q a ≡ Some g) × (thread_of g ≡ thread_of e) × ConflictsInOrder q i a
    handled h =
        ⊎_elim
        (λ forks. (
          last,
          event,
          there,
          its,
          (
            fork-first bounds q (thread_of e) i last d event well here forks there its,
            conflict_at-events q i last d event here there (or_left _ _ (or_right _ _ (subst (λ t. IsTrue (are_same (thread_forked_or_joined d.kind) (Some t))) (sym its) h))),
          ),
        ))
        (λ joins. absurd (both_ways _ follows.not_exited ((Facts-from bounds q well).exited (thread_of e) (happened-at (is_join_of (thread_of e)) q i d here joins))))
        (forks_or_joins (access_of d.kind) (thread_of e) h)
