-- Without accesses of variables that repeat equal ones a log can come about.
use Rattle.std.proofs.Common.{◌≡◌, ℕ, zero, suc, ◌+◌, ◌<◌, ◌≤◌, Bool, false, not, List, [], ◌∷◌, ◌++◌, length, take, Option, Some, None, refl, sym, ap, ◌∙◌, subst, arith, ⊎_elim}
use Rattle.std.specs.Prelude.{◌||◌, ◌&&◌, ◌==◌, if◌then◌else◌, slice_get, option_and_then, IsTrue, IsFalse}
use Rattle.std.specs.Option.{option_map_or}
use Rattle.std.proofs.lemmas.Bool.{cases_Bool, cases_lt, cases_order, and_right, or_left, both_ways, false≢true, eqb-true}
use Rattle.std.proofs.lemmas.Option.{same_Some, slice_get_within}
use Rattle.velo_events.specs.declared.config.Bounds.{Bounds}
use Rattle.velo_events.specs.declared.event.Event.{Event}
use Rattle.velo_events.specs.declared.event.Kind.{Kind}
use Rattle.velo_events.specs.declared.event.Kind.TheVariants.{Read, Write, Acquire, Release, AcquireShared, ReleaseShared, Begin, End, Fork, Join, Exit}
use Rattle.velo_events.specs.Event.{are_same, thread_of, variable_of, value_of, access_of, cell_of, is_exclusive, exclusive_lock_of, shared_lock_of, thread_forked, thread_joined, is_read, is_write, is_acquire, is_release, is_acquire_shared, is_release_shared, is_begin, is_end, is_exit, is_by, is_write_of, is_on_lock, is_on_share, is_begin_by, is_end_by, is_exit_by, is_fork_of, is_join_of}
use Rattle.velo_events.specs.Heap.{latest, happened, times, value_in, holder_in, shares_in}
use Rattle.velo_events.specs.WellFormed.{IsInTurn, MayFollow, IsWellFormed}
use Rattle.velo_events.specs.Graph.{conflict_at}
use Rattle.velo_events.proofs.OnLookUps.{are_same-from, conflict-cell}
use Rattle.velo_events.proofs.OnScans.{event_at, take-next, passes_at-is}
use Rattle.velo_events.proofs.OnTraces.{latest-push, happened-push, happened-no, times-push, times-no, value_in-push}
use Rattle.velo_events.proofs.OnWellFormed.{IsWellFormed-nil, IsWellFormed-push}
use Rattle.velo_filter.proofs.OnRanks.{events_staying, events_staying-stays, events_staying-goes}
use Rattle.velo_laws.specs.Repeats.{AreRepeats, AreEqualAccesses, without}
use Rattle.velo_laws.proofs.OnOrderedPlaces.{conflict-is}
use Rattle.velo_laws.proofs.OnDropped.{take-none}

-- ---- by kinds

abbrev is_access : Kind → Bool
is_access k = is_read k || is_write k

lock_none : (o : Option ℕ) (k : Kind) → IsTrue (is_access k) → IsFalse (are_same (exclusive_lock_of k) o)
lock_none o (Read x v) h = refl
lock_none o (Write x v) h = refl
lock_none o _ h = absurd (false≢true h)

share_none : (o : Option ℕ) (k : Kind) → IsTrue (is_access k) → IsFalse (are_same (shared_lock_of k) o)
share_none o (Read x v) h = refl
share_none o (Write x v) h = refl
share_none o _ h = absurd (false≢true h)

fork_none : (o : Option ℕ) (k : Kind) → IsTrue (is_access k) → IsFalse (are_same (thread_forked k) o)
fork_none o (Read x v) h = refl
fork_none o (Write x v) h = refl
fork_none o _ h = absurd (false≢true h)

join_none : (o : Option ℕ) (k : Kind) → IsTrue (is_access k) → IsFalse (are_same (thread_joined k) o)
join_none o (Read x v) h = refl
join_none o (Write x v) h = refl
join_none o _ h = absurd (false≢true h)

-- what looks for another kind
abbrev IsElse : (Kind → Bool) → Type 0
IsElse is = (k : Kind) → IsTrue (is_access k) → IsFalse (is k)

begin_none : IsElse is_begin
begin_none (Read x v) h = refl
begin_none (Write x v) h = refl
begin_none _ h = absurd (false≢true h)

end_none : IsElse is_end
end_none (Read x v) h = refl
end_none (Write x v) h = refl
end_none _ h = absurd (false≢true h)

exit_none : IsElse is_exit
exit_none (Read x v) h = refl
exit_none (Write x v) h = refl
exit_none _ h = absurd (false≢true h)

acquire_none : IsElse is_acquire
acquire_none (Read x v) h = refl
acquire_none (Write x v) h = refl
acquire_none _ h = absurd (false≢true h)

release_none : IsElse is_release
release_none (Read x v) h = refl
release_none (Write x v) h = refl
release_none _ h = absurd (false≢true h)

acquire_shared_none : IsElse is_acquire_shared
acquire_shared_none (Read x v) h = refl
acquire_shared_none (Write x v) h = refl
acquire_shared_none _ h = absurd (false≢true h)

release_shared_none : IsElse is_release_shared
release_shared_none (Read x v) h = refl
release_shared_none (Write x v) h = refl
release_shared_none _ h = absurd (false≢true h)

-- a write of a variable is one of its cell
write_cell : (k : Kind) (x : ℕ) → IsTrue (is_write k && are_same (variable_of k) (Some x)) → IsTrue (is_exclusive (access_of k)) × (cell_of (access_of k) ≡ Some (x + x))
write_cell (Write y v) x h = (refl, ap (λ z. Some (z + z)) (eqb-true y.0 x h))
write_cell _ x h = absurd (false≢true h)

module _ (goes : ℕ → Bool) (log : List Event) (repeats : AreRepeats goes log) (equal : AreEqualAccesses goes log repeats) where
  abbrev its : ℕ → Bool
  its j = not (goes j)

  abbrev ev : ℕ → List Event
  ev n = events_staying log its n

  next : (n : ℕ) (e : Event) → slice_get log n ≡ Some e → take (suc n) log ≡ take n log ++ e ∷ []
  next n e here = ap (λ k. take k log) (let one : suc n ≡ n + 1 = omega arith in one) ∙ take-next log n e here

  access-at : (n : ℕ) (e : Event) → slice_get log n ≡ Some e → IsTrue (goes n) → IsTrue (is_access e.kind)
  access-at n e here g = sym (passes_at-is log (λ f. is_access f.kind) n e here) ∙ (equal n g).1

  -- ---- what is read of the rest, where no access of a variable is looked at

  kept : {X : Type 0} (G : List Event → X) → ((xs : List Event) (e : Event) → IsTrue (is_access e.kind) → G (xs ++ e ∷ []) ≡ G xs) → ((xs ys : List Event) (e : Event) → G xs ≡ G ys → G (xs ++ e ∷ []) ≡ G (ys ++ e ∷ [])) → (n : ℕ) → n ≤ length log → G (ev n) ≡ G (take n log)
  kept G others same zero l = ap G (sym (take-none log))
  kept G others same (suc n) l =
      let e = event_at log n (omega (arith, l)) in
      let rest = kept G others same n (omega (arith, l)) in
      ⊎_elim
      (λ g. ap G (events_staying-goes log its n (ap not g)) ∙ (rest ∙ (sym (others (take n log) e.0 (access-at n e.0 e.1 g)) ∙ ap G (sym (next n e.0 e.1)))))
      (λ h. ap G (events_staying-stays log its n e.0 e.1 (ap not h)) ∙ (same (ev n) (take n log) e.0 rest ∙ ap G (sym (next n e.0 e.1))))
      (cases_Bool (goes n))

  kept-latest : (test : Event → Bool) → ((e : Event) → IsTrue (is_access e.kind) → IsFalse (test e)) → (n : ℕ) → n ≤ length log → latest test (ev n) ≡ latest test (take n log)
  kept-latest test none = kept (latest test)
      (λ xs e h. latest-push test xs e ∙ ap (λ b. if b then Some e else latest test xs) (none e h))
      (λ xs ys e h. latest-push test xs e ∙ (ap (λ o. if test e then Some e else o) h ∙ sym (latest-push test ys e)))

  kept-happened : (test : Event → Bool) → ((e : Event) → IsTrue (is_access e.kind) → IsFalse (test e)) → (n : ℕ) → n ≤ length log → happened test (ev n) ≡ happened test (take n log)
  kept-happened test none = kept (happened test)
      (λ xs e h. happened-no test xs e (none e h))
      (λ xs ys e h. happened-push test xs e ∙ (ap (λ b. b || test e) h ∙ sym (happened-push test ys e)))

  kept-times : (t : ℕ) (is : Kind → Bool) → IsElse is → (n : ℕ) → n ≤ length log → times (λ f. is_by t f && is f.kind) (ev n) ≡ times (λ f. is_by t f && is f.kind) (take n log)
  kept-times t is none = kept (times (λ f. is_by t f && is f.kind))
      (λ xs e h. times-no (λ f. is_by t f && is f.kind) xs e (and_right (is_by t e) (is e.kind) (none e.kind h)))
      (λ xs ys e h. times-push (λ f. is_by t f && is f.kind) xs e ∙ (ap (λ n. n + (if is_by t e && is e.kind then 1 else 0)) h ∙ sym (times-push (λ f. is_by t f && is f.kind) ys e)))

  -- ---- values

  module _ (x : ℕ) where
    clash : (i j : ℕ) (f g : Event) → slice_get log i ≡ Some f → slice_get log j ≡ Some g → IsTrue (is_write_of x f) → IsTrue (is_write_of x g) → IsTrue (conflict_at log i j)
    clash i j f g at_i at_j wf wg =
        let a = write_cell f.kind x wf in
        let b = write_cell g.kind x wg in
        conflict-is log i j f g at_i at_j ∙ conflict-cell f g (are_same-from _ _ (x + x) a.1 b.1) (or_left _ _ a.0)

    -- a write of the variable that goes, between one that goes and what that repeats, repeats the same
    same_first : (n k : ℕ) (e f : Event) (g : IsTrue (goes n)) (h : IsTrue (goes k)) → slice_get log n ≡ Some e → slice_get log k ≡ Some f → IsTrue (is_write_of x e) → IsTrue (is_write_of x f) → (repeats n g).first < k → k < n → (repeats k h).first ≡ (repeats n g).first
    same_first n k e f g h at_n at_k we wf from upto =
        let a = repeats k h in
        let b = repeats n g in
        let at_a : slice_get log a.first ≡ Some f = (equal k h).0 ∙ at_k in
        let at_b : slice_get log b.first ≡ Some e = (equal n g).0 ∙ at_n in
        ⊎_elim (λ s. s)
        (⊎_elim
        (λ l. absurd (both_ways (goes b.first) b.first_stays (a.between b.first l from (clash b.first k e f at_b at_k we wf))))
        (λ l. absurd (both_ways (goes a.first) a.first_stays (b.between a.first l (let o = a.in_order in omega (arith, o, upto)) (clash a.first n f e at_a at_n wf we)))))
        (cases_order a.first b.first)

    -- so the value is that of the write that goes, from the one that it repeats on
    value-between : (n : ℕ) (e : Event) (g : IsTrue (goes n)) → slice_get log n ≡ Some e → IsTrue (is_write_of x e) → (m : ℕ) → (repeats n g).first < m → m ≤ n → value_in (take m log) x ≡ value_of e.kind
    value-between n e g at_n we zero from upto = absurd (omega (arith, from))
    value-between n e g at_n we (suc k) from upto =
        let within = slice_get_within log n e at_n in
        let f = event_at log k (omega (arith, upto, within)) in
        let at_b : slice_get log (repeats n g).first ≡ Some e = (equal n g).0 ∙ at_n in
        let step = ap (λ es. value_in es x) (next k f.0 f.1) ∙ value_in-push (take k log) f.0 x in
        step ∙ ⊎_elim
        (λ later. ⊎_elim
        (λ writes.
        let h = (repeats n g).between k later (omega (arith, upto)) (clash k n f.0 e f.1 at_n writes we) in
        let one = same_first n k e f.0 g h at_n f.1 we writes later (omega (arith, upto)) in
        let equals : f.0 ≡ e = same_Some f.0 e (sym f.1 ∙ (sym (equal k h).0 ∙ (ap (slice_get log) one ∙ at_b))) in
        ap (λ b. if b then value_of f.0.kind else value_in (take k log) x) writes ∙ ap (λ (d : Event). value_of d.kind) equals)
        (λ reads. ap (λ b. if b then value_of f.0.kind else value_in (take k log) x) reads ∙ value-between n e g at_n we k later (omega (arith, upto)))
        (cases_Bool (is_write_of x f.0)))
        (λ at.
        let here : (repeats n g).first ≡ k = omega (arith, at, from) in
        let equals : f.0 ≡ e = same_Some f.0 e (sym f.1 ∙ (ap (slice_get log) (sym here) ∙ at_b)) in
        ap (λ b. if b then value_of f.0.kind else value_in (take k log) x) (ap (is_write_of x) equals ∙ we) ∙ ap (λ (d : Event). value_of d.kind) equals)
        (cases_lt (repeats n g).first k)

    kept-value : (n : ℕ) → n ≤ length log → value_in (ev n) x ≡ value_in (take n log) x
    kept-value zero l = ap (λ es. value_in es x) (sym (take-none log))
    kept-value (suc n) l =
        let e = event_at log n (omega (arith, l)) in
        let rest = kept-value n (omega (arith, l)) in
        let step = ap (λ es. value_in es x) (next n e.0 e.1) ∙ value_in-push (take n log) e.0 x in
        ⊎_elim
        (λ g. ap (λ es. value_in es x) (events_staying-goes log its n (ap not g)) ∙ (rest ∙ ⊎_elim
        (λ writes. value-between n e.0 g e.1 writes n (repeats n g).in_order (omega arith) ∙ sym (step ∙ ap (λ b. if b then value_of e.0.kind else value_in (take n log) x) writes))
        (λ reads. sym (step ∙ ap (λ b. if b then value_of e.0.kind else value_in (take n log) x) reads))
        (cases_Bool (is_write_of x e.0))))
        (λ h. ap (λ es. value_in es x) (events_staying-stays log its n e.0 e.1 (ap not h))
        ∙ (value_in-push (ev n) e.0 x ∙ (ap (λ v. if is_write_of x e.0 then value_of e.0.kind else v) rest ∙ sym step)))
        (cases_Bool (goes n))

  -- ---- so each event that stays may follow those before it that stay

  module _ (n : ℕ) (upto : n ≤ length log) where
    holders : (m : ℕ) → holder_in (ev n) m ≡ holder_in (take n log) m
    holders m = ap (λ o. option_and_then (λ e. if is_acquire e.kind then Some (thread_of e) else None) o) (kept-latest (is_on_lock m) (λ e h. lock_none (Some m) e.kind h) n upto)

    sharers : (m t : ℕ) → shares_in (ev n) m t ≡ shares_in (take n log) m t
    sharers m t = ap (λ o. option_map_or (λ e. is_acquire_shared e.kind) o false) (kept-latest (is_on_share m t) (λ e h. and_right (is_by t e) _ (share_none (Some m) e.kind h)) n upto)

    forks : (t : ℕ) → happened (is_fork_of t) (ev n) ≡ happened (is_fork_of t) (take n log)
    forks t = kept-happened (is_fork_of t) (λ e h. fork_none (Some t) e.kind h) n upto

    joins : (t : ℕ) → happened (is_join_of t) (ev n) ≡ happened (is_join_of t) (take n log)
    joins t = kept-happened (is_join_of t) (λ e h. join_none (Some t) e.kind h) n upto

    exits : (t : ℕ) → happened (is_exit_by t) (ev n) ≡ happened (is_exit_by t) (take n log)
    exits t = kept-happened (is_exit_by t) (λ e h. and_right (is_by t e) _ (exit_none e.kind h)) n upto

    begins : (t : ℕ) → times (is_begin_by t) (ev n) ≡ times (is_begin_by t) (take n log)
    begins t = kept-times t is_begin begin_none n upto

    ends : (t : ℕ) → times (is_end_by t) (ev n) ≡ times (is_end_by t) (take n log)
    ends t = kept-times t is_end end_none n upto

    turn : (t : ℕ) (k : Kind) → IsInTurn (take n log) t k → IsInTurn (ev n) t k
    turn t (Read x v) w = w ∙ sym (kept-value x.0 n upto)
    turn t (Write x v) w = w
    turn t (Acquire m) w = (holders m.0 ∙ w.0, λ u. sharers m.0 u ∙ w.1 u)
    turn t (Release m) w = holders m.0 ∙ w
    turn t (AcquireShared m) w = (holders m.0 ∙ w.0, sharers m.0 t ∙ w.1)
    turn t (ReleaseShared m) w = sharers m.0 t ∙ w
    turn t (Begin l) w = let b = begins t in let e = ends t in omega (arith, w, b, e)
    turn t End w = let b = begins t in let e = ends t in omega (arith, w, b, e)
    turn t (Fork u) w = (w.0, forks u.0 ∙ w.1)
    turn t (Join u) w = (exits u.0 ∙ w.0, joins u.0 ∙ w.1)
    turn t Exit w = (
      begins t ∙ (w.0 ∙ sym (ends t)),
      kept-times t is_acquire acquire_none n upto ∙ (w.1 ∙ sym (kept-times t is_release release_none n upto)),
      kept-times t is_acquire_shared acquire_shared_none n upto ∙ (w.2 ∙ sym (kept-times t is_release_shared release_shared_none n upto)),
    )

    follows : (bounds : Bounds) (e : Event) → MayFollow bounds (take n log) e → MayFollow bounds (ev n) e
    follows bounds e w = record {
      known_thread = w.known_thread;
      known_names = w.known_names;
      born = ap (λ b. (thread_of e == 0) || b) (forks (thread_of e)) ∙ w.born;
      not_exited = exits (thread_of e) ∙ w.not_exited;
      in_turn = turn (thread_of e) e.kind w.in_turn;
    }

  well-upto : (bounds : Bounds) → IsWellFormed bounds log → (n : ℕ) → n ≤ length log → IsWellFormed bounds (ev n)
  well-upto bounds well zero l = IsWellFormed-nil bounds
  well-upto bounds well (suc n) l =
      let e = event_at log n (omega (arith, l)) in
      let rest = well-upto bounds well n (omega (arith, l)) in
      ⊎_elim
      (λ g. subst (IsWellFormed bounds) (sym (events_staying-goes log its n (ap not g))) rest)
      (λ h. subst (IsWellFormed bounds) (sym (events_staying-stays log its n e.0 e.1 (ap not h))) (IsWellFormed-push bounds (ev n) e.0 rest (follows n (omega (arith, l)) bounds e.0 (well.each n e.0 e.1))))
      (cases_Bool (goes n))

pub repeat_run_law : (goes : ℕ → Bool) (bounds : Bounds) (log : List Event) (repeats : AreRepeats goes log) → AreEqualAccesses goes log repeats → IsWellFormed bounds log → IsWellFormed bounds (without goes log)
repeat_run_law goes bounds log repeats equal well = well-upto goes log repeats equal bounds well (length log) (omega arith)
