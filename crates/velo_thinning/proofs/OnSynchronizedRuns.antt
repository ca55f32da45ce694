-- The events of a log that synchronize can come about by themselves.
use Rattle.std.proofs.Common.{◌≡◌, ℕ, Bool, false, List, [], ◌∷◌, ◌++◌, Option, Some, None, refl, sym, ap, ◌∙◌, subst, ⊎_elim}
use Rattle.std.specs.Prelude.{◌+◌, ◌&&◌, ◌||◌, ◌==◌, if◌then◌else◌, option_and_then, IsTrue, IsFalse}
use Rattle.std.specs.Option.{option_map_or}
use Rattle.std.proofs.lemmas.Bool.{cases_Bool, and_parts, and_right, both_ways, false≢true, false_from_ne_true}
use Rattle.velo_events.specs.declared.config.Bounds.{Bounds}
use Rattle.velo_events.specs.declared.event.Event.{Event}
use Rattle.velo_events.specs.declared.event.Kind.{Kind}
use Rattle.velo_events.specs.declared.event.Kind.TheVariants.{Read, Write, Acquire, Release, AcquireShared, ReleaseShared, Begin, End, Fork, Join, Exit}
use Rattle.velo_events.specs.Event.{are_same, thread_of, exclusive_lock_of, shared_lock_of, thread_forked, thread_joined, is_acquire, is_release, is_acquire_shared, is_release_shared, is_begin, is_end, is_exit, is_by, is_on_lock, is_on_share, is_exit_by, is_fork_of, is_join_of}
use Rattle.velo_events.specs.Heap.{latest, happened, times, holder_in, shares_in}
use Rattle.velo_events.specs.WellFormed.{IsInTurn, MayFollow, IsWellFormed}
use Rattle.velo_events.proofs.OnTraces.{append-induct}
use Rattle.velo_events.proofs.OnTraces.{latest-push, happened-push, happened-no, times-push, times-no, times-nil}
use Rattle.velo_events.proofs.OnWellFormed.{IsWellFormed-nil, IsWellFormed-push, IsWellFormed-induct}
use Rattle.velo_thinning.specs.Races.{is_synchronizing, synchronizes}
use Rattle.velo_thinning.specs.Sweep.{synchronizing}
use Rattle.velo_thinning.proofs.OnSynchronizing.{synchronizing-more, synchronizing-same}

-- ---- what is read of them

-- what looks at no other event reads the same of them
kept : {X : Type 0} (G : List Event → X) → ((xs : List Event) (e : Event) → IsFalse (synchronizes e) → G (xs ++ e ∷ []) ≡ G xs) → ((xs ys : List Event) (e : Event) → G xs ≡ G ys → G (xs ++ e ∷ []) ≡ G (ys ++ e ∷ [])) → (xs : List Event) → G (synchronizing xs) ≡ G xs
kept G others same xs = append-induct (λ ys. G (synchronizing ys) ≡ G ys) step [] xs refl
  where
    step : (ys : List Event) (e : Event) → G (synchronizing ys) ≡ G ys → G (synchronizing (ys ++ e ∷ [])) ≡ G (ys ++ e ∷ [])
    step ys e h = ⊎_elim
        (λ more. ap G (synchronizing-more ys e more) ∙ same (synchronizing ys) ys e h)
        (λ less. ap G (synchronizing-same ys e less) ∙ (h ∙ sym (others ys e less)))
        (cases_Bool (synchronizes e))

-- the test looks for a kind that synchronizes
abbrev IsKept : (Event → Bool) → Type 0
IsKept test = (f : Event) → IsTrue (test f) → IsTrue (synchronizes f)

not_passed : (test : Event → Bool) → IsKept test → (f : Event) → IsFalse (synchronizes f) → IsFalse (test f)
not_passed test all f none = false_from_ne_true _ (λ h. both_ways (synchronizes f) none (all f h))

kept-latest : (test : Event → Bool) → IsKept test → (xs : List Event) → latest test (synchronizing xs) ≡ latest test xs
kept-latest test all = kept (latest test)
    (λ xs e none. latest-push test xs e ∙ ap (λ b. if b then Some e else latest test xs) (not_passed test all e none))
    (λ xs ys e h. latest-push test xs e ∙ (ap (λ o. if test e then Some e else o) h ∙ sym (latest-push test ys e)))

kept-happened : (test : Event → Bool) → IsKept test → (xs : List Event) → happened test (synchronizing xs) ≡ happened test xs
kept-happened test all = kept (happened test)
    (λ xs e none. happened-no test xs e (not_passed test all e none))
    (λ xs ys e h. happened-push test xs e ∙ (ap (λ b. b || test e) h ∙ sym (happened-push test ys e)))

kept-times : (test : Event → Bool) → IsKept test → (xs : List Event) → times test (synchronizing xs) ≡ times test xs
kept-times test all = kept (times test)
    (λ xs e none. times-no test xs e (not_passed test all e none))
    (λ xs ys e h. times-push test xs e ∙ (ap (λ n. n + (if test e then 1 else 0)) h ∙ sym (times-push test ys e)))

-- no other event is among them
none-times : (test : Event → Bool) → ((f : Event) → IsTrue (synchronizes f) → IsFalse (test f)) → (xs : List Event) → times test (synchronizing xs) ≡ 0
none-times test none xs = append-induct (λ ys. times test (synchronizing ys) ≡ 0) step [] xs (times-nil test)
  where
    step : (ys : List Event) (e : Event) → times test (synchronizing ys) ≡ 0 → times test (synchronizing (ys ++ e ∷ [])) ≡ 0
    step ys e h = ⊎_elim
        (λ more. ap (times test) (synchronizing-more ys e more) ∙ (times-no test (synchronizing ys) e (none e more) ∙ h))
        (λ less. ap (times test) (synchronizing-same ys e less) ∙ h)
        (cases_Bool (synchronizes e))

-- ---- by kinds

lock_kind : (k : Kind) (o : Option ℕ) → IsTrue (are_same (exclusive_lock_of k) o) → IsTrue (is_synchronizing k)
lock_kind (Acquire m) o h = refl
lock_kind (Release m) o h = refl
lock_kind _ o h = absurd (false≢true h)

share_kind : (k : Kind) (o : Option ℕ) → IsTrue (are_same (shared_lock_of k) o) → IsTrue (is_synchronizing k)
share_kind (AcquireShared m) o h = refl
share_kind (ReleaseShared m) o h = refl
share_kind _ o h = absurd (false≢true h)

fork_kind : (k : Kind) (o : Option ℕ) → IsTrue (are_same (thread_forked k) o) → IsTrue (is_synchronizing k)
fork_kind (Fork u) o h = refl
fork_kind _ o h = absurd (false≢true h)

join_kind : (k : Kind) (o : Option ℕ) → IsTrue (are_same (thread_joined k) o) → IsTrue (is_synchronizing k)
join_kind (Join u) o h = refl
join_kind _ o h = absurd (false≢true h)

pub exit_kind : (k : Kind) → IsTrue (is_exit k) → IsTrue (is_synchronizing k)
exit_kind Exit h = refl
exit_kind _ h = absurd (false≢true h)

acquire_kind : (k : Kind) → IsTrue (is_acquire k) → IsTrue (is_synchronizing k)
acquire_kind (Acquire m) h = refl
acquire_kind _ h = absurd (false≢true h)

release_kind : (k : Kind) → IsTrue (is_release k) → IsTrue (is_synchronizing k)
release_kind (Release m) h = refl
release_kind _ h = absurd (false≢true h)

acquire_shared_kind : (k : Kind) → IsTrue (is_acquire_shared k) → IsTrue (is_synchronizing k)
acquire_shared_kind (AcquireShared m) h = refl
acquire_shared_kind _ h = absurd (false≢true h)

release_shared_kind : (k : Kind) → IsTrue (is_release_shared k) → IsTrue (is_synchronizing k)
release_shared_kind (ReleaseShared m) h = refl
release_shared_kind _ h = absurd (false≢true h)

begin_kind : (k : Kind) → IsTrue (is_synchronizing k) → IsFalse (is_begin k)
begin_kind (Begin l) h = absurd (false≢true h)
begin_kind _ h = refl

end_kind : (k : Kind) → IsTrue (is_synchronizing k) → IsFalse (is_end k)
end_kind End h = absurd (false≢true h)
end_kind _ h = refl

-- ---- so each may follow those before it

module _ (xs : List Event) where
  abbrev own : List Event
  own = synchronizing xs

  holders : (m : ℕ) → holder_in own m ≡ holder_in xs m
  holders m = ap (λ o. option_and_then (λ e. if is_acquire e.kind then Some (thread_of e) else None) o) (kept-latest (is_on_lock m) (λ f h. lock_kind f.kind (Some m) h) xs)

  sharers : (m t : ℕ) → shares_in own m t ≡ shares_in xs m t
  sharers m t = ap (λ o. option_map_or (λ e. is_acquire_shared e.kind) o false) (kept-latest (is_on_share m t) (λ f h. share_kind f.kind (Some m) (and_parts (is_by t f) _ h).1) xs)

  forks : (t : ℕ) → happened (is_fork_of t) own ≡ happened (is_fork_of t) xs
  forks t = kept-happened (is_fork_of t) (λ f h. fork_kind f.kind (Some t) h) xs

  joins : (t : ℕ) → happened (is_join_of t) own ≡ happened (is_join_of t) xs
  joins t = kept-happened (is_join_of t) (λ f h. join_kind f.kind (Some t) h) xs

  exits : (t : ℕ) → happened (is_exit_by t) own ≡ happened (is_exit_by t) xs
  exits t = kept-happened (is_exit_by t) (λ f h. exit_kind f.kind (and_parts (is_by t f) _ h).1) xs

  counts : (t : ℕ) (is : Kind → Bool) → ((k : Kind) → IsTrue (is k) → IsTrue (is_synchronizing k)) → times (λ f. is_by t f && is f.kind) own ≡ times (λ f. is_by t f && is f.kind) xs
  counts t is all = kept-times (λ f. is_by t f && is f.kind) (λ f h. all f.kind (and_parts (is_by t f) (is f.kind) h).1) xs

  empty : (t : ℕ) (is : Kind → Bool) → ((k : Kind) → IsTrue (is_synchronizing k) → IsFalse (is k)) → times (λ f. is_by t f && is f.kind) own ≡ 0
  empty t is none = none-times (λ f. is_by t f && is f.kind) (λ f h. and_right (is_by t f) (is f.kind) (none f.kind h)) xs

  turn : (t : ℕ) (k : Kind) → IsTrue (is_synchronizing k) → IsInTurn xs t k → IsInTurn own t k
  turn t (Acquire m) does w = (holders m.0 ∙ w.0, λ u. sharers m.0 u ∙ w.1 u)
  turn t (Release m) does w = holders m.0 ∙ w
  turn t (AcquireShared m) does w = (holders m.0 ∙ w.0, sharers m.0 t ∙ w.1)
  turn t (ReleaseShared m) does w = sharers m.0 t ∙ w
  turn t (Fork u) does w = (w.0, forks u.0 ∙ w.1)
  turn t (Join u) does w = (exits u.0 ∙ w.0, joins u.0 ∙ w.1)
  turn t Exit does w = (
    empty t is_begin begin_kind ∙ sym (empty t is_end end_kind),
    counts t is_acquire acquire_kind ∙ (w.1 ∙ sym (counts t is_release release_kind)),
    counts t is_acquire_shared acquire_shared_kind ∙ (w.2 ∙ sym (counts t is_release_shared release_shared_kind)),
  )
  turn t (Read x v) does w = absurd (false≢true does)
  turn t (Write x v) does w = absurd (false≢true does)
  turn t (Begin l) does w = absurd (false≢true does)
  turn t End does w = absurd (false≢true does)

  follows : (bounds : Bounds) (e : Event) → IsTrue (synchronizes e) → MayFollow bounds xs e → MayFollow bounds own e
  follows bounds e does w = record {
    known_thread = w.known_thread;
    known_names = w.known_names;
    born = ap (λ b. (thread_of e == 0) || b) (forks (thread_of e)) ∙ w.born;
    not_exited = exits (thread_of e) ∙ w.not_exited;
    in_turn = turn (thread_of e) e.kind does w.in_turn;
  }

pub well-synchronizing : (bounds : Bounds) (log : List Event) → IsWellFormed bounds log → IsWellFormed bounds (synchronizing log)
well-synchronizing bounds log well = IsWellFormed-induct bounds (λ xs. IsWellFormed bounds (synchronizing xs)) (IsWellFormed-nil bounds)
    (λ xs e earlier own w. ⊎_elim
    (λ does. subst (IsWellFormed bounds) (sym (synchronizing-more xs e does)) (IsWellFormed-push bounds (synchronizing xs) e own (follows xs bounds e does w)))
    (λ doesnt. subst (IsWellFormed bounds) (sym (synchronizing-same xs e doesnt)) own)
    (cases_Bool (synchronizes e)))
    log well
