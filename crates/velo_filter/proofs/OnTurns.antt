-- What is left of a well-formed log is well-formed.
use Rattle.std.proofs.Common.{◌≡◌, ℕ, zero, suc, ◌+◌, ◌<◌, ◌≤◌, Bool, true, false, not, cond, List, [], ◌∷◌, ◌++◌, length, take, map, Some, None, refl, sym, ap, ◌∙◌, subst, arith, ⊎_elim}
use Rattle.std.specs.Prelude.{◌&&◌, ◌||◌, ◌==◌, if◌then◌else◌, filter, slice_get, option_and_then, IsTrue, IsFalse}
use Rattle.std.specs.Option.{option_map_or}
use Rattle.std.proofs.Math.Seq.{take-length}
use Rattle.std.proofs.lemmas.Bool.{cases_Bool, and_parts, or_left, or_from, or_parts, both_ways, false_from_ne_true, not-true, eqb-true, false≢true}
use Rattle.std.proofs.lemmas.List.{length-map}
use Rattle.std.proofs.lemmas.List.Sums.{length-filter, count_by-le-length}
use Rattle.std.proofs.lemmas.Option.{slice_get_within}
use Rattle.velo_events.specs.declared.config.Bounds.{Bounds}
use Rattle.velo_events.specs.declared.event.Event.{Event}
use Rattle.velo_events.specs.declared.event.Kind.{Kind}
use Rattle.velo_events.specs.declared.event.Kind.TheVariants.{Read, Write, Acquire, Release, AcquireShared, ReleaseShared, Begin, End, Fork, Join, Exit}
use Rattle.velo_events.specs.Event.{are_same, thread_of, value_of, variable_of, lock_of, exclusive_lock_of, shared_lock_of, thread_forked, thread_joined, is_by, is_begin, is_end, is_exit, is_write, is_acquire, is_acquire_shared, is_begin_by, is_end_by, is_acquire_by, is_release_by, is_acquire_shared_by, is_release_shared_by, is_exit_by, is_fork_of, is_join_of, is_write_of, is_on_lock, is_on_share}
use Rattle.velo_events.specs.Heap.{latest, happened, times, value_in, holder_in, shares_in}
use Rattle.velo_events.specs.Scan.{begins, ends}
use Rattle.velo_events.specs.WellFormed.{MayFollow, IsWellFormed, IsInTurn}
use Rattle.velo_events.proofs.OnBlocks.{any_below-at}
use Rattle.velo_events.proofs.OnTraces.{slice_get-take, latest-push, happened-push, happened-no, latest-nil, times-nil}
use Rattle.velo_events.proofs.OnScans.{take-next, event_at, begins-more, begins-other, ends-more, ends-other, begin_by-no_end_by}
use Rattle.velo_events.proofs.OnWellFormed.{IsWellFormed-nil, IsWellFormed-push, IsWellFormed-take, Facts-from, count_below-none, count_below-zero, any_below-never, is_held_by, held_by, shares_of}
use Rattle.velo_filter.specs.Left.{Omitted, is_among, rest_of}
use Rattle.velo_filter.specs.Stacks.{popped, stack}
use Rattle.velo_filter.proofs.OnRanks.{rank, events_staying, events_staying-stays, events_staying-goes, length-events_staying, take-events_staying}
use Rattle.velo_filter.proofs.OnStacks.{stack-begin, stack-end, stack-other}
use Rattle.velo_filter.proofs.OnLeft.{stays, stays-end, is_left_out-other, rest_of-is, stack-rest}

-- ---- the depth is the height of the stack

pub stack-take : (trace : List Event) (t m k : ℕ) → k ≤ m → stack (take m trace) t k ≡ stack trace t k
unfolding stack
stack-take trace t m zero l = refl
stack-take trace t m (suc k) l = rw (slice_get-take trace m k (omega arith), stack-take trace t m k (omega arith)) refl

nonempty : (bs : List ℕ) → 0 < length bs → (b : ℕ) × (cs : List ℕ) × (bs ≡ b ∷ cs)
nonempty [] l = absurd (omega (arith, l))
nonempty (b ∷ bs) l = (b, bs, refl)

module _ (bounds : Bounds) (trace : List Event) (well : IsWellFormed bounds trace) (t : ℕ) where
  abbrev Height : ℕ → Type 0
  Height n = begins trace t n ≡ ends trace t n + length (stack trace t n)

  height-step : (n : ℕ) (e : Event) → slice_get trace n ≡ Some e → Height n → begins trace t (n + 1) ≡ ends trace t (n + 1) + length (stack trace t (suc n))
  height-step n e here before = ⊎_elim
      (λ h.
      let more = begins-more trace t n e here h in
      let same = ends-other trace t n e here (begin_by-no_end_by t e h) in
      let long = ap length (stack-begin trace t n e here h) in
      omega (arith, before, more, same, long))
      (λ h. ⊎_elim
      (λ g.
      let same = begins-other trace t n e here h in
      let more = ends-more trace t n e here g in
      let some = nonempty (stack trace t n) (omega (arith, before, turn g)) in
      let long = ap length some.2 in
      let short = ap length (stack-end trace t n e here g ∙ ap popped some.2) in
      omega (arith, before, same, more, long, short))
      (λ g.
      let same = begins-other trace t n e here h in
      let also = ends-other trace t n e here g in
      let long = ap length (stack-other trace t n e here h g) in
      omega (arith, before, same, also, long))
      (cases_Bool (is_end_by t e)))
      (cases_Bool (is_begin_by t e))
    where
      ends_in_turn : (k : Kind) → IsTrue (is_end k) → IsInTurn (take n trace) t k → ends trace t n < begins trace t n
      ends_in_turn End h turn = turn
      ends_in_turn (Read x v) h turn = absurd (false≢true h)
      ends_in_turn (Write x v) h turn = absurd (false≢true h)
      ends_in_turn (Acquire m) h turn = absurd (false≢true h)
      ends_in_turn (Release m) h turn = absurd (false≢true h)
      ends_in_turn (AcquireShared m) h turn = absurd (false≢true h)
      ends_in_turn (ReleaseShared m) h turn = absurd (false≢true h)
      ends_in_turn (Begin l) h turn = absurd (false≢true h)
      ends_in_turn (Fork u) h turn = absurd (false≢true h)
      ends_in_turn (Join u) h turn = absurd (false≢true h)
      ends_in_turn Exit h turn = absurd (false≢true h)

      turn : IsTrue (is_end_by t e) → ends trace t n < begins trace t n
      turn g =
          let p = and_parts (is_by t e) (is_end e.kind) g in
          ends_in_turn e.kind p.1 (subst (λ u. IsInTurn (take n trace) u e.kind) (eqb-true (thread_of e) t p.0) (well.each n e here).in_turn)

  pub height : (n : ℕ) → n ≤ length trace → begins trace t n ≡ ends trace t n + length (stack trace t n)
  unfolding stack
  height zero l = let b = times-nil (is_begin_by t) in let e = times-nil (is_end_by t) in omega (arith, b, e)
  height (suc n) l =
      let e = event_at trace n (omega arith) in
      let one : n + 1 ≡ suc n = omega arith in
      let step = height-step n e.0 e.1 (height n (omega arith)) in
      let b = ap (begins trace t) one in let f = ap (ends trace t) one in omega (arith, step, b, f)

-- ---- what the events that stay tell

module _ (left : Omitted) (log : List Event) where
  abbrev ev : ℕ → List Event
  ev n = events_staying log (stays left log) n

  next : (n : ℕ) (e : Event) → slice_get log n ≡ Some e → take (suc n) log ≡ take n log ++ e ∷ []
  next n e here = ap (λ k. take k log) (let one : suc n ≡ n + 1 = omega arith in one) ∙ take-next log n e here

  -- such an operation stays
  abbrev StaysAs : Kind → Type 0
  StaysAs k = IsFalse (is_begin k) × IsFalse (is_end k) × IsFalse (is_among left.locks (lock_of k) || is_among left.variables (variable_of k))

  stays-as : (i : ℕ) (e : Event) → slice_get log i ≡ Some e → StaysAs e.kind → IsTrue (stays left log i)
  stays-as i e here w = ap not (is_left_out-other left log i e here w.0 w.1 ∙ w.2)

  write-as : (x : ℕ) → IsFalse (left.variables x) → (k : Kind) → IsTrue (is_write k && are_same (variable_of k) (Some x)) → StaysAs k
  write-as x free (Read y v) h = absurd (false≢true h)
  write-as x free (Write y v) h = (refl, refl, ap left.variables (eqb-true y.0 x h) ∙ free)
  write-as x free (Acquire n) h = absurd (false≢true h)
  write-as x free (Release n) h = absurd (false≢true h)
  write-as x free (AcquireShared n) h = absurd (false≢true h)
  write-as x free (ReleaseShared n) h = absurd (false≢true h)
  write-as x free (Begin l) h = absurd (false≢true h)
  write-as x free End h = absurd (false≢true h)
  write-as x free (Fork u) h = absurd (false≢true h)
  write-as x free (Join u) h = absurd (false≢true h)
  write-as x free Exit h = absurd (false≢true h)

  lock-as : (m : ℕ) → IsFalse (left.locks m) → (k : Kind) → IsTrue (are_same (lock_of k) (Some m)) → StaysAs k
  lock-as m free (Read y v) h = absurd (false≢true h)
  lock-as m free (Write y v) h = absurd (false≢true h)
  lock-as m free (Acquire n) h = (refl, refl, or_from _ _ (ap left.locks (eqb-true n.0 m h) ∙ free) refl)
  lock-as m free (Release n) h = (refl, refl, or_from _ _ (ap left.locks (eqb-true n.0 m h) ∙ free) refl)
  lock-as m free (AcquireShared n) h = (refl, refl, or_from _ _ (ap left.locks (eqb-true n.0 m h) ∙ free) refl)
  lock-as m free (ReleaseShared n) h = (refl, refl, or_from _ _ (ap left.locks (eqb-true n.0 m h) ∙ free) refl)
  lock-as m free (Begin l) h = absurd (false≢true h)
  lock-as m free End h = absurd (false≢true h)
  lock-as m free (Fork u) h = absurd (false≢true h)
  lock-as m free (Join u) h = absurd (false≢true h)
  lock-as m free Exit h = absurd (false≢true h)

  -- an operation on a lock, alone or shared
  alone-lock : (m : ℕ) (k : Kind) → IsTrue (are_same (exclusive_lock_of k) (Some m)) → IsTrue (are_same (lock_of k) (Some m))
  alone-lock m (Read y v) h = absurd (false≢true h)
  alone-lock m (Write y v) h = absurd (false≢true h)
  alone-lock m (Acquire n) h = h
  alone-lock m (Release n) h = h
  alone-lock m (AcquireShared n) h = absurd (false≢true h)
  alone-lock m (ReleaseShared n) h = absurd (false≢true h)
  alone-lock m (Begin l) h = absurd (false≢true h)
  alone-lock m End h = absurd (false≢true h)
  alone-lock m (Fork u) h = absurd (false≢true h)
  alone-lock m (Join u) h = absurd (false≢true h)
  alone-lock m Exit h = absurd (false≢true h)

  shared-lock : (m : ℕ) (k : Kind) → IsTrue (are_same (shared_lock_of k) (Some m)) → IsTrue (are_same (lock_of k) (Some m))
  shared-lock m (Read y v) h = absurd (false≢true h)
  shared-lock m (Write y v) h = absurd (false≢true h)
  shared-lock m (Acquire n) h = absurd (false≢true h)
  shared-lock m (Release n) h = absurd (false≢true h)
  shared-lock m (AcquireShared n) h = h
  shared-lock m (ReleaseShared n) h = h
  shared-lock m (Begin l) h = absurd (false≢true h)
  shared-lock m End h = absurd (false≢true h)
  shared-lock m (Fork u) h = absurd (false≢true h)
  shared-lock m (Join u) h = absurd (false≢true h)
  shared-lock m Exit h = absurd (false≢true h)

  fork-as : (t : ℕ) → (k : Kind) → IsTrue (are_same (thread_forked k) (Some t)) → StaysAs k
  fork-as t (Read y v) h = absurd (false≢true h)
  fork-as t (Write y v) h = absurd (false≢true h)
  fork-as t (Acquire n) h = absurd (false≢true h)
  fork-as t (Release n) h = absurd (false≢true h)
  fork-as t (AcquireShared n) h = absurd (false≢true h)
  fork-as t (ReleaseShared n) h = absurd (false≢true h)
  fork-as t (Begin l) h = absurd (false≢true h)
  fork-as t End h = absurd (false≢true h)
  fork-as t (Fork u) h = (refl, refl, refl)
  fork-as t (Join u) h = absurd (false≢true h)
  fork-as t Exit h = absurd (false≢true h)

  join-as : (t : ℕ) → (k : Kind) → IsTrue (are_same (thread_joined k) (Some t)) → StaysAs k
  join-as t (Read y v) h = absurd (false≢true h)
  join-as t (Write y v) h = absurd (false≢true h)
  join-as t (Acquire n) h = absurd (false≢true h)
  join-as t (Release n) h = absurd (false≢true h)
  join-as t (AcquireShared n) h = absurd (false≢true h)
  join-as t (ReleaseShared n) h = absurd (false≢true h)
  join-as t (Begin l) h = absurd (false≢true h)
  join-as t End h = absurd (false≢true h)
  join-as t (Fork u) h = absurd (false≢true h)
  join-as t (Join u) h = (refl, refl, refl)
  join-as t Exit h = absurd (false≢true h)

  exit-as : (k : Kind) → IsTrue (is_exit k) → StaysAs k
  exit-as (Read y v) h = absurd (false≢true h)
  exit-as (Write y v) h = absurd (false≢true h)
  exit-as (Acquire n) h = absurd (false≢true h)
  exit-as (Release n) h = absurd (false≢true h)
  exit-as (AcquireShared n) h = absurd (false≢true h)
  exit-as (ReleaseShared n) h = absurd (false≢true h)
  exit-as (Begin l) h = absurd (false≢true h)
  exit-as End h = absurd (false≢true h)
  exit-as (Fork u) h = absurd (false≢true h)
  exit-as (Join u) h = absurd (false≢true h)
  exit-as Exit h = (refl, refl, refl)

  -- an operation on a lock that is left out goes
  abbrev GoesAs : Kind → Type 0
  GoesAs k = IsFalse (is_begin k) × IsFalse (is_end k) × IsTrue (is_among left.locks (lock_of k) || is_among left.variables (variable_of k))

  lock-gone : (m : ℕ) → IsTrue (left.locks m) → (k : Kind) → IsTrue (are_same (lock_of k) (Some m)) → GoesAs k
  lock-gone m out (Read y v) h = absurd (false≢true h)
  lock-gone m out (Write y v) h = absurd (false≢true h)
  lock-gone m out (Acquire n) h = (refl, refl, or_left _ _ (ap left.locks (eqb-true n.0 m h) ∙ out))
  lock-gone m out (Release n) h = (refl, refl, or_left _ _ (ap left.locks (eqb-true n.0 m h) ∙ out))
  lock-gone m out (AcquireShared n) h = (refl, refl, or_left _ _ (ap left.locks (eqb-true n.0 m h) ∙ out))
  lock-gone m out (ReleaseShared n) h = (refl, refl, or_left _ _ (ap left.locks (eqb-true n.0 m h) ∙ out))
  lock-gone m out (Begin l) h = absurd (false≢true h)
  lock-gone m out End h = absurd (false≢true h)
  lock-gone m out (Fork u) h = absurd (false≢true h)
  lock-gone m out (Join u) h = absurd (false≢true h)
  lock-gone m out Exit h = absurd (false≢true h)

  -- the events that pass all stay
  abbrev AllStay : (Event → Bool) → Type 0
  AllStay test = (i : ℕ) (e : Event) → slice_get log i ≡ Some e → IsTrue (test e) → IsTrue (stays left log i)

  module _ (test : Event → Bool) (all : AllStay test) where
    fails : (n : ℕ) (e : Event) → slice_get log n ≡ Some e → IsFalse (stays left log n) → IsFalse (test e)
    fails n e here h = false_from_ne_true _ (λ passes. both_ways _ h (all n e here passes))

    latest-rest : (n : ℕ) → n ≤ length log → latest test (ev n) ≡ latest test (take n log)
    latest-rest zero l = refl
    latest-rest (suc n) l =
        let e = event_at log n (omega arith) in
        let before = latest-rest n (omega arith) in
        let old : latest test (take (suc n) log) ≡ (if test e.0 then Some e.0 else latest test (take n log)) = ap (latest test) (next n e.0 e.1) ∙ latest-push test (take n log) e.0 in
        ⊎_elim
        (λ h. ap (latest test) (events_staying-stays log (stays left log) n e.0 e.1 h) ∙ (latest-push test (ev n) e.0 ∙ (ap (λ o. if test e.0 then Some e.0 else o) before ∙ sym old)))
        (λ h. ap (latest test) (events_staying-goes log (stays left log) n h) ∙ (before ∙ sym (old ∙ ap (λ b. if b then Some e.0 else latest test (take n log)) (fails n e.0 e.1 h))))
        (cases_Bool (stays left log n))

    happened-rest : (n : ℕ) → n ≤ length log → happened test (ev n) ≡ happened test (take n log)
    happened-rest zero l = refl
    happened-rest (suc n) l =
        let e = event_at log n (omega arith) in
        let before = happened-rest n (omega arith) in
        ⊎_elim
        (λ h. ap (happened test) (events_staying-stays log (stays left log) n e.0 e.1 h) ∙ (happened-push test (ev n) e.0 ∙ (ap (λ b. b || test e.0) before ∙ sym (ap (happened test) (next n e.0 e.1) ∙ happened-push test (take n log) e.0))))
        (λ h. ap (happened test) (events_staying-goes log (stays left log) n h) ∙ (before ∙ sym (ap (happened test) (next n e.0 e.1) ∙ happened-no test (take n log) e.0 (fails n e.0 e.1 h))))
        (cases_Bool (stays left log n))

  -- none that passes stays
  latest-gone : (test : Event → Bool) → ((i : ℕ) (e : Event) → slice_get log i ≡ Some e → IsTrue (test e) → IsFalse (stays left log i)) → (n : ℕ) → n ≤ length log → latest test (ev n) ≡ None
  latest-gone test none zero l = latest-nil test
  latest-gone test none (suc n) l =
      let e = event_at log n (omega arith) in
      let before = latest-gone test none n (omega arith) in
      ⊎_elim
      (λ h. ap (latest test) (events_staying-stays log (stays left log) n e.0 e.1 h) ∙ (latest-push test (ev n) e.0
      ∙ (ap (λ b. if b then Some e.0 else latest test (ev n)) (false_from_ne_true _ (λ passes. both_ways _ (none n e.0 e.1 passes) h)) ∙ before)))
      (λ h. ap (latest test) (events_staying-goes log (stays left log) n h) ∙ before)
      (cases_Bool (stays left log n))

  forks-rest : (t n : ℕ) → n ≤ length log → happened (is_fork_of t) (ev n) ≡ happened (is_fork_of t) (take n log)
  forks-rest t n l = happened-rest (is_fork_of t) (λ i e here h. stays-as i e here (fork-as t e.kind h)) n l

  joins-rest : (t n : ℕ) → n ≤ length log → happened (is_join_of t) (ev n) ≡ happened (is_join_of t) (take n log)
  joins-rest t n l = happened-rest (is_join_of t) (λ i e here h. stays-as i e here (join-as t e.kind h)) n l

  exits-rest : (t n : ℕ) → n ≤ length log → happened (is_exit_by t) (ev n) ≡ happened (is_exit_by t) (take n log)
  exits-rest t n l = happened-rest (is_exit_by t) (λ i e here h. stays-as i e here (exit-as e.kind (and_parts (is_by t e) (is_exit e.kind) h).1)) n l

  -- a variable that is not left out has its value, and a lock that is not left out its holder
  value-rest : (x n : ℕ) → n ≤ length log → IsFalse (left.variables x) → value_in (ev n) x ≡ value_in (take n log) x
  value-rest x n l free = ap (λ o. option_map_or (λ e. value_of e.kind) o 0) (latest-rest (is_write_of x) (λ i e here h. stays-as i e here (write-as x free e.kind h)) n l)

  holder-rest : (m n : ℕ) → n ≤ length log → IsFalse (left.locks m) → holder_in (ev n) m ≡ holder_in (take n log) m
  holder-rest m n l free = ap (option_and_then (λ e. if is_acquire e.kind then Some (thread_of e) else None)) (latest-rest (is_on_lock m) (λ i e here h. stays-as i e here (lock-as m free e.kind (alone-lock m e.kind h))) n l)

  -- and a lock that is left out has none
  holder-gone : (m n : ℕ) → n ≤ length log → IsTrue (left.locks m) → holder_in (ev n) m ≡ None
  holder-gone m n l out = ap (option_and_then (λ e. if is_acquire e.kind then Some (thread_of e) else None))
      (latest-gone (is_on_lock m) (λ i e here h. let w = lock-gone m out e.kind (alone-lock m e.kind h) in ap not (is_left_out-other left log i e here w.0 w.1 ∙ w.2)) n l)

  -- the same of the threads that share it
  shares-rest : (m t n : ℕ) → n ≤ length log → IsFalse (left.locks m) → shares_in (ev n) m t ≡ shares_in (take n log) m t
  shares-rest m t n l free = ap (λ o. option_map_or (λ e. is_acquire_shared e.kind) o false)
      (latest-rest (is_on_share m t) (λ i e here h. stays-as i e here (lock-as m free e.kind (shared-lock m e.kind (and_parts (is_by t e) _ h).1))) n l)

  shares-gone : (m t n : ℕ) → n ≤ length log → IsTrue (left.locks m) → shares_in (ev n) m t ≡ false
  shares-gone m t n l out = ap (λ o. option_map_or (λ e. is_acquire_shared e.kind) o false)
      (latest-gone (is_on_share m t) (λ i e here h. let w = lock-gone m out e.kind (shared-lock m e.kind (and_parts (is_by t e) _ h).1) in ap not (is_left_out-other left log i e here w.0 w.1 ∙ w.2)) n l)

  -- ---- the next event that stays may follow those that stayed

  module _ (bounds : Bounds) (well : IsWellFormed bounds log) (n : ℕ) (e : Event) (here : slice_get log n ≡ Some e) (stay : IsTrue (stays left log n)) (before : IsWellFormed bounds (ev n)) where
    most : n ≤ length log
    most = let within = slice_get_within log n e here in omega (arith, within)

    may : MayFollow bounds (take n log) e
    may = well.each n e here

    abbrev t : ℕ
    t = thread_of e

    abbrev whole : List Event
    whole = events_staying log (stays left log) (length log)

    -- the stack of those that stayed
    stack-here : stack (ev n) t (rank (stays left log) n) ≡ map (rank (stays left log)) (filter (stays left log) (stack log t n))
    stack-here =
        ap (λ es. stack es t (rank (stays left log) n)) (sym (take-events_staying log (stays left log) n (length log) most (omega arith)))
        ∙ (stack-take whole t (rank (stays left log) n) (rank (stays left log) n) (omega arith) ∙ stack-rest left log t n most)

    height-here : times (is_begin_by t) (ev n) ≡ times (is_end_by t) (ev n) + length (map (rank (stays left log)) (filter (stays left log) (stack log t n)))
    height-here =
        let long = length-events_staying log (stays left log) n most in
        let h = height bounds (ev n) before t (rank (stays left log) n) (omega (arith, long)) in
        let same : take (rank (stays left log) n) (ev n) ≡ ev n = ap (λ k. take k (ev n)) (sym long) ∙ take-length (ev n) in
        let b = ap (times (is_begin_by t)) same in let f = ap (times (is_end_by t)) same in
        omega (arith, h, b, f, ap length stack-here)

    not_higher : length (map (rank (stays left log)) (filter (stays left log) (stack log t n))) ≤ length (stack log t n)
    not_higher = omega (arith, length-map (filter (stays left log) (stack log t n)) (rank (stays left log)), length-filter (stays left log) (stack log t n), count_by-le-length (stays left log) (stack log t n))

    height-log : times (is_begin_by t) (take n log) ≡ times (is_end_by t) (take n log) + length (stack log t n)
    height-log = height bounds log well t n most

    on_such : IsFalse (is_begin e.kind) → IsFalse (is_end e.kind) → IsFalse (is_among left.locks (lock_of e.kind)) × IsFalse (is_among left.variables (variable_of e.kind))
    on_such h g = or_parts _ _ (sym (is_left_out-other left log n e here h g) ∙ not-true _ stay)

    -- an end that stays has a begin that stays
    end-rest : IsTrue (is_end e.kind) → times (is_end_by t) (take n log) < times (is_begin_by t) (take n log) → times (is_end_by t) (ev n) < times (is_begin_by t) (ev n)
    end-rest h turn =
        let some = nonempty (stack log t n) (let e = height-log in omega (arith, e, turn)) in
        let kept : stays left log some.0 ≡ true = sym (stays-end left log n some.0 e here h some.1 some.2) ∙ stay in
        let top : filter (stays left log) (stack log t n) ≡ some.0 ∷ filter (stays left log) some.1 = ap (filter (stays left log)) some.2 ∙ ap (λ b. cond b (some.0 ∷ filter (stays left log) some.1) (filter (stays left log) some.1)) kept in
        omega (arith, height-here, ap length (ap (map (rank (stays left log))) top))

    -- a thread that holds no lock holds none of those that stay
    free-rest : times (is_acquire_by t) (take n log) ≡ times (is_release_by t) (take n log) → times (is_acquire_by t) (ev n) ≡ times (is_release_by t) (ev n)
    free-rest even =
        let old = (Facts-from bounds (take n log) (IsWellFormed-take bounds log n most well)).held t in
        let none = count_below-none bounds.locks (is_held_by (take n log) t) (omega (arith, old, even)) in
        let new = (Facts-from bounds (ev n) before).held t in
        let still : held_by bounds (ev n) t ≡ 0 = count_below-zero bounds.locks (is_held_by (ev n) t) (any_below-never bounds.locks (is_held_by (ev n) t) (λ m l. ⊎_elim
        (λ out. ap (λ h. are_same h (Some t)) (holder-gone m n most out))
        (λ free. ap (λ h. are_same h (Some t)) (holder-rest m n most free) ∙ false_from_ne_true _ (λ held. both_ways _ none (any_below-at bounds.locks (is_held_by (take n log) t) m l held)))
        (cases_Bool (left.locks m)))) in
        omega (arith, new, still)

    -- and one that shares none shares none of them
    unshared-rest : times (is_acquire_shared_by t) (take n log) ≡ times (is_release_shared_by t) (take n log) → times (is_acquire_shared_by t) (ev n) ≡ times (is_release_shared_by t) (ev n)
    unshared-rest even =
        let old = (Facts-from bounds (take n log) (IsWellFormed-take bounds log n most well)).shared t in
        let none = count_below-none bounds.locks (λ m. shares_in (take n log) m t) (omega (arith, old, even)) in
        let new = (Facts-from bounds (ev n) before).shared t in
        let still : shares_of bounds (ev n) t ≡ 0 = count_below-zero bounds.locks (λ m. shares_in (ev n) m t) (any_below-never bounds.locks (λ m. shares_in (ev n) m t) (λ m l. ⊎_elim
        (λ out. shares-gone m t n most out)
        (λ free. shares-rest m t n most free ∙ false_from_ne_true _ (λ shared. both_ways _ none (any_below-at bounds.locks (λ k. shares_in (take n log) k t) m l shared)))
        (cases_Bool (left.locks m)))) in
        omega (arith, new, still)

    in_turn : (k : Kind) → e.kind ≡ k → IsInTurn (take n log) t k → IsInTurn (ev n) t k
    in_turn (Read x v) is turn =
        let free : left.variables x.0 ≡ false = ap (λ k. is_among left.variables (variable_of k)) (sym is) ∙ (on_such (ap is_begin is) (ap is_end is)).1 in
        turn ∙ sym (value-rest x.0 n most free)
    in_turn (Write x v) is turn = turn
    in_turn (Acquire m) is turn =
        let free : left.locks m.0 ≡ false = ap (λ k. is_among left.locks (lock_of k)) (sym is) ∙ (on_such (ap is_begin is) (ap is_end is)).0 in
        (holder-rest m.0 n most free ∙ turn.0, λ u. shares-rest m.0 u n most free ∙ turn.1 u)
    in_turn (AcquireShared m) is turn =
        let free : left.locks m.0 ≡ false = ap (λ k. is_among left.locks (lock_of k)) (sym is) ∙ (on_such (ap is_begin is) (ap is_end is)).0 in
        (holder-rest m.0 n most free ∙ turn.0, shares-rest m.0 t n most free ∙ turn.1)
    in_turn (ReleaseShared m) is turn =
        let free : left.locks m.0 ≡ false = ap (λ k. is_among left.locks (lock_of k)) (sym is) ∙ (on_such (ap is_begin is) (ap is_end is)).0 in
        shares-rest m.0 t n most free ∙ turn
    in_turn (Release m) is turn =
        let free : left.locks m.0 ≡ false = ap (λ k. is_among left.locks (lock_of k)) (sym is) ∙ (on_such (ap is_begin is) (ap is_end is)).0 in
        holder-rest m.0 n most free ∙ turn
    in_turn (Begin l) is turn = omega (arith, height-here, height-log, not_higher, turn)
    in_turn End is turn = end-rest (ap is_end is) turn
    in_turn (Fork u) is turn = (turn.0, forks-rest u.0 n most ∙ turn.1)
    in_turn (Join u) is turn = (exits-rest u.0 n most ∙ turn.0, joins-rest u.0 n most ∙ turn.1)
    in_turn Exit is turn = (omega (arith, height-here, height-log, not_higher, turn.0), free-rest turn.1, unshared-rest turn.2)

    follows : MayFollow bounds (ev n) e
    follows = record {
      known_thread = may.known_thread;
      known_names = may.known_names;
      born = ap (λ b. (t == 0) || b) (forks-rest t n most) ∙ may.born;
      not_exited = exits-rest t n most ∙ may.not_exited;
      in_turn = in_turn e.kind refl may.in_turn;
    }

  well-rest : (bounds : Bounds) → IsWellFormed bounds log → (n : ℕ) → n ≤ length log → IsWellFormed bounds (ev n)
  well-rest bounds well zero l = IsWellFormed-nil bounds
  well-rest bounds well (suc n) l =
      let e = event_at log n (omega arith) in
      let before = well-rest bounds well n (omega arith) in
      ⊎_elim
      (λ h. subst (IsWellFormed bounds) (sym (events_staying-stays log (stays left log) n e.0 e.1 h)) (IsWellFormed-push bounds (ev n) e.0 before (follows bounds well n e.0 e.1 h before)))
      (λ h. subst (IsWellFormed bounds) (sym (events_staying-goes log (stays left log) n h)) before)
      (cases_Bool (stays left log n))

-- What is left is well-formed again
pub IsWellFormed-rest : (left : Omitted) (bounds : Bounds) (log : List Event) → IsWellFormed bounds log → IsWellFormed bounds (rest_of left log)
IsWellFormed-rest left bounds log well = subst (IsWellFormed bounds) (sym (rest_of-is left log)) (well-rest left log bounds well (length log) (omega arith))
