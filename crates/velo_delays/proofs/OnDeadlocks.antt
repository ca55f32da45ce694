-- Threads that wait in a circle: what they wait to do, and deadlocks found one after another.
use Rattle.std.proofs.Common.{◌≡◌, ℕ, zero, suc, ◌+◌, ◌<◌, ◌≢◌, Bool, true, false, List, [], ◌∷◌, ◌++◌, get_or, length, take, Option, Some, None, refl, sym, ap, ◌∙◌, subst, ⊎_elim}
use Rattle.std.specs.Prelude.{◌==◌, ◌||◌, All, IfSome, IsFalse, IsTrue, option_map, slice_get}
use Rattle.std.specs.List.{cons_option, flat_map}
use Rattle.std.proofs.lemmas.Grind.{flat_map-append}
use Rattle.std.proofs.lemmas.List.{append-nil, take_more}
use Rattle.std.proofs.lemmas.List.Elements.{All-from_get_or, filter_map-append}
use Rattle.std.proofs.lemmas.Option.{none-some, same_Some, slice_get-get_or, slice_get_within}
use Rattle.velo_events.specs.declared.config.Bounds.{Bounds}
use Rattle.velo_events.specs.declared.event.Event.{Event}
use Rattle.velo_events.specs.declared.event.LockId.{LockId}
use Rattle.velo_filter.specs.Left.{is_listed, with_number}
use Rattle.velo_filter.proofs.OnTables.{is_listed-append, is_listed-nil, is_listed-one}
use Rattle.velo_predict.specs.declared.waits.Waiting.{Waiting}
use Rattle.velo_predict.specs.Waits.{IsCircle}
use Rattle.velo_delays.specs.declared.stuck.Awaited.{Awaited}
use Rattle.velo_delays.specs.declared.stuck.Deadlock.{Deadlock}
use Rattle.velo_delays.specs.Deadlock.{AreDeadlocks, IsDeadlock, IsDeadlockAfter, TakesIn, lock_acquired, locks_of, locks_waited_for, with_numbers}
use Rattle.velo_delays.specs.Found.{HasNew}
use Rattle.velo_delays.proofs.OnFound.{each-push, listed-first, listed-later}

-- it is in the log
pub waiting_within : (log trace : List Event) (circle : List Waiting) → IsCircle log trace circle → All (λ (w : Waiting). w.next < length log) circle
waiting_within log trace circle is =
    All-from_get_or (λ (w : Waiting). w.next < length log) circle (record { thread = record { 0 = 0 }; next = 0 })
    (λ i within. let due = is.due.each i _ (slice_get-get_or circle i (record { thread = record { 0 = 0 }; next = 0 }) within) in slice_get_within log _ due.next due.there)

-- ---- locks that are done

-- one event more
locks_of-push : (waiting : List Awaited) (a : Awaited) → locks_of (waiting ++ a ∷ []) ≡ locks_of waiting ++ cons_option (lock_acquired a.event.kind) []
locks_of-push waiting a = filter_map-append (λ (a : Awaited). lock_acquired a.event.kind) waiting (a ∷ [])

locks_of-none : (waiting : List Awaited) (a : Awaited) → lock_acquired a.event.kind ≡ None → locks_of (waiting ++ a ∷ []) ≡ locks_of waiting
locks_of-none waiting a none = locks_of-push waiting a ∙ (ap (λ o. locks_of waiting ++ cons_option o []) none ∙ append-nil (locks_of waiting))

locks_of-some : (waiting : List Awaited) (a : Awaited) (m : ℕ) → lock_acquired a.event.kind ≡ Some m → locks_of (waiting ++ a ∷ []) ≡ locks_of waiting ++ m ∷ []
locks_of-some waiting a m some = locks_of-push waiting a ∙ ap (λ o. locks_of waiting ++ cons_option o []) some

still-listed : (o : Option ℕ) (locks : List ℕ) (m : ℕ) → IsTrue (is_listed locks m) → IsTrue (is_listed (cons_option o locks) m)
still-listed None locks m there = there
still-listed (Some n) locks m there = listed-later n locks m there

lock-listed : (waiting : List Awaited) (i : ℕ) (a : Awaited) → slice_get waiting i ≡ Some a → (m : ℕ) → lock_acquired a.event.kind ≡ Some m → IsTrue (is_listed (locks_of waiting) m)
lock-listed [] i a there m some = absurd (none-some a there)
lock-listed (f ∷ rest) zero a there m some =
    subst (λ o. IsTrue (is_listed (cons_option o (locks_of rest)) m)) (sym (ap (λ (x : Awaited). lock_acquired x.event.kind) (same_Some f a there) ∙ some)) (listed-first m (locks_of rest))
lock-listed (f ∷ rest) (suc i) a there m some = still-listed (lock_acquired f.event.kind) (locks_of rest) m (lock-listed rest i a there m some)

-- one of the events acquires a lock that is not done
pub has_new-lock : (test : ℕ → Bool) (waiting : List Awaited) (i : ℕ) (a : Awaited) → slice_get waiting i ≡ Some a → (m : ℕ) → lock_acquired a.event.kind ≡ Some m → IsFalse (test m) → HasNew test (locks_of waiting)
has_new-lock test waiting i a there m some new = record { number = m; listed = lock-listed waiting i a there m some; new = new }

pub with_numbers-nil : (test : ℕ → Bool) → test ≡ with_numbers test []
with_numbers-nil test = λ i n. each n i
  where
    each : (n : ℕ) → test n ≡ (test n || is_listed [] n)
    each n = sym (ap (λ b. test n || b) (is_listed-nil n) ∙ elim (test n) as (λ b. (b || false) ≡ b) [ true ↦ refl | false ↦ refl ])

with_numbers-push : (test : ℕ → Bool) (xs : List ℕ) (m : ℕ) → with_number (with_numbers test xs) m ≡ with_numbers test (xs ++ m ∷ [])
with_numbers-push test xs m = λ i n. each n i
  where
    each : (n : ℕ) → ((test n || is_listed xs n) || (n == m)) ≡ (test n || is_listed (xs ++ m ∷ []) n)
    each n = elim (test n) as (λ b. ((b || is_listed xs n) || (n == m)) ≡ (b || (is_listed xs n || (n == m)))) [ true ↦ refl | false ↦ refl ] ∙ ap (λ b. test n || b) (ap (λ b. is_listed xs n || b) (sym (is_listed-one m n)) ∙ sym (is_listed-append xs (m ∷ []) n))

-- the next event acquires a lock, or none
module _ (test old new : ℕ → Bool) (waiting : List Awaited) (i : ℕ) (d : Awaited) (within : i < length waiting) (was : old ≡ with_numbers test (locks_of (take i waiting))) where
  pub wanted-some : (m : ℕ) → lock_acquired (get_or waiting i d).event.kind ≡ Some m → new ≡ with_number old m → new ≡ with_numbers test (locks_of (take (i + 1) waiting))
  wanted-some m some is =
      is
      ∙ (ap (λ (t : ℕ → Bool). with_number t m) was
      ∙ (with_numbers-push test (locks_of (take i waiting)) m
      ∙ ap (with_numbers test) (sym (ap locks_of (take_more waiting i d within) ∙ locks_of-some (take i waiting) (get_or waiting i d) m some))))

  pub wanted-none : (r : Option LockId) → ((m : LockId) → r ≢ Some m) → option_map (λ (m : LockId). m.0) r ≡ lock_acquired (get_or waiting i d).event.kind → new ≡ old → new ≡ with_numbers test (locks_of (take (i + 1) waiting))
  wanted-none None none told is =
      is ∙ (was ∙ ap (with_numbers test) (sym (ap locks_of (take_more waiting i d within) ∙ locks_of-none (take i waiting) (get_or waiting i d) (sym told))))
  wanted-none (Some m) none told is = absurd (none m refl)

with_numbers-listed : (xs ys : List ℕ) → with_numbers (is_listed xs) ys ≡ is_listed (xs ++ ys)
with_numbers-listed xs ys = λ i n. sym (is_listed-append xs ys n) i

-- ---- one deadlock after another

waited_for-push : (before : List Deadlock) (found : Deadlock) → flat_map locks_waited_for (before ++ found ∷ []) ≡ flat_map locks_waited_for before ++ locks_waited_for found
waited_for-push before found = flat_map-append locks_waited_for before (found ∷ []) ∙ ap (λ ms. flat_map locks_waited_for before ++ ms) (append-nil (locks_waited_for found))

pub AreDeadlocks-none : (bounds : Bounds) (log : List Event) (place : ℕ → ℕ) (founds : List Deadlock) → founds ≡ [] → AreDeadlocks bounds log place founds
AreDeadlocks-none bounds log place founds none = record { each = λ i found there. absurd (none-some found (sym (ap (λ (fs : List Deadlock). slice_get fs i) none) ∙ there)) }

pub done-none : (done : ℕ → Bool) (founds : List Deadlock) → done ≡ (λ n. false) → founds ≡ [] → done ≡ is_listed (flat_map locks_waited_for founds)
done-none done founds nothing none = nothing ∙ (listed ∙ ap (λ (fs : List Deadlock). is_listed (flat_map locks_waited_for fs)) (sym none))
  where
    listed : (λ (n : ℕ). false) ≡ is_listed []
    listed = λ i n. sym (is_listed-nil n) i

-- what was found is taken in
module _ (bounds : Bounds) (log : List Event) (place : ℕ → ℕ) (old new : ℕ → Bool) (before after : List Deadlock) (done : old ≡ is_listed (flat_map locks_waited_for before)) (are : AreDeadlocks bounds log place before) where
  kept : new ≡ old → after ≡ before → AreDeadlocks bounds log place after × (new ≡ is_listed (flat_map locks_waited_for after))
  kept left same = (
    subst (AreDeadlocks bounds log place) (sym same) are,
    left ∙ (done ∙ ap (λ (fs : List Deadlock). is_listed (flat_map locks_waited_for fs)) (sym same)),
  )

  pushed : (found : Deadlock) → IsDeadlock bounds log place found → HasNew old (locks_waited_for found) → new ≡ with_numbers old (locks_waited_for found) → after ≡ before ++ found ∷ []
      → AreDeadlocks bounds log place after × (new ≡ is_listed (flat_map locks_waited_for after))
  pushed found is anew left more =
      let last : IsDeadlockAfter bounds log place before found = record { is_deadlock = is; waits_anew = subst (λ (test : ℕ → Bool). HasNew test (locks_waited_for found)) done anew } in (
        subst (AreDeadlocks bounds log place) (sym more) (record { each = each-push (IsDeadlockAfter bounds log place) before found are.each last }),
        left
            ∙ (ap (λ (test : ℕ → Bool). with_numbers test (locks_waited_for found)) done
            ∙ (with_numbers-listed (flat_map locks_waited_for before) (locks_waited_for found)
            ∙ ap is_listed (sym (ap (flat_map locks_waited_for) more ∙ waited_for-push before found)))),
      )

  pub taken : (found : Option Deadlock) → IfSome found (λ (d : Deadlock). IsDeadlock bounds log place d) → TakesIn old new before after found → AreDeadlocks bounds log place after × (new ≡ is_listed (flat_map locks_waited_for after))
  taken None is takes = kept takes.0 takes.1
  taken (Some found) is takes = ⊎_elim (λ same. kept same.0 same.1) (λ more. pushed found is more.0 more.1 more.2) takes
