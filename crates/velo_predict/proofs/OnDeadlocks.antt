-- From rows of who waits for whom to circles of waits.
use Rattle.std.proofs.Common.{◌≡◌, ℕ, zero, suc, ◌<◌, List, [], ◌∷◌, ◌++◌, length, map, Some, sym, ◌∙◌, subst, arith, length-append, ⊎_elim}
use Rattle.std.specs.Prelude.{◌↔◌, slice_get}
use Rattle.std.proofs.lemmas.Option.{none-some, same_Some, slice_get_within}
use Rattle.std.proofs.lemmas.Bool.{cases_lt}
use Rattle.velo_events.proofs.OnTraces.{slice_get-append, slice_get-push}
use Rattle.velo_events.specs.declared.config.Bounds.{Bounds}
use Rattle.velo_events.specs.declared.event.Action.{Action}
use Rattle.velo_events.specs.declared.event.Event.{Event}
use Rattle.velo_events.specs.declared.thread_set.ThreadSet.{ThreadSet}
use Rattle.velo_events.specs.Graph.{Path, IsCycle}
use Rattle.velo_events.specs.WellFormed.{IsWellFormed}
use Rattle.velo_predict.specs.Circles.{IsInRow, IsRing}
use Rattle.velo_predict.specs.Courses.{IsJudged}
use Rattle.velo_predict.specs.Deadlocks.{WaitsFor, IsNextAction, PredictsDeadlock}
use Rattle.velo_predict.specs.Deadlocks.WaitsFor.{ForLock, ForShare, ForEnd}
use Rattle.velo_predict.specs.Waits.{AreDue, AreRows, HasNext, IsCircle, IsDue}
use Rattle.velo_predict.specs.declared.judge.Judged.{Judged}
use Rattle.velo_predict.specs.declared.waits.Waiting.{Waiting}
use Rattle.velo_predict.proofs.OnCircles.{cycle_alike, ring_alike, ring_cycle, row_within}
use Rattle.velo_predict.proofs.OnWaits.{waits-known}

-- rows of all threads
pub rows-all : (bounds : Bounds) (log trace : List Event) (rows : List ThreadSet) → IsWellFormed bounds trace → 0 < bounds.threads → length rows ≡ bounds.threads → ((t u : ℕ) → t < bounds.threads → IsInRow rows t u ↔ WaitsFor (IsNextAction log trace) trace t u) → AreRows bounds log trace rows
rows-all bounds log trace rows well some count each = record {
  count = count;
  each = λ t u. (
    λ h. (each t u (omega (arith, row_within rows t u h, count))).0 h,
    λ w. (each t u (waits-known log trace t bounds well some u w).0).1 w,
  );
}

-- whoever is in a ring is related to some
path_next : (R : ℕ → ℕ → Type 0) (a : ℕ) (between : List ℕ) (b : ℕ) → Path R a between b → (i t : ℕ) → slice_get (a ∷ between) i ≡ Some t → (u : ℕ) × R t u
path_next R a [] b p zero t at = (b, subst (λ s. R s b) (same_Some a t at) p)
path_next R a [] b p (suc i) t at = absurd (none-some t at)
path_next R a (c ∷ cs) b p zero t at = (c, subst (λ s. R s c) (same_Some a t at) p.0)
path_next R a (c ∷ cs) b p (suc i) t at = path_next R c cs b p.1 i t at

ring_next : (R : ℕ → ℕ → Type 0) (xs : List ℕ) → IsRing R xs → (i t : ℕ) → slice_get xs i ≡ Some t → (u : ℕ) × R t u
ring_next R [] r i t at = absurd r
ring_next R (a ∷ rest) r i t at = path_next R a rest a r i t at

wants_some : (Next : ℕ → Action → Type 0) (trace : List Event) (t u : ℕ) → WaitsFor Next trace t u → (action : Action) × Next t action
wants_some Next trace t u (ForLock m next lives other has) = (Action.Acquire m, next)
wants_some Next trace t u (ForShare m next lives other has) = (Action.AcquireShared m, next)
wants_some Next trace t u (ForEnd v next lives same other) = (Action.Join v, next)

module _ (bounds : Bounds) (log trace : List Event) (rows : List ThreadSet) (are : AreRows bounds log trace rows) where
  pub rows-known : IsWellFormed bounds trace → 0 < bounds.threads → (t u : ℕ) → IsInRow rows t u → u < length rows
  rows-known well some t u h = omega (arith, are.count, (waits-known log trace t bounds well some u ((are.each t u).0 h)).1)

  pub ring-waits : (xs : List ℕ) → IsRing (IsInRow rows) xs → IsRing (WaitsFor (IsNextAction log trace) trace) xs
  ring-waits xs r = ring_alike (IsInRow rows) (WaitsFor (IsNextAction log trace) trace) (λ a b h. (are.each a b).0 h) xs r

  pub none-predicted : ((cycle : List ℕ) → ¬ IsCycle (IsInRow rows) cycle) → ¬ PredictsDeadlock bounds log trace
  none-predicted none predicts =
      none predicts.deadlock.threads (cycle_alike (WaitsFor (IsNextAction log trace) trace) (IsInRow rows) (λ a b h. (are.each a b).1 h) predicts.deadlock.threads predicts.deadlock.circle)

-- whoever is in a ring of waits is known, and so is what it does next
pub ring-known : (bounds : Bounds) (log trace : List Event) (judged : Judged) (xs : List ℕ) → 0 < bounds.threads → IsJudged bounds log trace judged → IsRing (WaitsFor (IsNextAction log trace) trace) xs → (i t : ℕ) → slice_get xs i ≡ Some t → t < length judged.courses.items
ring-known bounds log trace judged xs some stands r i t at =
    let w = ring_next (WaitsFor (IsNextAction log trace) trace) xs r i t at in
    omega (arith, stands.count, (waits-known log trace t bounds stands.prediction.well_formed some w.0 w.1).0)

pub ring-next : (bounds : Bounds) (log trace : List Event) (judged : Judged) (xs : List ℕ) → IsJudged bounds log trace judged → IsRing (WaitsFor (IsNextAction log trace) trace) xs → (i t : ℕ) → slice_get xs i ≡ Some t → HasNext log trace judged t
ring-next bounds log trace judged xs stands r i t at =
    let w = ring_next (WaitsFor (IsNextAction log trace) trace) xs r i t at in
    record { courses = λ course here. stands.courses t course here; next = wants_some (IsNextAction log trace) trace t w.0 w.1 }

-- one more thread of the circle
pub due-push : (log trace : List Event) (waiting longer : List Waiting) (w : Waiting) → longer ≡ waiting ++ w ∷ [] → AreDue log trace waiting → IsDue log trace w.thread.0 w.next → AreDue log trace longer
due-push log trace waiting longer w same are due = subst (AreDue log trace) (sym same) (record {
  each = λ i v at. ⊎_elim
      (λ below. are.each i v (sym (slice_get-append waiting (w ∷ []) i below) ∙ at))
      (λ above.
      let place : length waiting ≡ i = omega (arith, above, slice_get_within (waiting ++ w ∷ []) i v at, length-append waiting (w ∷ [])) in
      subst (λ x. IsDue log trace x.thread.0 x.next) (same_Some w v (sym (slice_get-push waiting w) ∙ subst (λ k. slice_get (waiting ++ w ∷ []) k ≡ Some v) (sym place) at)) due)
      (cases_lt i (length waiting));
})

pub predicts : (bounds : Bounds) (log trace : List Event) (judged : Judged) (xs : List ℕ) → IsJudged bounds log trace judged → IsRing (WaitsFor (IsNextAction log trace) trace) xs → PredictsDeadlock bounds log trace
predicts bounds log trace judged xs stands r =
    let c = ring_cycle (WaitsFor (IsNextAction log trace) trace) xs r in
    record { prediction = stands.prediction; deadlock = record { threads = c.0; circle = c.1 } }

pub is_circle : (log trace : List Event) (xs : List ℕ) (circle : List Waiting) → IsRing (WaitsFor (IsNextAction log trace) trace) xs → map (λ w. w.thread.0) circle ≡ xs → AreDue log trace circle → IsCircle log trace circle
is_circle log trace xs circle r threads due = record { ring = subst (IsRing (WaitsFor (IsNextAction log trace) trace)) (sym threads) r; due = due }
