-- The locks that a thread has, after one more operation.
use Rattle.std.proofs.Common.{◌≡◌, ℕ, ◌+◌, ◌<◌, ◌≤◌, List, [], ◌∷◌, ◌++◌, length, Some, sym, ap, ◌∙◌, subst, arith, ⊎_elim, get_or-set_same, get_or-set_other}
use Rattle.std.specs.Prelude.{slice_index_or, slice_set}
use Rattle.std.proofs.lemmas.Bool.{cases_lt}
use Rattle.std.proofs.lemmas.Option.{slice_get-get_or}
use Rattle.velo_events.specs.declared.event.Kind.{Kind}
use Rattle.velo_heap.specs.Contents.{Tabulates}
use Rattle.velo_heap.proofs.OnTables.{get_or-tabulated}
use Rattle.velo_search.specs.declared.hold.Hold.{Hold}
use Rattle.velo_search.specs.Free.{hold_after, hold_next, no_hold, AreHeld}
use Rattle.velo_search.proofs.OnNotes.{hold_after-push}

-- one lock after another
module _ (old now : List Hold) (i : ℕ) (h : Hold) (k : Kind) (within : i < length now) where
  pub done-next : ((m : ℕ) → m < i → slice_index_or now m no_hold ≡ hold_next m (slice_index_or old m no_hold) k) → ((m : ℕ) → i ≤ m → slice_index_or now m no_hold ≡ slice_index_or old m no_hold) →
      h ≡ hold_next i (slice_index_or now i no_hold) k → (m : ℕ) → m < i + 1 → slice_index_or (slice_set now i h) m no_hold ≡ hold_next m (slice_index_or old m no_hold) k
  done-next done left after m l = ⊎_elim
      (λ (before : m < i). get_or-set_other now i m h no_hold (λ e. omega (arith, e, before)) ∙ done m before)
      (λ (past : i ≤ m).
      let here : i ≡ m = omega arith in
      subst (λ j. slice_index_or (slice_set now i h) j no_hold ≡ hold_next j (slice_index_or old j no_hold) k) here
      (get_or-set_same now i h no_hold within ∙ (after ∙ ap (λ x. hold_next i x k) (left i (omega arith)))))
      (cases_lt m i)

  pub left-next : ((m : ℕ) → i ≤ m → slice_index_or now m no_hold ≡ slice_index_or old m no_hold) → (m : ℕ) → i + 1 ≤ m → slice_index_or (slice_set now i h) m no_hold ≡ slice_index_or old m no_hold
  left-next left m l = get_or-set_other now i m h no_hold (λ e. omega (arith, e, l)) ∙ left m (omega arith)

-- all of them
Tabulates-taken : (old new : List Hold) (k : Kind) → length new ≡ length old → ((m : ℕ) → m < length new → slice_index_or new m no_hold ≡ hold_next m (slice_index_or old m no_hold) k) →
    (before : List Kind) → Tabulates old (hold_after before) → Tabulates new (hold_after (before ++ k ∷ []))
Tabulates-taken old new k same done before table = record {
  each = λ i within.
      let inside : i < length old = omega (arith, within, same) in
      slice_get-get_or new i no_hold within
      ∙ ap Some (done i within ∙ (ap (λ x. hold_next i x k) (get_or-tabulated old (hold_after before) no_hold i table inside) ∙ sym (hold_after-push before k i)));
}

pub held-taken : (old new : List Hold) (k : Kind) → length new ≡ length old → ((m : ℕ) → m < length new → slice_index_or new m no_hold ≡ hold_next m (slice_index_or old m no_hold) k) →
    (locks : ℕ) (before : List Kind) → AreHeld locks before old → AreHeld locks (before ++ k ∷ []) new
held-taken old new k same done locks before held = record { count = same ∙ held.count; table = Tabulates-taken old new k same done before held.table }
