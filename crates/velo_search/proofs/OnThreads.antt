-- The unfinished transaction of each thread after one more event.
use Rattle.std.proofs.Common.{◌≡◌, ◌≢◌, ℕ, ◌<◌, ◌≤◌, true, List, [], ◌∷◌, ◌++◌, length, sym, ◌∙◌, subst, arith, ⊎_elim}
use Rattle.std.specs.Prelude.{IsTrue}
use Rattle.std.proofs.lemmas.List.{length_push}
use Rattle.std.proofs.lemmas.Bool.{cases_lt, eqb-true, both_ways}
use Rattle.velo_events.specs.declared.config.Bounds.{Bounds}
use Rattle.velo_events.specs.declared.event.Event.{Event}
use Rattle.velo_events.specs.Event.{thread_of, is_by, is_begin}
use Rattle.velo_events.specs.Heap.{depth_in}
use Rattle.velo_events.specs.WellFormed.{IsWellFormed, MayFollow}
use Rattle.velo_events.specs.Block.{passes_at, is_open_at, IsTransaction, IsUnfinished}
use Rattle.velo_events.specs.Graph.{Edge, Reaches}
use Rattle.velo_events.proofs.OnTraces.{passes_at-append, passes_at-push}
use Rattle.velo_events.proofs.OnGraphs.{newest}
use Rattle.velo_events.proofs.OnOwners.{passes_at-one_thread, is_open_at-within, is_open_at-begins, newest-le, newest-not_alone}
use Rattle.velo_events.proofs.OnUnfinished.{unfinished-block, newest-unfinished, newest-of_unfinished, IsUnfinished-push, IsUnfinished-push_cases, is_open_at-before, newest-begun, newest-own, newest-still_unfinished, depth_in-none, depth_in-some}
use Rattle.velo_events.proofs.OnReaching.{Reaches-from_transaction}
use Rattle.velo_events.proofs.OnWellFormed.{IsWellFormed-push}
use Rattle.velo_search.specs.Summary.{IsUnfinishedOf}

module _ (trace : List Event) (e : Event) where
  -- 1. the event is in the unfinished transaction of its thread, if there is one
  pub newest-of_thread : (a : ℕ) → IsUnfinishedOf trace (thread_of e) a → newest trace e ≡ a
  newest-of_thread a w = newest-of_unfinished trace e a w.unfinished w.own

  -- 2. one that begins before the event is unfinished before it
  pub newest-earlier : newest trace e < length trace → IsUnfinishedOf trace (thread_of e) (newest trace e)
  newest-earlier l = record {
    unfinished = newest-unfinished trace e l;
    own = sym (passes_at-append trace (e ∷ []) (is_by (thread_of e)) (newest trace e) l) ∙ newest-own trace e;
  }

  -- 3. so is one that reaches another transaction before the event
  pub newest-reaching : (b : ℕ) → IsTransaction trace b → Reaches (Edge trace) (newest trace e) b → IsUnfinishedOf trace (thread_of e) (newest trace e)
  newest-reaching b t r = newest-earlier (Reaches-from_transaction trace (newest trace e) b t r).within

  own_after : (u a : ℕ) → IsUnfinishedOf trace u a → IsTrue (passes_at (trace ++ e ∷ []) (is_by u) a)
  own_after u a w = passes_at-append trace (e ∷ []) (is_by u) a w.unfinished.transaction.within ∙ w.own

  -- 4. the unfinished transaction of another thread is not the event's
  pub newest-other : (u a : ℕ) → thread_of e ≢ u → IsUnfinishedOf trace u a → newest trace e ≢ a
  newest-other u a other w same =
      other (passes_at-one_thread (trace ++ e ∷ []) (thread_of e) u a (subst (λ k. passes_at (trace ++ e ∷ []) (is_by (thread_of e)) k ≡ true) same (newest-own trace e)) (own_after u a w))

  -- and stays unfinished
  pub other-after : (u a : ℕ) → thread_of e ≢ u → IsUnfinishedOf trace u a → IsUnfinishedOf (trace ++ e ∷ []) u a
  other-after u a other w = record { unfinished = IsUnfinished-push trace e a w.unfinished (newest-other u a other w); own = own_after u a w }

  -- 5. and was so
  pub other-before : (u a : ℕ) → thread_of e ≢ u → IsUnfinishedOf (trace ++ e ∷ []) u a → IsUnfinishedOf trace u a
  other-before u a other w = ⊎_elim
      (λ was. record { unfinished = was; own = sym (passes_at-append trace (e ∷ []) (is_by u) a was.transaction.within) ∙ w.own })
      (λ begun. absurd (other (eqb-true (thread_of e) u (sym (passes_at-push trace e (is_by u)) ∙ subst (λ k. passes_at (trace ++ e ∷ []) (is_by u) k ≡ true) begun.0 w.own))))
      (IsUnfinished-push_cases trace e a w.unfinished)

  -- 6. the event's thread has no other unfinished transaction after the event than the event's
  pub own-newest : (a : ℕ) → IsUnfinishedOf (trace ++ e ∷ []) (thread_of e) a → newest trace e ≡ a
  own-newest a w = ⊎_elim
      (λ was. newest-of_unfinished trace e a was (sym (passes_at-append trace (e ∷ []) (is_by (thread_of e)) a was.transaction.within) ∙ w.own))
      (λ begun. begun.1 ∙ sym begun.0)
      (IsUnfinished-push_cases trace e a w.unfinished)

module _ (bounds : Bounds) (trace : List Event) (e : Event) (well : IsWellFormed bounds trace) (follows : MayFollow bounds trace e) where
  -- 7. it has this one where it has a block open
  pub inside-unfinished : 0 < depth_in (trace ++ e ∷ []) (thread_of e) → IsUnfinishedOf (trace ++ e ∷ []) (thread_of e) (newest trace e)
  inside-unfinished deep = record { unfinished = ⊎_elim earlier alone (cases_lt (newest trace e) (length trace)); own = newest-own trace e }
    where
      opened : (b : ℕ) × IsTrue (is_open_at (trace ++ e ∷ []) (thread_of e) b (length (trace ++ e ∷ [])))
      opened = depth_in-some bounds (trace ++ e ∷ []) (thread_of e) (IsWellFormed-push bounds trace e well follows) deep

      earlier : newest trace e < length trace → IsUnfinished (trace ++ e ∷ []) (newest trace e)
      earlier l = newest-still_unfinished trace e opened.0 l opened.1

      begins : newest trace e ≡ length trace → IsTrue (is_begin e.kind)
      begins first = ⊎_elim
          (λ l. absurd (both_ways (is_open_at trace (thread_of e) opened.0 (length trace)) (newest-not_alone trace e first opened.0) (is_open_at-before trace e (thread_of e) opened.0 l opened.1)))
          (λ g. let within = is_open_at-within (trace ++ e ∷ []) (thread_of e) opened.0 (length (trace ++ e ∷ [])) opened.1 in
          let here : opened.0 ≡ length trace = omega (arith, g, within, length_push trace e) in
          sym (passes_at-push trace e (λ f. is_begin f.kind)) ∙ subst (λ k. passes_at (trace ++ e ∷ []) (λ f. is_begin f.kind) k ≡ true) here (is_open_at-begins (trace ++ e ∷ []) (thread_of e) opened.0 (length (trace ++ e ∷ [])) opened.1))
          (cases_lt opened.0 (length trace))

      alone : length trace ≤ newest trace e → IsUnfinished (trace ++ e ∷ []) (newest trace e)
      alone g =
          let first : newest trace e ≡ length trace = omega (arith, g, newest-le trace e) in
          subst (IsUnfinished (trace ++ e ∷ [])) (sym first) (newest-begun trace e first (begins first))

  -- 8. and none where it has not
  pub outside-none : depth_in (trace ++ e ∷ []) (thread_of e) ≡ 0 → (a : ℕ) → IsUnfinishedOf (trace ++ e ∷ []) (thread_of e) a → ⊥
  outside-none flat a w = both_ways (is_open_at (trace ++ e ∷ []) (thread_of e) a (length (trace ++ e ∷ [])))
      (depth_in-none bounds (trace ++ e ∷ []) (thread_of e) (IsWellFormed-push bounds trace e well follows) flat a)
      (unfinished-block (trace ++ e ∷ []) (thread_of e) a w.unfinished w.own)
