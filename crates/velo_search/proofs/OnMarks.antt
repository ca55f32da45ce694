-- The marks after an event are the summary after it.
use Rattle.std.proofs.Common.{◌≡◌, ℕ, ◌+◌, ◌<◌, ◌≤◌, Bool, List, length, sym, ◌∙◌, subst, arith, ⊎_elim, get_or-set_same, get_or-set_other}
use Rattle.std.specs.Prelude.{slice_index_or, slice_set}
use Rattle.std.proofs.lemmas.Bool.{cases_lt}
use Rattle.velo_events.specs.declared.thread_set.ThreadSet.{ThreadSet}
use Rattle.velo_search.specs.declared.mark.Mark.{Mark}
use Rattle.velo_search.specs.Marks.{blank_mark, IsMarkAfter}

-- ---- marks one after another

module _ (t : ℕ) (behind : ThreadSet) (inside : Bool) (old now : List Mark) (i : ℕ) (m : Mark) (within : i < length now) where
  pub done-next : ((k : ℕ) → k < i → IsMarkAfter t behind inside (slice_index_or old k blank_mark) (slice_index_or now k blank_mark)) → ((k : ℕ) → i ≤ k → slice_index_or now k blank_mark ≡ slice_index_or old k blank_mark) →
      IsMarkAfter t behind inside (slice_index_or now i blank_mark) m → (k : ℕ) → k < i + 1 → IsMarkAfter t behind inside (slice_index_or old k blank_mark) (slice_index_or (slice_set now i m) k blank_mark)
  done-next done left after k l = ⊎_elim
      (λ (before : k < i). subst (λ x. IsMarkAfter t behind inside (slice_index_or old k blank_mark) x) (sym (get_or-set_other now i k m blank_mark (λ e. omega (arith, e, before)))) (done k before))
      (λ (past : i ≤ k).
      let here : i ≡ k = omega arith in
      subst (λ j. IsMarkAfter t behind inside (slice_index_or old j blank_mark) (slice_index_or (slice_set now i m) j blank_mark)) here
      (subst (λ x. IsMarkAfter t behind inside (slice_index_or old i blank_mark) x) (sym (get_or-set_same now i m blank_mark within))
      (subst (λ x. IsMarkAfter t behind inside x m) (left i (omega arith)) after)))
      (cases_lt k i)

  pub left-next : ((k : ℕ) → i ≤ k → slice_index_or now k blank_mark ≡ slice_index_or old k blank_mark) → (k : ℕ) → i + 1 ≤ k → slice_index_or (slice_set now i m) k blank_mark ≡ slice_index_or old k blank_mark
  left-next left k l = get_or-set_other now i k m blank_mark (λ e. omega (arith, e, l)) ∙ left k (omega arith)
