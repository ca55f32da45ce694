-- How a thread stands with its next operation: one way only.
use Rattle.std.proofs.Common.{◌≡◌, ◌≢◌, ℕ, false, ◌&&◌, List, Some, None, refl, sym, ap, ◌∙◌, subst, ⊎_elim}
use Rattle.std.specs.Prelude.{nat_lt, slice_get, IsTrue}
use Rattle.std.proofs.lemmas.Bool.{and_right, false≢true}
use Rattle.std.proofs.lemmas.Option.{same_Some, none-some}
use Rattle.velo_events.specs.declared.config.Bounds.{Bounds}
use Rattle.velo_events.specs.declared.event.Event.{Event}
use Rattle.velo_events.specs.declared.event.Kind.{Kind}
use Rattle.velo_events.specs.declared.event.Status.TheVariants.{Unborn}
use Rattle.velo_events.specs.declared.refusal.Refusal.{Refusal}
use Rattle.velo_events.specs.declared.refusal.Refusal.TheVariants.{NotLive}
use Rattle.velo_events.specs.Event.{thread_of}
use Rattle.velo_events.specs.Heap.{status_in}
use Rattle.velo_events.specs.Meaning.{is_live, refusal_of}
use Rattle.velo_events.specs.Tally.{events_of}
use Rattle.velo_events.proofs.OnMeaning.{MayFollow-refusal_of}
use Rattle.velo_search.specs.Faults.{is_wait, IsIdle, IsTurnedDown, IsWaiting, IsRefused}
use Rattle.velo_search.specs.Runs.{script_of, IsRunOf, IsNext}

-- 71. an unborn thread is refused as such
pub unborn-refused : (bounds : Bounds) (log : List Event) (t : ℕ) (k : Kind) → status_in log t ≡ Unborn → refusal_of bounds log t k ≡ Some NotLive
unfolding refusal_of
unborn-refused bounds log t k unborn =
    let dead : (nat_lt t bounds.threads && is_live (status_in log t)) ≡ false = and_right (nat_lt t bounds.threads) (is_live (status_in log t)) (ap is_live unborn) in
    rw dead refl

-- 72. so a thread that waits was born
pub wait-born : (bounds : Bounds) (log : List Event) (t : ℕ) (k : Kind) (r : Refusal) → refusal_of bounds log t k ≡ Some r → IsTrue (is_wait r) → status_in log t ≢ Unborn
wait-born bounds log t k r h waits unborn = false≢true (ap is_wait (same_Some NotLive r (sym (unborn-refused bounds log t k unborn) ∙ h)) ∙ waits)

module _ (bounds : Bounds) (scripts : List (List Kind)) (log : List Event) (t : ℕ) where
  -- 73. who is turned down is not idle
  pub turned-not_idle : (r : Refusal) → IsTurnedDown bounds scripts log t r → ¬ IsIdle scripts log t
  turned-not_idle r w idle = ⊎_elim (λ none. none-some w.kind (sym none ∙ w.due)) (λ unborn. w.born unborn) idle

  -- 74. and is refused in one way
  same_refusal : (r s : Refusal) → IsTurnedDown bounds scripts log t r → IsTurnedDown bounds scripts log t s → r ≡ s
  same_refusal r s v w =
      let same : v.kind ≡ w.kind = same_Some v.kind w.kind (sym v.due ∙ w.due) in
      same_Some r s (sym v.refused ∙ (ap (λ k. refusal_of bounds log t k) same ∙ w.refused))

  pub refused-not_waiting : IsRefused bounds scripts log t → ¬ IsWaiting bounds scripts log t
  refused-not_waiting v w = false≢true (sym v.for_good ∙ (ap is_wait (same_refusal v.refusal w.refusal v.turned w.turned) ∙ w.waits))

  pub refused-not_idle : IsRefused bounds scripts log t → ¬ IsIdle scripts log t
  refused-not_idle v = turned-not_idle v.refusal v.turned

  -- 75. who has a next event is not turned down
  pub next-not_turned : (e : Event) → IsRunOf bounds scripts log → thread_of e ≡ t → IsNext bounds scripts log e → (r : Refusal) → ¬ IsTurnedDown bounds scripts log t r
  next-not_turned e run own next r w =
      let due : slice_get (script_of scripts t) (events_of log t) ≡ Some e.kind = subst (λ u. slice_get (script_of scripts u) (events_of log u) ≡ Some e.kind) own next.due in
      let same : e.kind ≡ w.kind = same_Some e.kind w.kind (sym due ∙ w.due) in
      let none : refusal_of bounds log t e.kind ≡ None = subst (λ u. refusal_of bounds log u e.kind ≡ None) own ((MayFollow-refusal_of bounds log e run.well_formed).0 next.follows).0 in
      none-some r (sym none ∙ (ap (λ k. refusal_of bounds log t k) same ∙ w.refused))

  -- and not idle
  pub next-not_idle : (e : Event) → IsRunOf bounds scripts log → thread_of e ≡ t → IsNext bounds scripts log e → ¬ IsIdle scripts log t
  next-not_idle e run own next idle =
      let due : slice_get (script_of scripts t) (events_of log t) ≡ Some e.kind = subst (λ u. slice_get (script_of scripts u) (events_of log u) ≡ Some e.kind) own next.due in
      let none : refusal_of bounds log t e.kind ≡ None = subst (λ u. refusal_of bounds log u e.kind ≡ None) own ((MayFollow-refusal_of bounds log e run.well_formed).0 next.follows).0 in
      ⊎_elim (λ gone. none-some e.kind (sym gone ∙ due)) (λ unborn. none-some NotLive (sym none ∙ unborn-refused bounds log t e.kind unborn)) idle
