-- The events that synchronize, as a list of their own: where each stands, and that conflicts are the same.
use Rattle.std.proofs.Common.{◌≡◌, ℕ, zero, suc, ◌+◌, ◌<◌, ◌≤◌, Bool, cond, List, [], ◌∷◌, ◌++◌, length, take, Some, sym, ap, ◌∙◌, subst, arith, ⊎_elim, append-nil, length-append}
use Rattle.std.specs.Prelude.{slice_get, filter, IsTrue, IsFalse}
use Rattle.std.proofs.lemmas.Bool.{cases_Bool, cases_lt}
use Rattle.std.proofs.lemmas.List.Elements.{filter-append}
use Rattle.std.proofs.lemmas.Option.{slice_get_within}
use Rattle.velo_events.specs.declared.event.Event.{Event}
use Rattle.velo_events.specs.Block.{passes_at}
use Rattle.velo_events.proofs.OnTraces.{slice_get-append, slice_get-push}
use Rattle.velo_events.proofs.OnScans.{event_at, take-next, passes_at-event, passes_at-is}
use Rattle.velo_filter.proofs.OnRanks.{rank, rank-zero, rank-stays, rank-goes, rank-from}
use Rattle.velo_thinning.specs.Races.{synchronizes}
use Rattle.velo_thinning.specs.Sweep.{synchronizing}

synchronizing-push : (xs : List Event) (e : Event) → synchronizing (xs ++ e ∷ []) ≡ synchronizing xs ++ filter synchronizes (e ∷ [])
synchronizing-push xs e = filter-append synchronizes xs (e ∷ [])

-- one event more, which synchronizes or doesn't
pub synchronizing-more : (xs : List Event) (e : Event) → IsTrue (synchronizes e) → synchronizing (xs ++ e ∷ []) ≡ synchronizing xs ++ e ∷ []
synchronizing-more xs e h = synchronizing-push xs e ∙ ap (λ b. synchronizing xs ++ cond b (e ∷ []) []) h

pub synchronizing-same : (xs : List Event) (e : Event) → IsFalse (synchronizes e) → synchronizing (xs ++ e ∷ []) ≡ synchronizing xs
synchronizing-same xs e h = synchronizing-push xs e ∙ (ap (λ b. synchronizing xs ++ cond b (e ∷ []) []) h ∙ append-nil (synchronizing xs))

module _ (log : List Event) where
  -- the position has an event that synchronizes
  abbrev pub stays : ℕ → Bool
  stays i = passes_at log synchronizes i

  -- the events before position n that do
  abbrev pub sub : ℕ → List Event
  sub n = synchronizing (take n log)

  pub sub-more : (n : ℕ) (e : Event) → slice_get log n ≡ Some e → IsTrue (synchronizes e) → sub (n + 1) ≡ sub n ++ e ∷ []
  sub-more n e here does = ap synchronizing (take-next log n e here) ∙ synchronizing-more (take n log) e does

  pub sub-same : (n : ℕ) (e : Event) → slice_get log n ≡ Some e → IsFalse (synchronizes e) → sub (n + 1) ≡ sub n
  sub-same n e here doesnt = ap synchronizing (take-next log n e here) ∙ synchronizing-same (take n log) e doesnt

  one : (n : ℕ) → n + 1 ≡ suc n
  one n = omega arith

  pub sub-rank : (n : ℕ) → n ≤ length log → length (sub n) ≡ rank stays n
  sub-rank zero l = sym (rank-zero stays)
  sub-rank (suc n) l =
      let e = event_at log n (omega (arith, l)) in
      let rest = sub-rank n (omega (arith, l)) in
      let next = one n in
      ⊎_elim
      (λ does.
      let more = ap length (sub-more n e.0 e.1 does) in
      let long = length-append (sub n) (e.0 ∷ []) in
      let r = rank-stays stays n (passes_at-is log synchronizes n e.0 e.1 ∙ does) in
      ap (λ k. length (sub k)) (sym next) ∙ omega (arith, rest, more, long, r))
      (λ doesnt.
      let same = ap length (sub-same n e.0 e.1 doesnt) in
      let r = rank-goes stays n (passes_at-is log synchronizes n e.0 e.1 ∙ doesnt) in
      ap (λ k. length (sub k)) (sym next) ∙ omega (arith, rest, same, r))
      (cases_Bool (synchronizes e.0))

  -- position i has its event at the place that its rank says
  pub sub-get : (n i : ℕ) (e : Event) → n ≤ length log → i < n → slice_get log i ≡ Some e → IsTrue (synchronizes e) → slice_get (sub n) (rank stays i) ≡ Some e
  sub-get zero i e l below here does = absurd (omega (arith, below))
  sub-get (suc n) i e l below here does =
      let f = event_at log n (omega (arith, l)) in
      let long = sub-rank n (omega (arith, l)) in
      ap (λ k. slice_get (sub k) (rank stays i)) (sym (one n))
      ∙ ⊎_elim
      (λ before.
      let rest = sub-get n i e (omega (arith, l)) before here does in
      ⊎_elim
      (λ more. ap (λ xs. slice_get xs (rank stays i)) (sub-more n f.0 f.1 more) ∙ (slice_get-append (sub n) (f.0 ∷ []) (rank stays i) (slice_get_within (sub n) (rank stays i) e rest) ∙ rest))
      (λ same. ap (λ xs. slice_get xs (rank stays i)) (sub-same n f.0 f.1 same) ∙ rest)
      (cases_Bool (synchronizes f.0)))
      (λ upto.
      let at : i ≡ n = omega (arith, upto, below) in
      ap (λ xs. slice_get xs (rank stays i)) (sub-more n e (subst (λ k. slice_get log k ≡ Some e) at here) does)
      ∙ (ap (λ k. slice_get (sub n ++ e ∷ []) k) (ap (rank stays) at ∙ sym long) ∙ slice_get-push (sub n) e))
      (cases_lt i n)

  -- ---- places

  -- position a, before n, has the event at place k of those that synchronize
  pub record IsPlace (n a k : ℕ) : Type 0 where
    pub below : a < n
    pub stay : IsTrue (stays a)
    pub rank_is : rank stays a ≡ k
    pub event : Event
    pub here : slice_get log a ≡ Some event
    pub there : slice_get (sub n) k ≡ Some event

  pub place : (n k : ℕ) → n ≤ length log → k < length (sub n) → (a : ℕ) × IsPlace n a k
  place n k l within =
      let w = rank-from stays n k (omega (arith, within, sub-rank n l)) in
      let e = passes_at-event log synchronizes w.0 w.2 in
      (w.0, record { below = w.1; stay = w.2; rank_is = w.3; event = e.0; here = e.1; there = subst (λ k. slice_get (sub n) k ≡ Some e.0) w.3 (sub-get n w.0 e.0 l w.1 e.1 e.2) })
