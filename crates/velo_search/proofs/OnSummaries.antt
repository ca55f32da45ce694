-- The summary after one more event is that of the longer log.
use Rattle.std.proofs.Common.{◌≡◌, ◌≢◌, ℕ, ◌<◌, ◌≤◌, Bool, true, false, List, [], ◌∷◌, ◌++◌, refl, sym, ◌∙◌, subst, arith, ⊎_elim, inl, inr}
use Rattle.std.specs.Prelude.{◌⊎◌, ◌↔◌, ◌==◌, ◌&&◌, ◌||◌, not, if◌then◌else◌, IsTrue, IsFalse}
use Rattle.std.proofs.lemmas.Bool.{cases_Bool, cases_eq, or_cases, or_left, or_right, or_from, and_parts, and_from, eq-eqb, eqb-true, ne_eqb, eqb-false, not-true, not-false, false≢true}
use Rattle.velo_events.specs.declared.config.Bounds.{Bounds}
use Rattle.velo_events.specs.declared.event.Event.{Event}
use Rattle.velo_events.specs.Event.{thread_of, is_by}
use Rattle.velo_events.specs.Heap.{depth_in}
use Rattle.velo_events.specs.WellFormed.{IsWellFormed, MayFollow}
use Rattle.velo_events.specs.Graph.{HasCycle}
use Rattle.velo_events.proofs.OnGraphs.{HasCycle-append}
use Rattle.velo_search.specs.declared.group.Group.{Group}
use Rattle.velo_search.specs.Groups.{is_in, looks_at}
use Rattle.velo_search.specs.Summary.{Reaching, ReachingAnother, Summary, IsSummaryOf, alarm, is_inside, closes_cycle, is_behind, leads_to, reached_after, beyond_after, step}
use Rattle.velo_search.proofs.OnAny.{any-some, any-at}
use Rattle.velo_search.proofs.OnThreads.{outside-none}
use Rattle.velo_search.proofs.OnReaching.{IsBehind, reaching-kept, reaching-new, reaching-through, reaching-from, reaching-own_kept, reaching-own_new, reaching-own_from}
use Rattle.velo_search.proofs.OnBeyond.{IsClosedBy, closed-cycle, cycle-closed, beyond-kept, beyond-new, beyond-through, beyond-from, beyond-own_kept, beyond-own_from}

-- ---- tests

-- 35. at the event's own thread
reached-own_value : (own inside here leads behind : Bool) → IsTrue own → ((inside || not own) && (here || (leads && (own || behind)))) ≡ (inside && (here || leads))
reached-own_value true true true leads behind h = refl
reached-own_value true true false true behind h = refl
reached-own_value true true false false behind h = refl
reached-own_value true false here leads behind h = refl
reached-own_value false inside here leads behind h = absurd (false≢true h)

beyond-own_value : (own inside here leads behind : Bool) → IsTrue own → ((inside || not own) && (here || (leads && (not own && behind)))) ≡ (inside && here)
beyond-own_value true true true leads behind h = refl
beyond-own_value true true false true behind h = refl
beyond-own_value true true false false behind h = refl
beyond-own_value true false here leads behind h = refl
beyond-own_value false inside here leads behind h = absurd (false≢true h)

-- 36. at another thread
reached-other_value : (own inside here leads behind : Bool) → IsFalse own → ((inside || not own) && (here || (leads && (own || behind)))) ≡ (here || (leads && behind))
reached-other_value false true here leads behind h = refl
reached-other_value false false here leads behind h = refl
reached-other_value true inside here leads behind h = absurd (false≢true (sym h))

beyond-other_value : (own inside here leads behind : Bool) → IsFalse own → ((inside || not own) && (here || (leads && (not own && behind)))) ≡ (here || (leads && behind))
beyond-other_value false true here leads behind h = refl
beyond-other_value false false here leads behind h = refl
beyond-other_value true inside here leads behind h = absurd (false≢true (sym h))

-- ---- what a summary says

module _ (bounds : Bounds) (trace : List Event) (e : Event) (well : IsWellFormed bounds trace) (follows : MayFollow bounds trace e) (few : bounds.threads ≤ 64) (s : Summary) (stands : IsSummaryOf trace s) (quiet : IsFalse s.alarmed) where
  -- 37. who is behind the event
  pub behind-test : (u : ℕ) → IsTrue (is_behind s e u) ↔ IsBehind trace e u
  behind-test u = (
    (λ h. let w = any-some (λ g. s.reached g u) (looks_at e) h in record { group = w.0; looked = w.1; reached = (stands.reached quiet w.0 u).0 w.2 }),
    (λ w. any-at (λ g. s.reached g u) (looks_at e) w.group w.looked ((stands.reached quiet w.group u).1 w.reached)),
  )

  -- 38. whether the event closes a cycle
  pub closes-test : IsTrue (closes_cycle s e) ↔ IsClosedBy trace e
  closes-test = (
    (λ h. let w = any-some (λ g. s.beyond g (thread_of e)) (looks_at e) h in record { group = w.0; looked = w.1; beyond = (stands.beyond quiet w.0 (thread_of e)).0 w.2 }),
    (λ w. any-at (λ g. s.beyond g (thread_of e)) (looks_at e) w.group w.looked ((stands.beyond quiet w.group (thread_of e)).1 w.beyond)),
  )

  pub closes-cycle : IsTrue (closes_cycle s e) ↔ HasCycle (trace ++ e ∷ [])
  closes-cycle = (
    (λ h. closed-cycle bounds trace e well follows few (closes-test.0 h)),
    (λ c. closes-test.1 (cycle-closed bounds trace e well follows few (λ before. false≢true (sym quiet ∙ stands.alarmed.1 before)) c)),
  )

  -- 39. what the event leads to
  leads-test : (g : Group) → IsTrue (leads_to s e g) ↔ (IsTrue (is_in e g) ⊎ Reaching trace g (thread_of e))
  leads-test g = (
    (λ h. ⊎_elim (λ member. inl member) (λ reached. inr ((stands.reached quiet g (thread_of e)).0 reached)) (or_cases (is_in e g) (s.reached g (thread_of e)) h)),
    (λ w. ⊎_elim (λ member. or_left (is_in e g) (s.reached g (thread_of e)) member) (λ reached. or_right (is_in e g) (s.reached g (thread_of e)) ((stands.reached quiet g (thread_of e)).1 reached)) w),
  )

  -- ---- the groups after the event

  module _ (inside : Bool) (is : inside ≡ is_inside trace e) where
    deep : IsTrue inside → 0 < depth_in (trace ++ e ∷ []) (thread_of e)
    deep h =
        let some : (depth_in (trace ++ e ∷ []) (thread_of e) ≡ 0 → ⊥) = eqb-false _ _ (not-true (depth_in (trace ++ e ∷ []) (thread_of e) == 0) (sym is ∙ h)) in
        omega (arith, some)

    flat : IsFalse inside → depth_in (trace ++ e ∷ []) (thread_of e) ≡ 0
    flat h = eqb-true _ _ (not-false (depth_in (trace ++ e ∷ []) (thread_of e) == 0) (sym is ∙ h))

    -- 40. another thread reaches
    reached-other : (g : Group) (u : ℕ) → thread_of e ≢ u → IsTrue (reached_after inside s e g u) ↔ Reaching (trace ++ e ∷ []) g u
    reached-other g u other =
        let value = reached-other_value (is_by u e) inside (s.reached g u) (leads_to s e g) (is_behind s e u) (ne_eqb (thread_of e) u other) in (
          (λ h. ⊎_elim
              (λ was. reaching-kept bounds trace e well follows few g u other ((stands.reached quiet g u).0 was))
              (λ both. let parts = and_parts (leads_to s e g) (is_behind s e u) both in
              ⊎_elim
              (λ member. reaching-new bounds trace e well follows few g u other member ((behind-test u).0 parts.1))
              (λ reached. reaching-through bounds trace e well follows few g u other reached ((behind-test u).0 parts.1))
              ((leads-test g).0 parts.0))
              (or_cases (s.reached g u) (leads_to s e g && is_behind s e u) (sym value ∙ h))),
          (λ w. value ∙ ⊎_elim
              (λ was. or_left (s.reached g u) (leads_to s e g && is_behind s e u) ((stands.reached quiet g u).1 was))
              (λ both. or_right (s.reached g u) (leads_to s e g && is_behind s e u) (and_from (leads_to s e g) (is_behind s e u) ((leads-test g).1 both.0) ((behind-test u).1 both.1)))
              (reaching-from bounds trace e well follows few g u other w)),
        )

    -- 41. the event's thread reaches
    reached-own : (g : Group) → IsTrue (reached_after inside s e g (thread_of e)) ↔ Reaching (trace ++ e ∷ []) g (thread_of e)
    reached-own g =
        let t = thread_of e in
        let value = reached-own_value (is_by t e) inside (s.reached g t) (leads_to s e g) (is_behind s e t) (eq-eqb t t refl) in
        ⊎_elim
        (λ opened. (
          (λ h. ⊎_elim
              (λ was. reaching-own_kept bounds trace e well follows few g (deep opened) ((stands.reached quiet g t).0 was))
              (λ leads. ⊎_elim
              (λ member. reaching-own_new bounds trace e well follows few g (deep opened) member)
              (λ reached. reaching-own_kept bounds trace e well follows few g (deep opened) reached)
              ((leads-test g).0 leads))
              (or_cases (s.reached g t) (leads_to s e g) (and_parts inside (s.reached g t || leads_to s e g) (sym value ∙ h)).1)),
          (λ w. value ∙ and_from inside (s.reached g t || leads_to s e g) opened (or_right (s.reached g t) (leads_to s e g) ((leads-test g).1 (reaching-own_from bounds trace e well follows few g w)))),
        ))
        (λ closed. (
          (λ h. absurd (false≢true (sym closed ∙ (and_parts inside (s.reached g t || leads_to s e g) (sym value ∙ h)).0))),
          (λ w. absurd (outside-none bounds trace e well follows (flat closed) w.from w.of_thread)),
        ))
        (cases_Bool inside)

    -- 42. every thread
    pub reached-step : (g : Group) (u : ℕ) → IsTrue (reached_after inside s e g u) ↔ Reaching (trace ++ e ∷ []) g u
    reached-step g u = ⊎_elim
        (λ own. subst (λ v. IsTrue (reached_after inside s e g v) ↔ Reaching (trace ++ e ∷ []) g v) own (reached-own g))
        (λ other. reached-other g u other)
        (cases_eq (thread_of e) u)

    -- 43. another thread reaches another transaction
    beyond-other : (HasCycle (trace ++ e ∷ []) → ⊥) → (g : Group) (u : ℕ) → thread_of e ≢ u → IsTrue (beyond_after inside s e g u) ↔ ReachingAnother (trace ++ e ∷ []) g u
    beyond-other none g u other =
        let value = beyond-other_value (is_by u e) inside (s.beyond g u) (leads_to s e g) (is_behind s e u) (ne_eqb (thread_of e) u other) in (
          (λ h. ⊎_elim
              (λ was. beyond-kept bounds trace e well follows few g u other ((stands.beyond quiet g u).0 was))
              (λ both. let parts = and_parts (leads_to s e g) (is_behind s e u) both in
              ⊎_elim
              (λ member. beyond-new bounds trace e well follows few g u other member ((behind-test u).0 parts.1))
              (λ reached. beyond-through bounds trace e well follows few g none u other reached ((behind-test u).0 parts.1))
              ((leads-test g).0 parts.0))
              (or_cases (s.beyond g u) (leads_to s e g && is_behind s e u) (sym value ∙ h))),
          (λ w. value ∙ ⊎_elim
              (λ was. or_left (s.beyond g u) (leads_to s e g && is_behind s e u) ((stands.beyond quiet g u).1 was))
              (λ both. or_right (s.beyond g u) (leads_to s e g && is_behind s e u) (and_from (leads_to s e g) (is_behind s e u) ((leads-test g).1 both.0) ((behind-test u).1 both.1)))
              (beyond-from bounds trace e well follows few g u other w)),
        )

    -- 44. the event's thread does
    beyond-own : (g : Group) → IsTrue (beyond_after inside s e g (thread_of e)) ↔ ReachingAnother (trace ++ e ∷ []) g (thread_of e)
    beyond-own g =
        let t = thread_of e in
        let value = beyond-own_value (is_by t e) inside (s.beyond g t) (leads_to s e g) (is_behind s e t) (eq-eqb t t refl) in
        ⊎_elim
        (λ opened. (
          (λ h. beyond-own_kept bounds trace e well follows few g (deep opened) ((stands.beyond quiet g t).0 (and_parts inside (s.beyond g t) (sym value ∙ h)).1)),
          (λ w. value ∙ and_from inside (s.beyond g t) opened ((stands.beyond quiet g t).1 (beyond-own_from bounds trace e well follows few g w))),
        ))
        (λ closed. (
          (λ h. absurd (false≢true (sym closed ∙ (and_parts inside (s.beyond g t) (sym value ∙ h)).0))),
          (λ w. absurd (outside-none bounds trace e well follows (flat closed) w.reaching.from w.reaching.of_thread)),
        ))
        (cases_Bool inside)

    -- 45. every thread
    pub beyond-step : (HasCycle (trace ++ e ∷ []) → ⊥) → (g : Group) (u : ℕ) → IsTrue (beyond_after inside s e g u) ↔ ReachingAnother (trace ++ e ∷ []) g u
    beyond-step none g u = ⊎_elim
        (λ own. subst (λ v. IsTrue (beyond_after inside s e g v) ↔ ReachingAnother (trace ++ e ∷ []) g v) own (beyond-own g))
        (λ other. beyond-other none g u other)
        (cases_eq (thread_of e) u)

-- ---- the law

-- 46. with a cycle
pub alarm-stands : (log : List Event) → HasCycle log → IsSummaryOf log alarm
alarm-stands log c = record { alarmed = ((λ h. c), (λ h. refl)); reached = λ quiet. absurd (false≢true (sym quiet)); beyond = λ quiet. absurd (false≢true (sym quiet)) }

module _ (bounds : Bounds) (trace : List Event) (e : Event) (well : IsWellFormed bounds trace) (follows : MayFollow bounds trace e) (few : bounds.threads ≤ 64) where
  -- 47. one more event, by the summary alone
  pub IsSummaryOf-step : (s : Summary) → IsSummaryOf trace s → IsSummaryOf (trace ++ e ∷ []) (step (is_inside trace e) s e)
  IsSummaryOf-step s stands = ⊎_elim alarmed quiet (cases_Bool s.alarmed)
    where
      Goal : Bool → Type 0
      Goal b = IsSummaryOf (trace ++ e ∷ []) (if b then alarm else record { alarmed = false; reached = reached_after (is_inside trace e) s e; beyond = beyond_after (is_inside trace e) s e })

      alarmed : IsTrue s.alarmed → Goal (s.alarmed || closes_cycle s e)
      alarmed h = subst Goal (sym (or_left s.alarmed (closes_cycle s e) h)) (alarm-stands (trace ++ e ∷ []) (HasCycle-append trace (e ∷ []) (stands.alarmed.0 h)))

      none : IsFalse s.alarmed → IsFalse (closes_cycle s e) → HasCycle (trace ++ e ∷ []) → ⊥
      none h k c = false≢true (sym k ∙ (closes-cycle bounds trace e well follows few s stands h).1 c)

      clean : IsFalse s.alarmed → IsFalse (closes_cycle s e) → Goal false
      clean h k = record {
        alarmed = ((λ x. absurd (false≢true x)), (λ c. absurd (none h k c)));
        reached = λ x. reached-step bounds trace e well follows few s stands h (is_inside trace e) refl;
        beyond = λ x. beyond-step bounds trace e well follows few s stands h (is_inside trace e) refl (none h k);
      }

      quiet : IsFalse s.alarmed → Goal (s.alarmed || closes_cycle s e)
      quiet h = ⊎_elim
          (λ closes. subst Goal (sym (or_right s.alarmed (closes_cycle s e) closes)) (alarm-stands (trace ++ e ∷ []) ((closes-cycle bounds trace e well follows few s stands h).0 closes)))
          (λ k. subst Goal (sym (or_from s.alarmed (closes_cycle s e) h k)) (clean h k))
          (cases_Bool (closes_cycle s e))
