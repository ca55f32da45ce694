-- The edges out of a transaction, position by position.
use Rattle.std.proofs.Common.{◌≡◌, ◌≢◌, ℕ, ◌+◌, ◌<◌, ◌≤◌, cond, not, List, Option, Some, None, sym, ap, ◌∙◌, subst, arith, ⊎_elim}
use Rattle.std.specs.Prelude.{◌⊎◌, ◌↔◌, ◌==◌, nat_lt, slice_index, IsTrue, IfSome, MatchOption}
use Rattle.std.proofs.lemmas.Bool.{cases_eq, cases_lt, eq-eqb, eqb-false, ne_eqb, lt-ltb, ltb-true, not_from_false, not-true}
use Rattle.std.proofs.lemmas.Option.{same_Some, none-some}
use Rattle.velo_events.specs.declared.event.Event.{Event}
use Rattle.velo_events.specs.Block.{owner}
use Rattle.velo_events.specs.Graph.{Edge}
use Rattle.velo_events.proofs.OnReorderings.{conflict_at-within}
use Rattle.velo_certify.specs.Table.{IsGreatestBefore}
use Rattle.velo_certify.specs.Nearest.{own_positions, LeadsInto, IsNearestBelow, IsNoneBelow, IsWithNext}

pub own_positions-yes : (trace : List Event) (a i : ℕ) → owner trace i ≡ a → own_positions trace a i ≡ 1
unfolding own_positions
own_positions-yes trace a i h = ap (λ b. cond {A = ℕ} b 1 0) (eq-eqb _ a h)

pub own_positions-no : (trace : List Event) (a i : ℕ) → owner trace i ≢ a → own_positions trace a i ≡ 0
unfolding own_positions
own_positions-no trace a i h = ap (λ b. cond {A = ℕ} b 1 0) (ne_eqb _ a h)

module _ (trace : List Event) (a n m : ℕ) (g : IsGreatestBefore trace (own_positions trace a) n m) where
  pub LeadsInto-by : 0 < m → owner trace n ≢ a → LeadsInto trace a n
  LeadsInto-by some other =
      let k = g.reached some in
      record {
        place = k.0;
        before = k.1;
        in_conflict = k.2;
        of_place = ⊎_elim (λ e. e) (λ e. absurd (let none = own_positions-no trace a k.0 e in omega (arith, none, k.3, some))) (cases_eq (owner trace k.0) a);
        differ = λ same. other (sym same);
      }

  pub LeadsInto-some : LeadsInto trace a n → 0 < m
  LeadsInto-some w =
      let most = g.covers w.place w.before w.in_conflict in
      let one = own_positions-yes trace a w.place w.of_place in
      omega (arith, most, one)

pub LeadsInto-edge : (trace : List Event) (a n b : ℕ) → LeadsInto trace a n → owner trace n ≡ b → Edge trace a b
LeadsInto-edge trace a n b w is = record {
  from = w.place;
  to = n;
  in_order = w.before;
  in_trace = (conflict_at-within trace w.place n w.in_conflict).1;
  in_conflict = w.in_conflict;
  of_from = w.of_place;
  of_to = is;
  differ = λ same. w.differ (same ∙ sym is);
}

-- a nearest one of the events before position n, or none of them leads there
abbrev pub IsNearestSoFar : List Event → List ℕ → ℕ → ℕ → Option ℕ → Type 0
IsNearestSoFar trace distance a n nearest = MatchOption nearest (IsNoneBelow trace distance a n) (IsNearestBelow trace distance a n)

-- ---- the nearest
module _ (trace : List Event) (distance : List ℕ) (a n : ℕ) where
  pub IsNearestSoFar-none : (nearest : Option ℕ) → ¬ LeadsInto trace a n → IsNearestSoFar trace distance a n nearest → IsNearestSoFar trace distance a (n + 1) nearest
  IsNearestSoFar-none None none w = record { none = λ i l h. ⊎_elim (λ g. w.none i g h) (λ g. absurd (none (subst (LeadsInto trace a) (let same : i ≡ n = omega (arith, g, l) in same) h))) (cases_lt i n) }
  IsNearestSoFar-none (Some b) none w = record {
    edge = w.edge;
    reached = w.reached;
    nearest = λ i l h some. ⊎_elim (λ g. w.nearest i g h some) (λ g. absurd (none (subst (LeadsInto trace a) (let same : i ≡ n = omega (arith, g, l) in same) h))) (cases_lt i n);
  }

  pub IsNearestSoFar-next : (nearest result : Option ℕ) → LeadsInto trace a n → IsWithNext distance nearest (owner trace n) result → IsNearestSoFar trace distance a n nearest → IsNearestSoFar trace distance a (n + 1) result
  IsNearestSoFar-next nearest result leads next w = ⊎_elim
      (λ none. subst (IsNearestSoFar trace distance a (n + 1)) (sym (next.without none)) (stays nearest none w))
      (λ other. let some : 0 < slice_index distance (owner trace n) = ⊎_elim (λ l. l) (λ g. absurd (other (omega (arith, g)))) (cases_lt 0 (slice_index distance (owner trace n))) in
      let v = next.with_distance some in
      subst (IsNearestSoFar trace distance a (n + 1)) (sym v.1) (changes nearest v.0 v.2 v.3 v.4 some w))
      (cases_eq (slice_index distance (owner trace n)) 0)
    where
      stays : (o : Option ℕ) → slice_index distance (owner trace n) ≡ 0 → IsNearestSoFar trace distance a n o → IsNearestSoFar trace distance a (n + 1) o
      stays None none w = record { none = λ i l h. ⊎_elim (λ g. w.none i g h) (λ g. ap (λ k. slice_index distance (owner trace k)) (let same : i ≡ n = omega (arith, g, l) in same) ∙ none) (cases_lt i n) }
      stays (Some b) none w = record {
        edge = w.edge;
        reached = w.reached;
        nearest = λ i l h some. ⊎_elim (λ g. w.nearest i g h some) (λ g. absurd (let is = ap (λ k. slice_index distance (owner trace k)) (let same : i ≡ n = omega (arith, g, l) in same) in omega (arith, is, none, some))) (cases_lt i n);
      }

      changes : (o : Option ℕ) (r : ℕ) → slice_index distance r ≤ slice_index distance (owner trace n) → IfSome o (λ b. slice_index distance r ≤ slice_index distance b) → (r ≡ owner trace n) ⊎ (o ≡ Some r) → 0 < slice_index distance (owner trace n) → IsNearestSoFar trace distance a n o → IsNearestBelow trace distance a (n + 1) r
      changes None r near old either some w = record {
        edge = ⊎_elim (λ e. LeadsInto-edge trace a n r leads (sym e)) (λ e. absurd (none-some r e)) either;
        reached = ⊎_elim (λ e. subst (λ x. 0 < slice_index distance x) (sym e) some) (λ e. absurd (none-some r e)) either;
        nearest = λ i l h has. ⊎_elim (λ g. absurd (let none = w.none i g h in omega (arith, none, has))) (λ g. let is = ap (λ k. slice_index distance (owner trace k)) (let same : i ≡ n = omega (arith, g, l) in same) in omega (arith, is, near)) (cases_lt i n);
      }
      changes (Some b) r near old either some w = record {
        edge = ⊎_elim (λ e. LeadsInto-edge trace a n r leads (sym e)) (λ e. subst (Edge trace a) (same_Some b r e) w.edge) either;
        reached = ⊎_elim (λ e. subst (λ x. 0 < slice_index distance x) (sym e) some) (λ e. subst (λ x. 0 < slice_index distance x) (same_Some b r e) w.reached) either;
        nearest = λ i l h has. ⊎_elim (λ g. let before = w.nearest i g h has in omega (arith, old, before)) (λ g. let is = ap (λ k. slice_index distance (owner trace k)) (let same : i ≡ n = omega (arith, g, l) in same) in omega (arith, is, near)) (cases_lt i n);
      }

-- ---- whether an edge leads into a position

module _ (trace : List Event) (a n number m own : ℕ) (is : own ≡ owner trace n) where
  pub number-of_own : (own ≡ a → number ≡ 1) → (own ≢ a → number ≡ 0) → own_positions trace a n ≡ number
  number-of_own yes_it_is it_is_not = ⊎_elim
      (λ e. own_positions-yes trace a n e ∙ sym (yes_it_is (is ∙ e)))
      (λ e. own_positions-no trace a n e ∙ sym (it_is_not (λ same. e (sym is ∙ same))))
      (cases_eq (owner trace n) a)

  pub leads-answer-some : IsGreatestBefore trace (own_positions trace a) n m → 0 < m → IsTrue (not (own == a)) ↔ LeadsInto trace a n
  leads-answer-some g some = (
    (λ h. LeadsInto-by trace a n m g some (λ same. eqb-false own a (not-true _ h) (is ∙ same))),
    (λ w. not_from_false _ (ne_eqb own a (λ same. w.differ (sym same ∙ is)))),
  )

  pub leads-answer-none : IsGreatestBefore trace (own_positions trace a) n m → m ≤ 0 → IsTrue (nat_lt 0 m) ↔ LeadsInto trace a n
  leads-answer-none g none = (
    (λ h. absurd (let some = ltb-true 0 m h in omega (arith, some, none))),
    (λ w. lt-ltb 0 m (LeadsInto-some trace a n m g w)),
  )
