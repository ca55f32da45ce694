-- The events behind the edges of a cycle.
use Rattle.std.proofs.Common.{◌≡◌, ◌≢◌, ℕ, ◌+◌, ◌-◌, ◌<◌, cond, List, ◌∷◌, [], ◌++◌, length, refl, sym, ap, ◌∙◌, subst, arith, ⊎_elim}
use Rattle.std.specs.Prelude.{slice_index}
use Rattle.std.proofs.lemmas.Bool.{cases_eq, cases_lt, eq-eqb, ne_eqb}
use Rattle.std.proofs.lemmas.List.{length_push, get_or_append_left, get_or_push}
use Rattle.velo_events.specs.declared.event.Event.{Event}
use Rattle.velo_events.specs.Block.{owner}
use Rattle.velo_events.specs.Graph.{IsCycle}
use Rattle.velo_events.specs.Graph.{Edge}
use Rattle.velo_events.proofs.OnReorderings.{conflict_at-within}
use Rattle.velo_certify.specs.declared.edges.EdgeEvents.{EdgeEvents}
use Rattle.velo_certify.specs.Table.{IsGreatestBefore}
use Rattle.velo_certify.specs.Nearest.{LeadsInto}
use Rattle.velo_certify.specs.Cycle.{next_in, IsLinked}
use Rattle.velo_certify.specs.Edges.{ShowsEdge, ShowEdgesSoFar, edge_at, own_places}
use Rattle.velo_certify.proofs.OnCycles.{IsLinked-cycle, IsCycle-long}

pub own_places-yes : (trace : List Event) (a i : ℕ) → owner trace i ≡ a → own_places trace a i ≡ i + 1
unfolding own_places
own_places-yes trace a i h = ap (λ b. cond {A = ℕ} b (i + 1) 0) (eq-eqb _ a h)

pub own_places-no : (trace : List Event) (a i : ℕ) → owner trace i ≢ a → own_places trace a i ≡ 0
unfolding own_places
own_places-no trace a i h = ap (λ b. cond {A = ℕ} b (i + 1) 0) (ne_eqb _ a h)

pub own_places-is : (trace : List Event) (a i own number : ℕ) → own ≡ owner trace i → (own ≡ a → number ≡ i + 1) → (own ≢ a → number ≡ 0) → own_places trace a i ≡ number
own_places-is trace a i own number is own_one other_one = ⊎_elim
    (λ e. own_places-yes trace a i e ∙ sym (own_one (is ∙ e)))
    (λ e. own_places-no trace a i e ∙ sym (other_one (λ same. e (sym is ∙ same))))
    (cases_eq (owner trace i) a)

module _ (trace : List Event) (a n m : ℕ) (g : IsGreatestBefore trace (own_places trace a) n m) where
  pub place-some : LeadsInto trace a n → 0 < m
  place-some w =
      let most = g.covers w.place w.before w.in_conflict in
      let one = own_places-yes trace a w.place w.of_place in
      omega (arith, most, one)

  pub place-edge : 0 < m → owner trace n ≢ a → ShowsEdge trace a (owner trace n) (record { from = m - 1; to = n })
  place-edge some other =
      let k = g.reached some in
      let own : owner trace k.0 ≡ a = ⊎_elim (λ e. e) (λ e. absurd (let none = own_places-no trace a k.0 e in omega (arith, none, k.3, some))) (cases_eq (owner trace k.0) a) in
      let number = own_places-yes trace a k.0 own in
      let at : k.0 ≡ m - 1 = omega (arith, number, k.3) in
      subst (λ from. ShowsEdge trace a (owner trace n) (record { from = from; to = n })) at (record {
        in_order = k.1;
        in_trace = (conflict_at-within trace k.0 n k.2).1;
        in_conflict = k.2;
        of_from = own;
        of_to = refl;
        differ = λ same. other (sym same);
      })

-- one edge more
pub ShowEdgesSoFar-next : (trace : List Event) (cycle : List ℕ) (k : ℕ) (edges : List EdgeEvents) (edge : EdgeEvents) → ShowEdgesSoFar trace cycle k edges → ShowsEdge trace (slice_index cycle k) (next_in cycle k) edge → ShowEdgesSoFar trace cycle (k + 1) (edges ++ edge ∷ [])
ShowEdgesSoFar-next trace cycle k edges edge w e = record {
  count = let long = length_push edges edge in let was = w.count in omega (arith, long, was);
  each = λ i l. ⊎_elim
      (λ inner. subst (ShowsEdge trace (slice_index cycle i) (next_in cycle i)) (sym (get_or_append_left edges (edge ∷ []) (record { from = 0; to = 0 }) i (let was = w.count in omega (arith, was, inner)))) (w.each i inner))
      (λ last. let same : i ≡ k = omega (arith, last, l) in
      subst (λ j. ShowsEdge trace (slice_index cycle j) (next_in cycle j) (edge_at (edges ++ edge ∷ []) j)) (sym same)
      (subst (ShowsEdge trace (slice_index cycle k) (next_in cycle k)) (sym (get_or_push edges edge (record { from = 0; to = 0 }) k w.count)) e))
      (cases_lt i k);
}

pub IsLinked-of : (trace : List Event) (cycle : List ℕ) → IsCycle (Edge trace) cycle → IsLinked trace cycle (length cycle)
IsLinked-of trace cycle c = (IsLinked-cycle trace cycle (IsCycle-long trace cycle c)).1 c
