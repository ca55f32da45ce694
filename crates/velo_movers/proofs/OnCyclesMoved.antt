-- The edges between transactions go with their events when a well-formed trace is reordered, and so do the cycles.
use Rattle.std.proofs.Common.{◌≡◌, ℕ, ◌<◌, List, [], ◌∷◌, length, map, Some, sym, ap, ◌∙◌, arith, ⊎_elim}
use Rattle.std.specs.Prelude.{◌↔◌, ◌==◌, slice_get, slice_index, IsTrue}
use Rattle.std.proofs.lemmas.Bool.{cases_order, eq-eqb, eqb-true, both_ways}
use Rattle.velo_events.specs.declared.config.Bounds.{Bounds}
use Rattle.velo_events.specs.declared.event.Event.{Event}
use Rattle.velo_events.specs.WellFormed.{IsWellFormed}
use Rattle.velo_events.specs.Block.{least_below, owner}
use Rattle.velo_events.specs.Conflict.{conflict}
use Rattle.velo_events.specs.Graph.{Path, IsCycle, both_conflict, conflict_at, Edge, HasCycle}
use Rattle.velo_events.specs.Reordering.{IsReordering, events_in_order}
use Rattle.velo_events.proofs.OnBlocks.{least_below-is, owner-le}
use Rattle.velo_events.proofs.OnReorderings.{conflict_at-within, IsReordering-place, IsReordering-pair}
use Rattle.velo_events.proofs.OnScans.{event_at}
use Rattle.velo_certify.proofs.OnGreatest.{conflict-comm}
use Rattle.velo_movers.proofs.OnOrdersAgain.{position_within, one_place, length-reordered, conflict_at_places}
use Rattle.velo_movers.proofs.OnOwnersMoved.{owner-reordered}

-- ---- paths and cycles under other names

Path-renamed : (R S : ℕ → ℕ → Type 0) (f : ℕ → ℕ) → ((a b : ℕ) → R a b → S (f a) (f b)) → (a : ℕ) (between : List ℕ) (b : ℕ) → Path R a between b → Path S (f a) (map f between) (f b)
Path-renamed R S f h a [] b p = h a b p
Path-renamed R S f h a (c ∷ cs) b p = (h a c p.0, Path-renamed R S f h c cs b p.1)

IsCycle-renamed : (R S : ℕ → ℕ → Type 0) (f : ℕ → ℕ) → ((a b : ℕ) → R a b → S (f a) (f b)) → (cycle : List ℕ) → IsCycle R cycle → IsCycle S (map f cycle)
IsCycle-renamed R S f h [] c = c
IsCycle-renamed R S f h (a ∷ []) c = c
IsCycle-renamed R S f h (a ∷ b ∷ rest) c = Path-renamed R S f h a (b ∷ rest) a c

-- a conflict has two directions
turned : (trace : List Event) (i j : ℕ) → IsTrue (conflict_at trace i j) → IsTrue (conflict_at trace j i)
unfolding conflict_at
turned trace i j c =
    let w = conflict_at-within trace i j c in
    let f = event_at trace i w.0 in
    let g = event_at trace j w.1 in
    rw (g.1, f.1) (conflict-comm g.0 f.0 ∙ sides f.0 g.0 f.1 g.1)
  where
    sides : (f g : Event) → slice_get trace i ≡ Some f → slice_get trace j ≡ Some g → IsTrue (conflict f g)
    sides f g at_i at_j = sym (ap (both_conflict (Some f)) at_j) ∙ (ap (λ o. both_conflict o (slice_get trace j)) (sym at_i) ∙ c)

-- ---- in the new order

module _ (bounds : Bounds) (trace : List Event) (well : IsWellFormed bounds trace) (order : List ℕ) (r : IsReordering trace order) where
  abbrev new : List Event
  new = events_in_order trace order

  -- the place of a position
  abbrev place : ℕ → ℕ
  place i = least_below (length order) (λ k. slice_index order k == i)

  at_place : (i : ℕ) → i < length trace → (place i < length order) × (slice_index order (place i) ≡ i)
  at_place i l =
      let w = IsReordering-place trace order r i l in
      let least = least_below-is (length order) (λ k. slice_index order k == i) in
      let small : place i < length order = ⊎_elim (λ e. omega (arith, e, w.1)) (⊎_elim (λ g. omega (arith, g, w.1))
      (λ g. absurd (both_ways _ (least.before w.0 g) (eq-eqb _ i w.2)))) (cases_order (place i) w.0) in
      (small, eqb-true _ i (least.passes small))

  place-of : (k : ℕ) → k < length order → place (slice_index order k) ≡ k
  place-of k l =
      let w = at_place (slice_index order k) (position_within trace order r k l) in
      one_place trace order r (place (slice_index order k)) k w.0 l w.1

  -- an edge is there in the new order
  Edge-reordered : (a b : ℕ) → Edge trace a b → Edge new (place a) (place b)
  Edge-reordered a b e =
      let from = at_place e.from (let l = e.in_order in let h = e.in_trace in omega (arith, l, h)) in
      let to = at_place e.to e.in_trace in
      let first = owned e.from from a e.of_from in
      let second = owned e.to to b e.of_to in
      record {
        from = place e.from;
        to = place e.to;
        in_order = IsReordering-pair trace order r e.from e.to (place e.from) (place e.to) (e.in_order, e.in_conflict) from.0 to.0 from.1 to.1;
        in_trace = omega (arith, to.0, length-reordered trace order r);
        in_conflict = conflict_at_places trace order r (place e.from) (place e.to) from.0 to.0 ∙ rw (from.1, to.1) e.in_conflict;
        of_from = first.0;
        of_to = second.0;
        differ = λ same. e.differ (sym first.1 ∙ (ap (slice_index order) same ∙ second.1));
      }
    where
      owned : (i : ℕ) → (place i < length order) × (slice_index order (place i) ≡ i) → (c : ℕ) → owner trace i ≡ c → (owner new (place i) ≡ place c) × (slice_index order (place c) ≡ c)
      owned i w c own =
          let goes : slice_index order (owner new (place i)) ≡ c = sym (owner-reordered bounds trace well order r (place i) w.0) ∙ (ap (owner trace) w.1 ∙ own) in
          let most = owner-le new (place i) in
          let is : owner new (place i) ≡ place c = sym (place-of (owner new (place i)) (omega (arith, most, w.0))) ∙ ap place goes in
          (is, ap (slice_index order) (sym is) ∙ goes)

  -- and an edge of the new order was there
  Edge-from_reordered : (a b : ℕ) → Edge new a b → Edge trace (slice_index order a) (slice_index order b)
  Edge-from_reordered a b e =
      let long = length-reordered trace order r in
      let to : e.to < length order = let h = e.in_trace in omega (arith, h, long) in
      let from : e.from < length order = let l = e.in_order in omega (arith, l, to) in
      let clash : IsTrue (conflict_at trace (slice_index order e.from) (slice_index order e.to)) = sym (conflict_at_places trace order r e.from e.to from to) ∙ e.in_conflict in
      let first = owner-reordered bounds trace well order r e.from from ∙ ap (slice_index order) e.of_from in
      let second = owner-reordered bounds trace well order r e.to to ∙ ap (slice_index order) e.of_to in
      record {
        from = slice_index order e.from;
        to = slice_index order e.to;
        in_order = ⊎_elim (λ same. absurd (let k = one_place trace order r e.from e.to from to same in let l = e.in_order in omega (arith, k, l)))
            (⊎_elim (λ l. l)
            (λ l. absurd (both_ways _ (r.keeps_order e.from e.to e.in_order to l) (turned trace (slice_index order e.from) (slice_index order e.to) clash))))
            (cases_order (slice_index order e.from) (slice_index order e.to));
        in_trace = position_within trace order r e.to to;
        in_conflict = clash;
        of_from = first;
        of_to = second;
        differ = λ same. e.differ (one_place trace order r a b
            (let most = owner-le new e.from in let is = e.of_from in omega (arith, most, is, from))
            (let most = owner-le new e.to in let is = e.of_to in omega (arith, most, is, to)) same);
      }

  -- So a cycle is there in the new order exactly where it was there
  pub HasCycle-reordered : HasCycle trace ↔ HasCycle (events_in_order trace order)
  HasCycle-reordered = (
    (λ c. record { cycle = map place c.cycle; is_cycle = IsCycle-renamed (Edge trace) (Edge new) place Edge-reordered c.cycle c.is_cycle }),
    (λ c. record { cycle = map (slice_index order) c.cycle; is_cycle = IsCycle-renamed (Edge new) (Edge trace) (slice_index order) Edge-from_reordered c.cycle c.is_cycle }),
  )
