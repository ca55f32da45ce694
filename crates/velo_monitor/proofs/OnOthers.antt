-- Steps of the own slot lead to no edge and close no cycle, so a write may leave them out.
use Rattle.std.proofs.Common.{◌≡◌, ◌≢◌, ℕ, Bool, true, false, cond, List, [], ◌∷◌, Option, Some, None, refl, sym, ap, ◌∙◌}
use Rattle.std.specs.Prelude.{IsTrue, ◌↔◌, ◌&&◌, ◌||◌, not, ◌==◌, map}
use Rattle.std.specs.List.{cons_option, filter_map, list_any}
use Rattle.std.proofs.lemmas.Bool.{eqb-true}
use Rattle.velo_events.specs.declared.event.Event.{Event}
use Rattle.velo_events.specs.declared.event.Access.{Access}
use Rattle.velo_events.specs.declared.event.Access.TheVariants.{Exclusive}
use Rattle.velo_events.specs.declared.event.Cell.{Cell}
use Rattle.velo_events.specs.Event.{access_of, thread_of}
use Rattle.velo_arena.specs.declared.step.Step.{Step}
use Rattle.velo_arena.specs.Slots.{bears}
use Rattle.velo_graph.specs.Nodes.{Nodes, is_ancestor, reaches, leads_on, AddsEdges}
use Rattle.velo_events.specs.Place.{LastOf, LastWrite, LastRead, thread_numbers, also_looked_up}
use Rattle.velo_tables.specs.LastAccesses.{LastAccesses, entry, steps_looked_up}
use Rattle.velo_tables.specs.Others.{but_for, accesses_but_for}
use Rattle.velo_tables.proofs.OnSteps.{filter_map-contains, filter_map-from}
use Rattle.velo_merge.specs.Named.{Bears}
use Rattle.velo_monitor.specs.Steps.{live_slot, live_slots, ReachesSome}
use Rattle.velo_monitor.proofs.OnOwn.{closes-all, adds-all}

module _ {X : Type 0} (nodes : Nodes) (slot : ℕ) (f : X → Option Step) where
  abbrev others : X → Option Step
  others x = but_for (Some slot) (f x)

  -- ---- whether the slot reaches one of them

  -- what is left is there, and what is of another slot is left
  left-is : (o : Option Step) (step : Step) → but_for (Some slot) o ≡ Some step → o ≡ Some step
  left-is None step h = h
  left-is (Some s) step h = at (s.slot == slot) refl h
    where
      at : (b : Bool) → (s.slot == slot) ≡ b → cond b None (Some s) ≡ Some step → Some s ≡ Some step
      at true is h = absurd (cc)
      at false is h = h

  is-left : (o : Option Step) (step : Step) → o ≡ Some step → step.slot ≢ slot → but_for (Some slot) o ≡ Some step
  is-left None step h other = h
  is-left (Some s) step h other = at (s.slot == slot) refl
    where
      same : s ≡ step
      same = cc

      at : (b : Bool) → (s.slot == slot) ≡ b → cond b None (Some s) ≡ Some step
      at true is = absurd (other (sym (ap (λ (t : Step). t.slot) same) ∙ eqb-true s.slot slot is))
      at false is = h

  pub reaches-others : (xs : List X) → ReachesSome nodes slot (filter_map others xs) ↔ ReachesSome nodes slot (filter_map f xs)
  reaches-others xs = (
    λ some.
        let from = filter_map-from others xs some.step some.among in
        record { step = some.step; among = filter_map-contains f xs from.0 some.step from.1 (left-is (f from.0) some.step from.2); borne = some.borne; other = some.other; reached = some.reached },
    λ some.
        let from = filter_map-from f xs some.step some.among in
        record { step = some.step; among = filter_map-contains others xs from.0 some.step from.1 (is-left (f from.0) some.step from.2 some.other); borne = some.borne; other = some.other; reached = some.reached },
  )

  -- ---- the edges

  leads-step : (m : ℕ) (o : Option Step) (xs ys : List Step) → leads_on nodes (live_slots nodes xs) slot m ≡ leads_on nodes (live_slots nodes ys) slot m →
      leads_on nodes (live_slots nodes (cons_option (but_for (Some slot) o) xs)) slot m ≡ leads_on nodes (live_slots nodes (cons_option o ys)) slot m
  unfolding live_slots
  leads-step m None xs ys h = h
  leads-step m (Some s) xs ys h = at (s.slot == slot) refl
    where
      to : ℕ → Bool
      to from = not (from == slot) && reaches nodes m from

      here : Bool → List ℕ → List ℕ
      here there froms = cons_option (cond there (Some s.slot) None) froms

      dropped : (s.slot == slot) ≡ true → (there : Bool) → list_any to (here there (filter_map (live_slot nodes) ys)) ≡ list_any to (filter_map (live_slot nodes) ys)
      dropped is true = ap (λ c. (not c && reaches nodes m s.slot) || list_any to (filter_map (live_slot nodes) ys)) is
      dropped is false = refl

      kept : (there : Bool) → list_any to (here there (filter_map (live_slot nodes) xs)) ≡ list_any to (here there (filter_map (live_slot nodes) ys))
      kept true = ap (λ b. to s.slot || b) h
      kept false = h

      at : (b : Bool) → (s.slot == slot) ≡ b → list_any to (filter_map (live_slot nodes) (cons_option (cond b None (Some s)) xs)) ≡ list_any to (filter_map (live_slot nodes) (cons_option (Some s) ys))
      at true is = h ∙ sym (dropped is (bears nodes.slots s.slot s.stamp))
      at false is = kept (bears nodes.slots s.slot s.stamp)

  leads-others : (m : ℕ) (xs : List X) → leads_on nodes (live_slots nodes (filter_map others xs)) slot m ≡ leads_on nodes (live_slots nodes (filter_map f xs)) slot m
  leads-others m [] = refl
  leads-others m (x ∷ xs) = leads-step m (f x) (filter_map others xs) (filter_map f xs) (leads-others m xs)

  pub adds-others : (new : Nodes) (xs : List X) → AddsEdges nodes new (live_slots nodes (filter_map others xs)) slot → AddsEdges nodes new (live_slots nodes (filter_map f xs)) slot
  adds-others new xs adds = record {
    slots = adds.slots;
    ancestors = λ m n. adds.ancestors m n ∙ ap (λ b. is_ancestor nodes m n || (b && reaches nodes slot n)) (leads-others m xs);
  }

-- ---- a write

module _ (nodes : Nodes) (kept : LastAccesses) (e : Event) (own : Step) (c : Cell) (writes : access_of e.kind ≡ Exclusive c) (current : entry kept (LastOf (thread_of e)) ≡ Some own) where
  abbrev looked : List Step
  looked = filter_map (entry kept) (LastWrite c.0 ∷ map (LastRead c.0) thread_numbers)

  looked-up : steps_looked_up kept e ≡ own ∷ looked
  unfolding steps_looked_up
  looked-up =
      ap (λ (a : Access). filter_map (entry kept) (LastOf (thread_of e) ∷ also_looked_up a)) writes
      ∙ ap (λ o. cons_option o looked) current

  pub closes-write : (b : Bool) → IsTrue b ↔ ReachesSome nodes own.slot (accesses_but_for kept c.0 own.slot) → IsTrue b ↔ ReachesSome nodes own.slot (steps_looked_up kept e)
  unfolding accesses_but_for
  closes-write b closes =
      let others = reaches-others nodes own.slot (entry kept) (LastWrite c.0 ∷ map (LastRead c.0) thread_numbers) in
      closes-all nodes own looked (steps_looked_up kept e) b looked-up ((λ yes. others.0 (closes.0 yes)), (λ some. closes.1 (others.1 some)))

  pub adds-write : (new : Nodes) → Bears nodes own.slot own.stamp → AddsEdges nodes new (live_slots nodes (accesses_but_for kept c.0 own.slot)) own.slot → AddsEdges nodes new (live_slots nodes (steps_looked_up kept e)) own.slot
  unfolding accesses_but_for
  adds-write new borne adds =
      adds-all nodes own looked new (steps_looked_up kept e) looked-up borne (adds-others nodes own.slot (entry kept) new (LastWrite c.0 ∷ map (LastRead c.0) thread_numbers) adds)
