-- The slots of the nodes that steps name, one step after another.
use Rattle.std.proofs.Common.{◌≡◌, ◌≢◌, ℕ, ◌+◌, ◌<◌, ◌≤◌, Bool, true, false, cond, List, [], ◌∷◌, ◌++◌, length, get_or, take, Some, None, refl, sym, ap, ◌∙◌, subst, ⊎_elim, arith}
use Rattle.std.specs.Prelude.{IsTrue, Contains, ◌↔◌, filter_map}
use Rattle.std.specs.List.{cons_option}
use Rattle.std.proofs.lemmas.Bool.{both_ways, false_from_ne_true}
use Rattle.std.proofs.lemmas.List.{take_more, take_all, get_or_default, append-nil}
use Rattle.std.proofs.lemmas.List.Elements.{Contains-push_cases, filter_map-append}
use Rattle.velo_arena.specs.declared.step.Step.{Step}
use Rattle.velo_arena.specs.Slots.{Slots, bears}
use Rattle.velo_graph.specs.declared.graph.Edge.{Edge}
use Rattle.velo_graph.specs.declared.graph.Edge.TheVariants.{Same, Known, Added, Closes}
use Rattle.velo_graph.specs.Nodes.{Nodes, reaches, IsSound, AddsEdge, AddsEdges}
use Rattle.velo_graph.proofs.OnEdges.{adds-none, adds-more, adds-same, adds-known, target_reaches}
use Rattle.velo_tables.proofs.OnSteps.{filter_map-contains, filter_map-from}
use Rattle.velo_merge.specs.Named.{Bears}
use Rattle.velo_monitor.specs.Steps.{live_slot, live_slots, ReachesSome}

-- what a step resolves to
pub resolved_to : (b : Bool) (slot from : ℕ) → Some from ≡ cond b (Some slot) None → (b ≡ true) × (slot ≡ from)
resolved_to true slot from h = (refl, cc)
resolved_to false slot from h = absurd (cc)

pub resolved_none : (b : Bool) (slot : ℕ) → None ≡ cond b (Some slot) None → b ≡ false
resolved_none true slot h = absurd (cc)
resolved_none false slot h = refl

-- ---- the slots in the list

pub in_live_slots : (nodes : Nodes) (steps : List Step) (k : ℕ) → Contains (live_slots nodes steps) k → (step : Step) × Contains steps step × Bears nodes step.slot step.stamp × (step.slot ≡ k)
unfolding live_slots
in_live_slots nodes steps k among =
    let s = filter_map-from (live_slot nodes) steps k among in
    let at = resolved_to (bears nodes.slots s.0.slot s.0.stamp) s.0.slot k (sym s.2) in
    (s.0, s.1, at.0, at.1)

pub of_live_slot : (nodes : Nodes) (steps : List Step) (step : Step) → Contains steps step → Bears nodes step.slot step.stamp → Contains (live_slots nodes steps) step.slot
unfolding live_slots
of_live_slot nodes steps step among borne =
    filter_map-contains (live_slot nodes) steps step step.slot among (ap (λ b. cond b (Some step.slot) None) borne)

-- ---- the first steps, one more at a time

slots-more : (nodes : Nodes) (steps : List Step) (i : ℕ) (x d : Step) → i < length steps → x ≡ get_or steps i d → live_slots nodes (take (i + 1) steps) ≡ live_slots nodes (take i steps) ++ cons_option (live_slot nodes x) []
unfolding live_slots
slots-more nodes steps i x d inside is =
    ap (λ (xs : List Step). filter_map (live_slot nodes) xs) (take_more steps i d inside)
    ∙ filter_map-append (live_slot nodes) (take i steps) (get_or steps i d ∷ [])
    ∙ ap (λ (z : Step). filter_map (live_slot nodes) (take i steps) ++ cons_option (live_slot nodes z) []) (sym is)

slots-live : (nodes : Nodes) (steps : List Step) (i : ℕ) (x d : Step) → i < length steps → x ≡ get_or steps i d → Bears nodes x.slot x.stamp → live_slots nodes (take (i + 1) steps) ≡ live_slots nodes (take i steps) ++ x.slot ∷ []
slots-live nodes steps i x d inside is borne =
    slots-more nodes steps i x d inside is ∙ ap (λ b. live_slots nodes (take i steps) ++ cons_option (cond b (Some x.slot) None) []) borne

slots-dead : (nodes : Nodes) (steps : List Step) (i : ℕ) (x d : Step) → i < length steps → x ≡ get_or steps i d → bears nodes.slots x.slot x.stamp ≡ false → live_slots nodes (take (i + 1) steps) ≡ live_slots nodes (take i steps)
slots-dead nodes steps i x d inside is gone =
    slots-more nodes steps i x d inside is
    ∙ ap (λ b. live_slots nodes (take i steps) ++ cons_option (cond b (Some x.slot) None) []) gone
    ∙ append-nil (live_slots nodes (take i steps))

-- ---- whether the slot reaches one of them

pub reaches-this : (nodes : Nodes) (slot : ℕ) (steps : List Step) (i : ℕ) (x d : Step) → i < length steps → x ≡ get_or steps i d → Bears nodes x.slot x.stamp → x.slot ≢ slot → IsTrue (reaches nodes slot x.slot) → ReachesSome nodes slot steps
reaches-this nodes slot steps i x d inside is borne other reached = record { step = x; among = (i, inside, get_or_default steps i x d inside ∙ sym is); borne = borne; other = other; reached = reached }

-- ---- the edges, one more at a time

pub record AddsFirst (old now : Nodes) (steps : List Step) (i to : ℕ) : Type 0 where
  pub adds : AddsEdges old now (live_slots old (take i steps)) to
  pub sound : IsSound now

pub first-none : (nodes : Nodes) (steps : List Step) (to : ℕ) → IsSound nodes → AddsFirst nodes nodes steps 0 to
unfolding live_slots
first-none nodes steps to sound = record { adds = adds-none nodes to; sound = sound }

pub first-all : (old now : Nodes) (steps : List Step) (i to : ℕ) → length steps ≤ i → AddsFirst old now steps i to → AddsEdges old now (live_slots old steps) to
first-all old now steps i to all first = subst (λ (xs : List Step). AddsEdges old now (live_slots old xs) to) (take_all i steps all) first.adds

pub first-dead : (old now : Nodes) (steps : List Step) (i to : ℕ) (x d : Step) → i < length steps → x ≡ get_or steps i d → bears now.slots x.slot x.stamp ≡ false → AddsFirst old now steps i to → AddsFirst old now steps (i + 1) to
first-dead old now steps i to x d inside is gone first = record {
  adds = subst (λ (froms : List ℕ). AddsEdges old now froms to) (sym (slots-dead old steps i x d inside is (ap (λ (s : Slots). bears s x.slot x.stamp) (sym first.adds.slots) ∙ gone))) first.adds;
  sound = first.sound;
}

module _ (old now new : Nodes) (steps : List Step) (i to : ℕ) (x d : Step) (inside : i < length steps) (is : x ≡ get_or steps i d) (borne : Bears now x.slot x.stamp) (none : ¬ ReachesSome old to steps) (first : AddsFirst old now steps i to) (sound : IsSound new) where
  there : Bears old x.slot x.stamp
  there = ap (λ (s : Slots). bears s x.slot x.stamp) (sym first.adds.slots) ∙ borne

  more : AddsEdges old new (live_slots old (take i steps) ++ x.slot ∷ []) to → AddsFirst old new steps (i + 1) to
  more adds = record { adds = subst (λ (froms : List ℕ). AddsEdges old new froms to) (sym (slots-live old steps i x d inside is there)) adds; sound = sound }

  apart : x.slot ≢ to → reaches old to x.slot ≡ false
  apart other = false_from_ne_true (reaches old to x.slot) (λ reached. none (reaches-this old to steps i x d inside is there other reached))

  pub first-more : (edge : Edge) → (edge ≡ Same) ↔ (x.slot ≡ to) → (edge ≡ Known) ↔ ((x.slot ≢ to) × IsTrue (reaches now x.slot to)) → (edge ≡ Closes) ↔ ((x.slot ≢ to) × IsTrue (reaches now to x.slot)) → (edge ≡ Added → AddsEdge now new x.slot to) → (edge ≢ Added → new ≡ now) → AddsFirst old new steps (i + 1) to
  first-more Same same known closes added unchanged =
      more (adds-same old new (live_slots old (take i steps)) x.slot to (subst (λ (n : Nodes). AddsEdges old n (live_slots old (take i steps)) to) (sym (unchanged (λ differ. cc))) first.adds) (same.0 refl))
  first-more Known same known closes added unchanged =
      let both = known.0 refl in
      let stays : new ≡ now = unchanged (λ differ. cc) in
      more (adds-more old now new (live_slots old (take i steps)) x.slot to first.adds both.0 (apart both.0) (subst (λ (n : Nodes). AddsEdge now n x.slot to) (sym stays) (adds-known now x.slot to first.sound both.0 both.1)))
  first-more Added same known closes added unchanged =
      let other : x.slot ≢ to = λ (at : x.slot ≡ to). added_same (same.1 at) in
      more (adds-more old now new (live_slots old (take i steps)) x.slot to first.adds other (apart other) (added refl))
    where
      added_same : Added ≡ Same → ⊥
      added_same h = cc
  first-more Closes same known closes added unchanged =
      let both = closes.0 refl in
      absurd (both_ways (reaches old to x.slot) (apart both.0) (sym (target_reaches old now (live_slots old (take i steps)) to x.slot first.adds) ∙ both.1))

  pub first-from : (edge : Edge) (from : ℕ) → x.slot ≡ from → (edge ≡ Same) ↔ (from ≡ to) → (edge ≡ Known) ↔ ((from ≢ to) × IsTrue (reaches now from to)) → (edge ≡ Closes) ↔ ((from ≢ to) × IsTrue (reaches now to from)) → (edge ≡ Added → AddsEdge now new from to) → (edge ≢ Added → new ≡ now) → AddsFirst old new steps (i + 1) to
  first-from edge from at =
      subst (λ z. (edge ≡ Same) ↔ (z ≡ to) → (edge ≡ Known) ↔ ((z ≢ to) × IsTrue (reaches now z to)) → (edge ≡ Closes) ↔ ((z ≢ to) × IsTrue (reaches now to z)) → (edge ≡ Added → AddsEdge now new z to) → (edge ≢ Added → new ≡ now) → AddsFirst old new steps (i + 1) to) at (first-more edge)

-- ---- one step alone

only-this : (nodes : Nodes) (to : ℕ) (step : Step) (some : ReachesSome nodes to (step ∷ [])) → some.step ≡ step
only-this nodes to step some =
    ⊎_elim (λ (none : Contains [] some.step). absurd (omega (arith, none.1))) (λ (same : step ≡ some.step). sym same) (Contains-push_cases [] step some.step some.among)

pub only-dead : (nodes : Nodes) (step : Step) (to : ℕ) → IsSound nodes → bears nodes.slots step.slot step.stamp ≡ false → AddsEdges nodes nodes (live_slots nodes (step ∷ [])) to
only-dead nodes step to sound gone = first-all nodes nodes (step ∷ []) 1 to (omega arith) (first-dead nodes nodes (step ∷ []) 0 to step step (omega arith) refl gone (first-none nodes (step ∷ []) to sound))

pub only-from : (old new : Nodes) (step : Step) (to : ℕ) → IsSound old → Bears old step.slot step.stamp → IsSound new → (edge : Edge) (from : ℕ) → edge ≢ Closes → step.slot ≡ from → (edge ≡ Same) ↔ (from ≡ to) → (edge ≡ Known) ↔ ((from ≢ to) × IsTrue (reaches old from to)) → (edge ≡ Closes) ↔ ((from ≢ to) × IsTrue (reaches old to from)) → (edge ≡ Added → AddsEdge old new from to) → (edge ≢ Added → new ≡ old) → AddsEdges old new (live_slots old (step ∷ [])) to
only-from old new step to sound borne after edge from apart at same known closes added unchanged =
    first-all old new (step ∷ []) 1 to (omega arith) (first-from old old new (step ∷ []) 0 to step step (omega arith) refl borne none (first-none old (step ∷ []) to sound) after edge from at same known closes added unchanged)
  where
    none : ¬ ReachesSome old to (step ∷ [])
    none some =
        let is : some.step.slot ≡ from = ap (λ (s : Step). s.slot) (only-this old to step some) ∙ at in
        apart (closes.1 ((λ (here : from ≡ to). some.other (is ∙ here)), subst (λ k. IsTrue (reaches old to k)) is some.reached))
