-- The own step of an event leads to no edge, and closes no cycle.
use Rattle.std.proofs.Common.{◌≡◌, ◌≢◌, ℕ, zero, suc, Bool, cond, List, [], ◌∷◌, Some, None, refl, sym, ap, ◌∙◌, subst, arith}
use Rattle.std.specs.Prelude.{IsTrue, Contains, ◌↔◌, ◌&&◌, ◌||◌, not}
use Rattle.std.specs.List.{cons_option}
use Rattle.std.proofs.lemmas.Bool.{eq-eqb}
use Rattle.velo_arena.specs.declared.step.Step.{Step}
use Rattle.velo_graph.specs.Nodes.{Nodes, is_ancestor, reaches, leads_on, AddsEdges}
use Rattle.velo_graph.proofs.OnEdges.{adds-none}
use Rattle.velo_merge.specs.Named.{Bears}
use Rattle.velo_monitor.specs.Steps.{live_slots, ReachesSome}

module _ (nodes : Nodes) (own : Step) (steps : List Step) where
  further : (step : Step) → step.slot ≢ own.slot → Contains (own ∷ steps) step → Contains steps step
  further step other (zero, inside, is) = absurd (other (ap (λ (s : Step). s.slot) (sym is)))
  further step other (suc k, inside, is) = (k, omega (arith, inside), is)

  pub reaches-own : ReachesSome nodes own.slot (own ∷ steps) ↔ ReachesSome nodes own.slot steps
  reaches-own = (
    λ some. record { step = some.step; among = further some.step some.other some.among; borne = some.borne; other = some.other; reached = some.reached },
    λ some. record { step = some.step; among = (suc some.among.0, omega (arith, some.among.1), some.among.2); borne = some.borne; other = some.other; reached = some.reached },
  )

  slots-own : Bears nodes own.slot own.stamp → live_slots nodes (own ∷ steps) ≡ own.slot ∷ live_slots nodes steps
  unfolding live_slots
  slots-own borne = ap (λ b. cons_option (cond b (Some own.slot) None) (live_slots nodes steps)) borne

  pub adds-own : (new : Nodes) → Bears nodes own.slot own.stamp → AddsEdges nodes new (live_slots nodes steps) own.slot → AddsEdges nodes new (live_slots nodes (own ∷ steps)) own.slot
  adds-own new borne adds =
      subst (λ froms. AddsEdges nodes new froms own.slot) (sym (slots-own borne)) (record {
        slots = adds.slots;
        ancestors = λ m n.
            adds.ancestors m n
            ∙ ap (λ b. is_ancestor nodes m n || (((not b && reaches nodes m own.slot) || leads_on nodes (live_slots nodes steps) own.slot m) && reaches nodes own.slot n)) (sym (eq-eqb own.slot own.slot refl));
      })

  -- what an event looks up, if it is this
  pub closes-all : (looked : List Step) (b : Bool) → looked ≡ own ∷ steps → IsTrue b ↔ ReachesSome nodes own.slot steps → IsTrue b ↔ ReachesSome nodes own.slot looked
  closes-all looked b is closes = subst (λ list. IsTrue b ↔ ReachesSome nodes own.slot list) (sym is) ((λ yes. reaches-own.1 (closes.0 yes)), (λ some. closes.1 (reaches-own.0 some)))

  pub adds-all : (new : Nodes) (looked : List Step) → looked ≡ own ∷ steps → Bears nodes own.slot own.stamp → AddsEdges nodes new (live_slots nodes steps) own.slot → AddsEdges nodes new (live_slots nodes looked) own.slot
  adds-all new looked is borne adds = subst (λ list. AddsEdges nodes new (live_slots nodes list) own.slot) (sym is) (adds-own new borne adds)

pub adds-nothing : (nodes : Nodes) (to : ℕ) → AddsEdges nodes nodes (live_slots nodes []) to
unfolding live_slots
adds-nothing nodes to = adds-none nodes to

pub reaches-nothing : (nodes : Nodes) (slot : ℕ) → ¬ ReachesSome nodes slot []
reaches-nothing nodes slot some = absurd (omega (arith, some.among.1))
