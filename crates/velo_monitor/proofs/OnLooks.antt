-- What the steps that the next event looks up tell of the trace.
use Rattle.std.proofs.Common.{◌≡◌, ℕ, false, List, Option, Some, None, refl, sym, ◌∙◌, subst, ⊎_elim, inl}
use Rattle.std.specs.Prelude.{◌⊎◌, IsTrue, Contains}
use Rattle.std.proofs.lemmas.Bool.{cases_Bool}
use Rattle.velo_events.specs.declared.config.Bounds.{Bounds}
use Rattle.velo_events.specs.declared.event.Event.{Event}
use Rattle.velo_events.specs.Block.{owner, IsUnfinished}
use Rattle.velo_events.specs.Graph.{Edge, Reaches, HasCycle}
use Rattle.velo_monitor.specs.Collection.{IsLive, IsCovered}
use Rattle.velo_events.proofs.OnGraphs.{newest}
use Rattle.velo_events.proofs.OnUnfinished.{newest-not_finished}
use Rattle.velo_monitor.proofs.OnCollection.{IsCovered-finished}
use Rattle.velo_arena.specs.declared.step.Step.{Step}
use Rattle.velo_arena.specs.Slots.{bears}
use Rattle.velo_graph.specs.Nodes.{Nodes, reaches}
use Rattle.velo_events.specs.Place.{Place, looked_up, last_at}
use Rattle.velo_tables.specs.LastAccesses.{LastAccesses, entry, steps_looked_up}
use Rattle.velo_tables.proofs.OnSteps.{steps_looked_up-contains, steps_looked_up-from}
use Rattle.velo_merge.specs.Named.{Bears}
use Rattle.velo_monitor.specs.Watched.{Watched, IsEntryFor, IsStepFor, IsMonitorOf}
use Rattle.velo_monitor.proofs.OnNodes.{reaches-unfinished}

-- a step that the event looks up names the node with stamp b in slot k
pub record Names (nodes : Nodes) (kept : LastAccesses) (e : Event) (k b : ℕ) : Type 0 where
  pub step : Step
  pub among : Contains (steps_looked_up kept e) step
  pub slot : step.slot ≡ k
  pub stamp : step.stamp ≡ b
  pub borne : Bears nodes k b

-- the step names a node that stands for transaction x
pub record LeadsFor (nodes : Nodes) (trace : List Event) (step : Step) (x : ℕ) : Type 0 where
  pub borne : Bears nodes step.slot step.stamp
  pub which : (step.stamp ≡ x) ⊎ IsCovered trace x step.stamp

-- it reaches what it stands for
pub stamp-reaches : (trace : List Event) (b x : ℕ) → (b ≡ x) ⊎ IsCovered trace x b → Reaches (Edge trace) b x
stamp-reaches trace b x which = ⊎_elim (λ (same : b ≡ x). inl same) (λ (covered : IsCovered trace x b). covered.reached) which

-- and whatever is unfinished and reaches that reaches it
pub stamp-by_way_of : (trace : List Event) (b x u : ℕ) → (b ≡ x) ⊎ IsCovered trace x b → IsUnfinished trace u → Reaches (Edge trace) u x → Reaches (Edge trace) u b
stamp-by_way_of trace b x u which still r =
    ⊎_elim (λ (same : b ≡ x). subst (λ z. Reaches (Edge trace) u z) (sym same) r) (λ (covered : IsCovered trace x b). covered.by_way_of u still r) which

-- the one is the event's transaction exactly where the other is
pub stamp-newest : (trace : List Event) (e : Event) (b x : ℕ) → (b ≡ x) ⊎ IsCovered trace x b → b ≡ newest trace e → x ≡ newest trace e
stamp-newest trace e b x which at =
    ⊎_elim (λ (same : b ≡ x). sym same ∙ at) (λ (covered : IsCovered trace x b). absurd (newest-not_finished trace e b covered.finished (sym at))) which

pub stamp-other : (trace : List Event) (e : Event) → ¬ HasCycle trace → (b x : ℕ) → (b ≡ x) ⊎ IsCovered trace x b → x ≡ newest trace e → b ≡ newest trace e
stamp-other trace e none b x which at =
    ⊎_elim (λ (same : b ≡ x). same ∙ at)
    (λ (covered : IsCovered trace x b). absurd (newest-not_finished trace e x (IsCovered-finished trace x b none covered) (sym at)))
    which

-- the entry of a live transaction names a node that stands for it
pub entry-live : (nodes : Nodes) (trace : List Event) (o : Option Step) (x : ℕ) → IsEntryFor nodes trace o x → IsLive trace x → (step : Step) × (o ≡ Some step) × LeadsFor nodes trace step x
entry-live nodes trace None x is live = absurd (is live)
entry-live nodes trace (Some step) x is live =
    ⊎_elim
    (λ (borne : Bears nodes step.slot step.stamp). (step, refl, record { borne = borne; which = is.alive borne }))
    (λ (gone : bears nodes.slots step.slot step.stamp ≡ false). absurd (is.dead gone live))
    (cases_Bool (bears nodes.slots step.slot step.stamp))

none_or_some : (o : Option Step) (step : Step) → o ≡ None → o ≡ Some step → ⊥
none_or_some o step none some = cc

-- node b in slot k, which the event looks up, stands for the transaction at a place that it looks up
pub record StandsAt (nodes : Nodes) (kept : LastAccesses) (trace : List Event) (e : Event) (b : ℕ) : Type 0 where
  pub place : Place
  pub at : ℕ
  pub looked : Contains (looked_up e) place
  pub last : last_at place trace ≡ Some at
  pub which : (b ≡ owner trace at) ⊎ IsCovered trace (owner trace at) b

module _ (bounds : Bounds) (w : Watched) (trace : List Event) (e : Event) (stands : IsMonitorOf bounds w trace) where
  -- an unfinished transaction that reaches one that is looked up is an ancestor of the node, or the node, that stands for it
  pub looked_up-unfinished : (p : Place) (i u : ℕ) → Contains (looked_up e) p → last_at p trace ≡ Some i → IsUnfinished trace u → Reaches (Edge trace) u (owner trace i) →
      (k b : ℕ) × Names w.nodes w.kept e k b × ((b ≡ owner trace i) ⊎ IsCovered trace (owner trace i) b) × ((j : ℕ) → Bears w.nodes j u → IsTrue (reaches w.nodes j k))
  looked_up-unfinished p i u looks last still leads =
      let live : IsLive trace (owner trace i) = record { root = u; unfinished = still; reaches = leads } in
      let s = entry-live w.nodes trace (entry w.kept p) (owner trace i) (stands.entries.last p i last) live in (
        s.0.slot,
        s.0.stamp,
        record { step = s.0; among = steps_looked_up-contains w.kept e p s.0 looks s.1; slot = refl; stamp = refl; borne = s.2.borne },
        s.2.which,
        λ j borne. reaches-unfinished w.nodes trace j s.0.slot u s.0.stamp stands.sound stands.ancestors borne s.2.borne still (stamp-by_way_of trace s.0.stamp (owner trace i) u s.2.which still leads),
      )

  -- each node that is named stands for a transaction that is looked up
  pub named : (k b : ℕ) → Names w.nodes w.kept e k b → StandsAt w.nodes w.kept trace e b
  named k b n = let f = steps_looked_up-from w.kept e n.step n.among in at f.0 f.1 f.2 (last_at f.0 trace) refl
    where
      borne : Bears w.nodes n.step.slot n.step.stamp
      borne = subst (λ z. Bears w.nodes z n.step.stamp) (sym n.slot) (subst (λ z. Bears w.nodes k z) (sym n.stamp) n.borne)

      at : (p : Place) → Contains (looked_up e) p → entry w.kept p ≡ Some n.step → (o : Option ℕ) → last_at p trace ≡ o → StandsAt w.nodes w.kept trace e b
      at p looks there None none = absurd (none_or_some (entry w.kept p) n.step (stands.entries.never p none) there)
      at p looks there (Some i) last =
          let is : IsStepFor w.nodes trace n.step (owner trace i) = subst (λ o. IsEntryFor w.nodes trace o (owner trace i)) there (stands.entries.last p i last) in
          record { place = p; at = i; looked = looks; last = last; which = subst (λ z. (z ≡ owner trace i) ⊎ IsCovered trace (owner trace i) z) n.stamp (is.alive borne) }
