-- The ancestors after an event inside a block that closes no cycle.
use Rattle.std.proofs.Common.{◌≡◌, ◌≢◌, ℕ, ◌<◌, true, not, ◌&&◌, eqb, List, [], ◌∷◌, ◌++◌, length, refl, sym, ◌∙◌, subst, ⊎_elim, inr}
use Rattle.std.specs.Prelude.{IsTrue, Contains}
use Rattle.std.proofs.lemmas.Bool.{or_cases, or_left, or_right, and_parts, and_from, not-true, not_from_false, ne_eqb, eq-eqb, both_ways}
use Rattle.std.proofs.lemmas.List.Folds.{Any-from_list_any, list_any_at}
use Rattle.velo_events.specs.declared.config.Bounds.{Bounds}
use Rattle.velo_events.specs.declared.event.Event.{Event}
use Rattle.velo_events.specs.WellFormed.{MayFollow}
use Rattle.velo_events.specs.Block.{owner, IsUnfinished}
use Rattle.velo_events.specs.Graph.{Edge, Reaches}
use Rattle.velo_events.proofs.OnGraphs.{newest, Reaches-trans}
use Rattle.velo_events.proofs.OnReaching.{Reaches-old}
use Rattle.velo_events.proofs.OnUnfinished.{newest-unfinished, IsUnfinished-before}
use Rattle.velo_graph.specs.Nodes.{Nodes, is_ancestor, reaches, AddsEdges, leads_on}
use Rattle.velo_tables.proofs.OnGraphLookUps.{IsFound, ReachesByFound, Reaches-push_found}
use Rattle.velo_merge.specs.Named.{Bears}
use Rattle.velo_merge.proofs.OnStamps.{one_slot, one_stamp}
use Rattle.velo_monitor.specs.Watched.{Watched, AreAncestors, IsMonitorOf}
use Rattle.velo_monitor.proofs.OnNodes.{reaches-sound, reaches-unfinished}
use Rattle.velo_monitor.proofs.OnLooks.{Names, stamp-reaches, stamp-newest, stamp-other, looked_up-unfinished, named}

-- the slots are those that the event's steps name
pub record AreNamed (w : Watched) (e : Event) (froms : List ℕ) : Type 0 where
  pub each : (k : ℕ) → Contains froms k → (b : ℕ) × Names w.nodes w.kept e k b
  pub all : (k b : ℕ) → Names w.nodes w.kept e k b → Contains froms k

module _ (bounds : Bounds) (w : Watched) (trace : List Event) (e : Event) (stands : IsMonitorOf bounds w trace) (follows : MayFollow bounds trace e) (froms : List ℕ) (are : AreNamed w e froms) (c : ℕ) (own : Bears w.nodes c (newest trace e)) (inside : newest trace e < length trace) where
  -- some named slot leads on, and is not the event's own
  leads-from : (j : ℕ) → IsTrue (leads_on w.nodes froms c j) → (k b : ℕ) × Names w.nodes w.kept e k b × (b ≢ newest trace e) × IsTrue (reaches w.nodes j k)
  leads-from j h =
      let some = Any-from_list_any (λ from. not (eqb from c) && reaches w.nodes j from) froms h in
      let both = and_parts (not (eqb some.1 c)) (reaches w.nodes j some.1) some.4 in
      let n = are.each some.1 (some.0, some.2, some.3) in
      (some.1, n.0, n.1, (λ same. both_ways (eqb some.1 c) (not-true (eqb some.1 c) both.0) (eq-eqb some.1 c (one_slot w.nodes some.1 c (newest trace e) stands.sound.own_stamps (subst (λ z. Bears w.nodes some.1 z) same n.1.borne) own))), both.1)

  leads-to : (j k b : ℕ) → Names w.nodes w.kept e k b → b ≢ newest trace e → IsTrue (reaches w.nodes j k) → IsTrue (leads_on w.nodes froms c j)
  leads-to j k b names other h =
      let at = are.all k b names in
      let apart : k ≢ c = λ (same : k ≡ c). other (one_stamp w.nodes c b (newest trace e) (subst (λ z. Bears w.nodes z b) same names.borne) own) in
      list_any_at (λ from. not (eqb from c) && reaches w.nodes j from) froms at.0 k at.1
      (subst (λ z. (not (eqb z c) && reaches w.nodes j z) ≡ true) (sym at.2) (and_from (not (eqb k c)) (reaches w.nodes j k) (not_from_false (eqb k c) (ne_eqb k c apart)) h))

  pub ancestors-inside : (new : Nodes) → AddsEdges w.nodes new froms c → AreAncestors new (trace ++ e ∷ [])
  ancestors-inside new adds = record { sound = sound; complete = complete }
    where
      back : (k a : ℕ) → Bears new k a → Bears w.nodes k a
      back k a borne = subst (λ slots. Bears (record { slots = slots; ancestors = w.nodes.ancestors }) k a) adds.slots borne

      sound : (j k a b : ℕ) → Bears new j a → Bears new k b → IsTrue (is_ancestor new j k) → Reaches (Edge (trace ++ e ∷ [])) a b
      sound j k a b first second before =
          let at_j = back j a first in
          let at_k = back k b second in
          ⊎_elim
          (λ (old : IsTrue (is_ancestor w.nodes j k)). Reaches-old trace e a b (stands.ancestors.sound j k a b at_j at_k old))
          (λ (new : IsTrue (leads_on w.nodes froms c j && reaches w.nodes c k)).
          let both = and_parts (leads_on w.nodes froms c j) (reaches w.nodes c k) new in
          let from = leads-from j both.0 in
          let s = named bounds w trace e stands from.0 from.1 from.2 in
          let found : IsFound trace e (owner trace s.at) = record { place = s.place; at = s.at; looked = s.looked; last = s.last; of = refl; differ = λ same. from.3 (stamp-other trace e stands.acyclic from.1 (owner trace s.at) s.which same) } in
          (Reaches-push_found bounds trace e stands.well_formed follows stands.few a b).1
          (inr (record {
            by = owner trace s.at;
            found = found;
            before = Reaches-trans (Edge trace) a from.1 (owner trace s.at) (reaches-sound w.nodes trace j from.0 a from.1 stands.sound stands.ancestors at_j from.2.borne from.4) (stamp-reaches trace from.1 (owner trace s.at) s.which);
            after = reaches-sound w.nodes trace c k (newest trace e) b stands.sound stands.ancestors own at_k both.1;
          })))
          (or_cases (is_ancestor w.nodes j k) (leads_on w.nodes froms c j && reaches w.nodes c k) (sym (adds.ancestors j k) ∙ before))

      complete : (j k a b : ℕ) → Bears new j a → Bears new k b → IsUnfinished (trace ++ e ∷ []) a → a ≢ b → Reaches (Edge (trace ++ e ∷ [])) a b → IsTrue (is_ancestor new j k)
      complete j k a b first second still differ leads =
          let at_j = back j a first in
          let at_k = back k b second in
          let was : IsUnfinished trace a = IsUnfinished-before trace (e ∷ []) a (stands.founded.transaction j a at_j).within still in
          adds.ancestors j k
          ∙ ⊎_elim
          (λ (old : Reaches (Edge trace) a b). or_left (is_ancestor w.nodes j k) (leads_on w.nodes froms c j && reaches w.nodes c k) (stands.ancestors.complete j k a b at_j at_k was differ old))
          (λ (v : ReachesByFound trace e a b).
          let s = looked_up-unfinished bounds w trace e stands v.found.place v.found.at a v.found.looked v.found.last was (subst (λ z. Reaches (Edge trace) a z) (sym v.found.of) v.before) in
          let other : s.1 ≢ newest trace e = λ (same : s.1 ≡ newest trace e). v.found.differ (sym v.found.of ∙ stamp-newest trace e s.1 (owner trace v.found.at) s.3 same) in
          or_right (is_ancestor w.nodes j k) (leads_on w.nodes froms c j && reaches w.nodes c k)
          (and_from (leads_on w.nodes froms c j) (reaches w.nodes c k) (leads-to j s.0 s.1 s.2 other (s.4 j at_j))
          (reaches-unfinished w.nodes trace c k (newest trace e) b stands.sound stands.ancestors own at_k (newest-unfinished trace e inside) v.after)))
          ((Reaches-push_found bounds trace e stands.well_formed follows stands.few a b).0 leads)
