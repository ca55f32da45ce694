-- The end of an outermost block: once its node is marked as finished, only collecting is left to do.
use Rattle.std.proofs.Common.{◌≡◌, ◌≢◌, ℕ, ◌<◌, ◌≤◌, true, not, List, [], ◌∷◌, ◌++◌, length, Option, Some, None, refl, sym, ap, ◌∙◌, subst, ⊎_elim, inl, inr, arith, get_or-set_same, get_or-set_other}
use Rattle.std.specs.Prelude.{◌==◌, IsTrue, IsSomeAnd, slice_index_or}
use Rattle.std.specs.Ordering.{nat_cmp}
use Rattle.std.specs.FinSet as set
use Rattle.std.specs.FinSet.{FinSet}
use Rattle.std.proofs.lemmas.Bool.{cases_eq, cases_lt, both_ways}
use Rattle.std.proofs.lemmas.List.{length_push}
use Rattle.velo_events.specs.declared.config.Bounds.{Bounds}
use Rattle.velo_events.specs.declared.event.Event.{Event}
use Rattle.velo_events.specs.Event.{is_begin}
use Rattle.velo_events.specs.WellFormed.{MayFollow}
use Rattle.velo_events.specs.Block.{owner, is_open, IsTransaction, IsUnfinished, IsFinished}
use Rattle.velo_events.specs.Graph.{HasCycle}
use Rattle.velo_events.proofs.OnWellFormed.{IsWellFormed-push}
use Rattle.velo_events.proofs.OnGraphs.{newest}
use Rattle.velo_events.proofs.OnUnfinished.{IsTransaction-append, IsTransaction-before, IsFinished-append, IsUnfinished-push, IsUnfinished-push_cases, cases_unfinished, unfinished-not_finished}
use Rattle.velo_monitor.proofs.OnCollection.{not_live-append, IsCovered-push}
use Rattle.velo_arena.specs.declared.step.Step.{Step}
use Rattle.velo_arena.specs.Slots.{Slots, node_in, has_stamp, has_finished, bears, is_finished_in, with_node}
use Rattle.velo_arena.proofs.OnSlots.{node_of_stamp, in_range}
use Rattle.velo_graph.specs.Nodes.{Nodes, is_ancestor, IsSound, AddsEdges}
use Rattle.velo_tables.specs.LastAccesses.{IsRecorded}
use Rattle.velo_merge.specs.Named.{Bears}
use Rattle.velo_merge.proofs.OnStamps.{one_slot, one_stamp}
use Rattle.velo_monitor.specs.Watched.{Watched, AreAncestors, AreDepths, IsMonitorOf}
use Rattle.velo_monitor.proofs.OnInside.{AreNamed, ancestors-inside}
use Rattle.velo_monitor.proofs.OnTables.{entries-recorded}
use Rattle.velo_monitor.proofs.OnCollected.{IsUncollected}

-- the node c of stamp s is marked as finished, and nothing else changes
pub record Finishes (old new : Nodes) (c s : ℕ) : Type 0 where
  pub bearing : (k a : ℕ) → bears new.slots k a ≡ bears old.slots k a
  pub done : IsTrue (is_finished_in new.slots c)
  pub others : (k : ℕ) → k ≢ c → is_finished_in new.slots k ≡ is_finished_in old.slots k
  pub newest : new.slots.newest ≡ old.slots.newest
  pub ancestors : (m n : ℕ) → is_ancestor new m n ≡ is_ancestor old m n

pub finishes : (old new : Nodes) (c s : ℕ) → Bears old c s → new.slots ≡ with_node old.slots c (Some (record { stamp = s; finished = true })) → new.ancestors ≡ old.ancestors → Finishes old new c s
unfolding is_ancestor
finishes old new c s borne slots rows =
    let was = node_of_stamp (node_in old.slots c) s borne in
    let inside = in_range old.slots.nodes c was.0 was.1 in
    record {
      bearing = λ k a. ap (λ (z : Slots). bears z k a) slots ∙ ⊎_elim
          (λ (same : k ≡ c).
          ap (λ i. has_stamp (node_in (with_node old.slots c (Some (record { stamp = s; finished = true }))) i) a) same
          ∙ ap (λ o. has_stamp o a) (get_or-set_same old.slots.nodes c (Some (record { stamp = s; finished = true })) None inside)
          ∙ ap (λ z. z == a) (sym was.2)
          ∙ sym (ap (λ o. has_stamp o a) was.1)
          ∙ ap (λ i. has_stamp (node_in old.slots i) a) (sym same))
          (λ (other : k ≡ c → ⊥). ap (λ o. has_stamp o a) (get_or-set_other old.slots.nodes c k (Some (record { stamp = s; finished = true })) None other))
          (cases_eq k c);
      done = ap (λ (z : Slots). is_finished_in z c) slots ∙ ap has_finished (get_or-set_same old.slots.nodes c (Some (record { stamp = s; finished = true })) None inside);
      others = λ k other. ap (λ (z : Slots). is_finished_in z k) slots ∙ ap has_finished (get_or-set_other old.slots.nodes c k (Some (record { stamp = s; finished = true })) None other);
      newest = ap (λ (z : Slots). z.newest) slots;
      ancestors = λ m n. ap (λ (r : List (FinSet nat_cmp)). set.contains (slice_index_or r n set.empty) m) rows;
    }

below : (o : Option ℕ) (s n : ℕ) → IsSomeAnd o (λ z. s ≤ z) → ((z : ℕ) → o ≡ Some z → z < n) → s < n
below None s n h f = absurd h
below (Some z) s n h f = let l : z < n = f z refl in let m : s ≤ z = h in omega (arith, l, m)

same_some : (a b : Step) → Some a ≡ Some b → a ≡ b
same_some a b h = cc

module _ (bounds : Bounds) (w : Watched) (trace : List Event) (e : Event) (stands : IsMonitorOf bounds w trace) (follows : MayFollow bounds trace e) (inside : newest trace e < length trace) (ended : IsFinished (trace ++ e ∷ []) (newest trace e)) where
  other-open : (a : ℕ) → a ≢ newest trace e → IsTransaction trace a → is_open (trace ++ e ∷ []) a ≡ is_open trace a
  other-open a other transaction =
      ⊎_elim
      (λ (u : IsUnfinished trace a). (IsUnfinished-push trace e a u (λ same. other (sym same))).open_block ∙ sym u.open_block)
      (λ (f : IsFinished trace a). (IsFinished-append trace (e ∷ []) a f).not_open ∙ sym f.not_open)
      (cases_unfinished trace a transaction)

  was-unfinished : (a : ℕ) → IsUnfinished (trace ++ e ∷ []) a → IsUnfinished trace a × (a ≢ newest trace e)
  was-unfinished a u = (
    ⊎_elim (λ (before : IsUnfinished trace a). before)
        (λ (begun : (a ≡ length trace) × (newest trace e ≡ length trace) × IsTrue (is_begin e.kind)). absurd (omega (arith, inside, begun.1)))
        (IsUnfinished-push_cases trace e a u),
    λ (same : a ≡ newest trace e). unfinished-not_finished (trace ++ e ∷ []) (newest trace e) (subst (IsUnfinished (trace ++ e ∷ [])) same u) ended,
  )

  was-transaction : (a : ℕ) → IsTransaction (trace ++ e ∷ []) a → IsTransaction trace a
  was-transaction a t =
      ⊎_elim (λ (l : a < length trace). IsTransaction-before trace (e ∷ []) a l t)
      (λ (g : length trace ≤ a).
      let at : a ≡ length trace = omega (arith, g, t.within, length_push trace e) in
      let own : newest trace e ≡ length trace = ap (owner (trace ++ e ∷ [])) (sym at) ∙ t.first ∙ at in
      absurd (omega (arith, inside, own)))
      (cases_lt a (length trace))

  pub stands-ended : (mid : Nodes) (new : Watched) (froms : List ℕ) (c : ℕ) (step : Step) → Bears w.nodes c (newest trace e) → AreNamed w e froms → AddsEdges w.nodes mid froms c → Finishes mid new.nodes c (newest trace e) → IsSound new.nodes → step.slot ≡ c → step.stamp ≡ newest trace e → IsRecorded w.kept e (Some step) new.kept → length new.kept.threads ≡ length w.kept.threads → ¬ HasCycle (trace ++ e ∷ []) → AreDepths bounds new.depths (trace ++ e ∷ []) → IsUncollected bounds new (trace ++ e ∷ [])
  stands-ended mid new froms c step own are adds marks sound slot stamp recorded threads acyclic depths =
      record {
        few = stands.few;
        well_formed = IsWellFormed-push bounds trace e stands.well_formed follows;
        acyclic = acyclic;
        earlier = λ z h. let l = stands.earlier z (sym newest_same ∙ h) in omega (arith, l, length_push trace e);
        sound = sound;
        founded = record { transaction = λ k a borne. IsTransaction-append trace (e ∷ []) a (stands.founded.transaction k a (back k a borne)); finished = flags; unfinished = unfinished };
        ancestors = record {
          sound = λ j k a b first second before. inner.sound j k a b (to_mid j a first) (to_mid k b second) (sym (marks.ancestors j k) ∙ before);
          complete = λ j k a b first second still differ leads. marks.ancestors j k ∙ inner.complete j k a b (to_mid j a first) (to_mid k b second) still differ leads;
        };
        entries = entries-recorded w.nodes new.nodes w.kept new.kept trace e (Some step) (record { stays = forth; was = λ k a l borne. back k a borne })
            (λ s h. (below w.nodes.slots.newest s.stamp (length trace) h stands.earlier, subst (λ o. IsSomeAnd o (λ newest. s.stamp ≤ newest)) (sym newest_same) h))
            (λ s h. subst (λ (z : Step). IsSomeAnd new.nodes.slots.newest (λ newest. z.stamp ≤ newest)) (same_some step s h) (subst (λ z. IsSomeAnd new.nodes.slots.newest (λ newest. z ≤ newest)) (sym stamp) own_newest))
            stands.entries recorded
            (record { alive = λ borne. inl stamp; dead = λ gone. absurd (both_ways (bears new.nodes.slots step.slot step.stamp) gone (subst (λ z. Bears new.nodes z step.stamp) (sym slot) (subst (λ z. Bears new.nodes c z) (sym stamp) (forth c (newest trace e) own)))) });
        threads = threads ∙ stands.threads;
        accounted = λ a t.
            let transaction = was-transaction a t in
            ⊎_elim
            (λ founds. inl (founds.0, forth founds.0 a founds.1))
            (λ others. ⊎_elim
            (λ covered. inr (inl (covered.0, covered.1, forth covered.0 covered.1 covered.2, IsCovered-push trace e a covered.1 covered.3)))
            (λ dead. inr (inr (not_live-append trace (e ∷ []) a transaction dead))) others)
            (stands.accounted a transaction);
        depths = depths;
      }
    where
      inner : AreAncestors mid (trace ++ e ∷ [])
      inner = ancestors-inside bounds w trace e stands follows froms are c own inside mid adds

      newest_same : new.nodes.slots.newest ≡ w.nodes.slots.newest
      newest_same = marks.newest ∙ ap (λ (s : Slots). s.newest) adds.slots

      to_mid : (k a : ℕ) → Bears new.nodes k a → Bears mid k a
      to_mid k a borne = sym (marks.bearing k a) ∙ borne

      back : (k a : ℕ) → Bears new.nodes k a → Bears w.nodes k a
      back k a borne = ap (λ (s : Slots). bears s k a) (sym adds.slots) ∙ to_mid k a borne

      forth : (k a : ℕ) → Bears w.nodes k a → Bears new.nodes k a
      forth k a borne = marks.bearing k a ∙ ap (λ (s : Slots). bears s k a) adds.slots ∙ borne

      flags : (k a : ℕ) → Bears new.nodes k a → is_finished_in new.nodes.slots k ≡ not (is_open (trace ++ e ∷ []) a)
      flags k a borne =
          ⊎_elim
          (λ (same : k ≡ c).
          let at : a ≡ newest trace e = one_stamp w.nodes c a (newest trace e) (subst (λ z. Bears w.nodes z a) same (back k a borne)) own in
          subst (λ z. is_finished_in new.nodes.slots z ≡ not (is_open (trace ++ e ∷ []) a)) (sym same)
          (marks.done ∙ sym (ap not (ap (is_open (trace ++ e ∷ [])) at ∙ ended.not_open))))
          (λ (other : k ≡ c → ⊥).
          let differ : a ≢ newest trace e = λ (at : a ≡ newest trace e). other (one_slot w.nodes k c (newest trace e) stands.sound.own_stamps (subst (λ z. Bears w.nodes k z) at (back k a borne)) own) in
          marks.others k other ∙ ap (λ (s : Slots). is_finished_in s k) adds.slots ∙ stands.founded.finished k a (back k a borne)
          ∙ ap not (sym (other-open a differ (stands.founded.transaction k a (back k a borne)))))
          (cases_eq k c)

      unfinished : (a : ℕ) → IsUnfinished (trace ++ e ∷ []) a → (k : ℕ) × Bears new.nodes k a
      unfinished a u = let k = stands.founded.unfinished a (was-unfinished a u).0 in (k.0, forth k.0 a k.1)

      own_newest : IsSomeAnd new.nodes.slots.newest (λ z. newest trace e ≤ z)
      own_newest =
          let n = node_of_stamp (node_in new.nodes.slots c) (newest trace e) (forth c (newest trace e) own) in
          subst (λ x. IsSomeAnd new.nodes.slots.newest (λ z. x ≤ z)) n.2 (sound.own_stamps.up_to_newest c n.0 n.1)
