-- An event outside blocks that gets a node of its own, finished at once: the monitor stands for the longer trace.
use Rattle.std.proofs.Common.{◌≡◌, ◌≢◌, ℕ, ◌<◌, ◌≤◌, true, false, not, ◌||◌, ◌&&◌, eqb, List, [], ◌∷◌, ◌++◌, length, Option, Some, None, refl, sym, ap, ◌∙◌, subst, ⊎_elim, inl, inr, arith}
use Rattle.std.specs.Prelude.{IsTrue, IsFalse, IsSomeAnd}
use Rattle.std.proofs.lemmas.Bool.{cases_eq, cases_lt, both_ways, or_left}
use Rattle.std.proofs.lemmas.List.{length_push}
use Rattle.velo_events.specs.declared.config.Bounds.{Bounds}
use Rattle.velo_events.specs.declared.event.Event.{Event}
use Rattle.velo_events.specs.Event.{is_begin}
use Rattle.velo_events.specs.WellFormed.{MayFollow}
use Rattle.velo_events.specs.Block.{is_open, IsTransaction, IsUnfinished, IsFinished}
use Rattle.velo_events.proofs.OnWellFormed.{IsWellFormed-push}
use Rattle.velo_events.proofs.OnGraphs.{newest}
use Rattle.velo_events.proofs.OnReaching.{HasCycle-push_alone}
use Rattle.velo_events.proofs.OnUnfinished.{IsTransaction-append, IsTransaction-before, IsTransaction-newest, IsFinished-append, IsUnfinished-push, IsUnfinished-push_cases, cases_unfinished, newest-outside, IsOutside-finished}
use Rattle.velo_monitor.proofs.OnCollection.{not_live-append, IsCovered-push}
use Rattle.velo_arena.specs.declared.step.Step.{Step}
use Rattle.velo_arena.specs.Slots.{Slots, bears, is_finished_in}
use Rattle.velo_graph.specs.Nodes.{Nodes, is_ancestor, reaches, leads_on, IsSound, AddsEdges}
use Rattle.velo_tables.specs.LastAccesses.{IsRecorded}
use Rattle.velo_merge.specs.Named.{Bears}
use Rattle.velo_merge.proofs.OnStamps.{one_stamp}
use Rattle.velo_monitor.specs.Watched.{Watched, AreAncestors, IsAccountedIn, AreDepths, IsMonitorOf}
use Rattle.velo_monitor.proofs.OnInside.{AreNamed}
use Rattle.velo_monitor.proofs.OnTables.{entries-recorded}
use Rattle.velo_monitor.proofs.OnOpening.{HasFresh, ancestors-opened}
use Rattle.velo_monitor.proofs.OnBegin.{HasFlags}
use Rattle.velo_monitor.proofs.OnEnding.{Finishes}
use Rattle.velo_monitor.proofs.OnLooks.{Names}
use Rattle.velo_graph.proofs.OnOrders.{up_itself}
use Rattle.std.proofs.lemmas.Bool.{cases_Bool, and_from, or_right, not_from_false, ne_eqb}
use Rattle.std.proofs.lemmas.List.Folds.{list_any_at}

below : (o : Option ℕ) (s n : ℕ) → IsSomeAnd o (λ z. s ≤ z) → ((z : ℕ) → o ≡ Some z → z < n) → s < n
below None s n h f = absurd h
below (Some z) s n h f = let l : z < n = f z refl in let m : s ≤ z = h in omega (arith, l, m)

same_some : {X : Type 0} (a b : X) → Some a ≡ Some b → a ≡ b
same_some a b h = cc

module _ (bounds : Bounds) (w : Watched) (trace : List Event) (e : Event) (stands : IsMonitorOf bounds w trace) (follows : MayFollow bounds trace e) (outer : newest trace e ≡ length trace) (no_begin : IsFalse (is_begin e.kind)) where
  old-open : (a : ℕ) → IsTransaction trace a → is_open (trace ++ e ∷ []) a ≡ is_open trace a
  old-open a transaction =
      ⊎_elim
      (λ (u : IsUnfinished trace a). (IsUnfinished-push trace e a u (λ same. omega (arith, same, outer, transaction.within))).open_block ∙ sym u.open_block)
      (λ (f : IsFinished trace a). (IsFinished-append trace (e ∷ []) a f).not_open ∙ sym f.not_open)
      (cases_unfinished trace a transaction)

  pub stands-placed : (mid up : Nodes) (new : Watched) (froms : List ℕ) (c : ℕ) (step : Step) → (k b : ℕ) × Names w.nodes w.kept e k b → AreNamed w e froms → HasFresh w.nodes mid c (length trace) → HasFlags w.nodes mid c (length trace) → AddsEdges mid up froms c → Finishes up new.nodes c (length trace) → IsSound new.nodes → step.slot ≡ c → step.stamp ≡ length trace → IsRecorded w.kept e (Some step) new.kept → length new.kept.threads ≡ length w.kept.threads → AreDepths bounds new.depths (trace ++ e ∷ []) → IsMonitorOf bounds new (trace ++ e ∷ [])
  stands-placed mid up new froms c step some are opens marks adds ends sound slot stamp recorded threads depths =
      record {
        few = stands.few;
        well_formed = IsWellFormed-push bounds trace e stands.well_formed follows;
        acyclic = λ cycle. stands.acyclic (HasCycle-push_alone trace e outer cycle);
        earlier = λ z h. let at : z ≡ length trace = same_some z (length trace) (sym h ∙ newest_is) in omega (arith, at, length_push trace e);
        sound = sound;
        founded = record { transaction = transactions; finished = flags; unfinished = unfinished };
        ancestors = record {
          sound = λ j k a b first second before. inner.sound j k a b (to_up j a first) (to_up k b second) (sym (ends.ancestors j k) ∙ before);
          complete = λ j k a b first second still differ leads. ends.ancestors j k ∙ inner.complete j k a b (to_up j a first) (to_up k b second) still differ leads;
        };
        collected = record { each = collected };
        entries = entries-recorded w.nodes new.nodes w.kept new.kept trace e (Some step) (record { stays = forth; was = λ k a l borne. was_old k a l borne })
            (λ s h. let l = below w.nodes.slots.newest s.stamp (length trace) h stands.earlier in (l, up_to s.stamp (omega (arith, l))))
            (λ s h. up_to s.stamp (let at : s.stamp ≡ length trace = ap (λ (z : Step). z.stamp) (sym (same_some step s h)) ∙ stamp in omega (arith, at)))
            stands.entries recorded
            (record { alive = λ borne. inl (stamp ∙ sym outer); dead = λ gone. absurd (both_ways (bears new.nodes.slots step.slot step.stamp) gone (subst (λ z. Bears new.nodes z step.stamp) (sym slot) (subst (λ z. Bears new.nodes c z) (sym stamp) fresh))) });
        threads = threads ∙ stands.threads;
        accounted = λ a t. ⊎_elim
            (λ (l : a < length trace). accounted_old a (IsTransaction-before trace (e ∷ []) a l t))
            (λ (g : length trace ≤ a). let at : length trace ≡ a = omega (arith, g, t.within, length_push trace e) in inl (c, subst (λ z. Bears new.nodes c z) at fresh))
            (cases_lt a (length trace));
        depths = depths;
      }
    where
      inner : AreAncestors up (trace ++ e ∷ [])
      inner = ancestors-opened bounds w trace e stands follows outer froms are mid up c opens adds

      ended : IsFinished (trace ++ e ∷ []) (length trace)
      ended = IsOutside-finished (trace ++ e ∷ []) (length trace) (omega (arith, length_push trace e)) (newest-outside trace e outer no_begin)

      newest_is : new.nodes.slots.newest ≡ Some (length trace)
      newest_is = ends.newest ∙ ap (λ (s : Slots). s.newest) adds.slots ∙ marks.newest

      to_up : (k a : ℕ) → Bears new.nodes k a → Bears up k a
      to_up k a borne = sym (ends.bearing k a) ∙ borne

      up_to : (s : ℕ) → s ≤ length trace → IsSomeAnd new.nodes.slots.newest (λ z. s ≤ z)
      up_to s l = subst (λ o. IsSomeAnd o (λ z. s ≤ z)) (sym newest_is) l

      to_mid : (k a : ℕ) → Bears new.nodes k a → Bears mid k a
      to_mid k a borne = ap (λ (s : Slots). bears s k a) (sym adds.slots) ∙ to_up k a borne

      from_mid : (k a : ℕ) → Bears mid k a → Bears new.nodes k a
      from_mid k a borne = ends.bearing k a ∙ ap (λ (s : Slots). bears s k a) adds.slots ∙ borne

      fresh : Bears new.nodes c (length trace)
      fresh = from_mid c (length trace) opens.fresh

      forth : (k a : ℕ) → Bears w.nodes k a → Bears new.nodes k a
      forth k a borne = from_mid k a (opens.stays k a borne).1

      fresh_stamp : (k a : ℕ) → k ≡ c → Bears new.nodes k a → a ≡ length trace
      fresh_stamp k a same borne = one_stamp mid c a (length trace) (subst (λ z. Bears mid z a) same (to_mid k a borne)) opens.fresh

      was_old : (k a : ℕ) → a < length trace → Bears new.nodes k a → Bears w.nodes k a
      was_old k a l borne = opens.was k a (λ (same : k ≡ c). let at = fresh_stamp k a same borne in omega (arith, at, l)) (to_mid k a borne)

      flag_is : (k : ℕ) → k ≢ c → is_finished_in new.nodes.slots k ≡ is_finished_in w.nodes.slots k
      flag_is k other = ends.others k other ∙ ap (λ (s : Slots). is_finished_in s k) adds.slots ∙ marks.others k other

      transactions : (k a : ℕ) → Bears new.nodes k a → IsTransaction (trace ++ e ∷ []) a
      transactions k a borne = ⊎_elim
          (λ (same : k ≡ c). subst (IsTransaction (trace ++ e ∷ [])) (outer ∙ sym (fresh_stamp k a same borne)) (IsTransaction-newest trace e))
          (λ (other : k ≡ c → ⊥). IsTransaction-append trace (e ∷ []) a (stands.founded.transaction k a (opens.was k a other (to_mid k a borne))))
          (cases_eq k c)

      flags : (k a : ℕ) → Bears new.nodes k a → is_finished_in new.nodes.slots k ≡ not (is_open (trace ++ e ∷ []) a)
      flags k a borne = ⊎_elim
          (λ (same : k ≡ c).
          ap (is_finished_in new.nodes.slots) same ∙ ends.done
          ∙ sym (ap not (ap (is_open (trace ++ e ∷ [])) (fresh_stamp k a same borne) ∙ ended.not_open)))
          (λ (other : k ≡ c → ⊥).
          let old = opens.was k a other (to_mid k a borne) in
          flag_is k other ∙ stands.founded.finished k a old ∙ ap not (sym (old-open a (stands.founded.transaction k a old))))
          (cases_eq k c)

      unfinished : (a : ℕ) → IsUnfinished (trace ++ e ∷ []) a → (k : ℕ) × Bears new.nodes k a
      unfinished a u = ⊎_elim
          (λ (before : IsUnfinished trace a). let k = stands.founded.unfinished a before in (k.0, forth k.0 a k.1))
          (λ (now : (a ≡ length trace) × (newest trace e ≡ length trace) × IsTrue (is_begin e.kind)). absurd (both_ways (is_begin e.kind) no_begin now.2))
          (IsUnfinished-push_cases trace e a u)

      collected : (k : ℕ) → IsTrue (is_finished_in new.nodes.slots k) → (j : ℕ) × IsTrue (is_ancestor new.nodes j k) × (is_finished_in new.nodes.slots j ≡ false)
      collected k done = ⊎_elim (λ (same : k ≡ c). into_fresh k same) (λ (other : k ≡ c → ⊥). into_old k other done) (cases_eq k c)
        where
          into_old : (k : ℕ) → k ≢ c → IsTrue (is_finished_in new.nodes.slots k) → (j : ℕ) × IsTrue (is_ancestor new.nodes j k) × (is_finished_in new.nodes.slots j ≡ false)
          into_old k other done =
              let by = stands.collected.each k (sym (flag_is k other) ∙ done) in
              let there : IsTrue (is_ancestor mid by.0 k) = opens.same by.0 k ∙ by.1 in
              let apart : by.0 ≢ c = λ (same : by.0 ≡ c). both_ways (is_ancestor mid c k) (opens.alone.no_descendant k) (ap (λ z. is_ancestor mid z k) (sym same) ∙ there) in
              (by.0, ends.ancestors by.0 k ∙ adds.ancestors by.0 k ∙ or_left (is_ancestor mid by.0 k) (leads_on mid froms c by.0 && reaches mid c k) there, flag_is by.0 apart ∙ by.2)

          above : (j : ℕ) → j ≢ c → IsTrue (reaches w.nodes j some.0) → is_finished_in w.nodes.slots j ≡ false → (j : ℕ) × IsTrue (is_ancestor new.nodes j c) × (is_finished_in new.nodes.slots j ≡ false)
          above j other leads going =
              let at = are.all some.0 some.1 some.2 in
              let apart = (opens.stays some.0 some.1 some.2.borne).0 in
              let up_there : IsTrue (reaches mid j some.0) = ap (λ b. eqb j some.0 || b) (opens.same j some.0) ∙ leads in (
                j,
                ends.ancestors j c ∙ adds.ancestors j c ∙ or_right (is_ancestor mid j c) (leads_on mid froms c j && reaches mid c c)
                    (and_from (leads_on mid froms c j) (reaches mid c c)
                    (list_any_at (λ from. not (eqb from c) && reaches mid j from) froms at.0 some.0 at.1
                    (subst (λ z. (not (eqb z c) && reaches mid j z) ≡ true) (sym at.2) (and_from (not (eqb some.0 c)) (reaches mid j some.0) (not_from_false (eqb some.0 c) (ne_eqb some.0 c apart)) up_there)))
                    (up_itself (is_ancestor mid) c)),
                flag_is j other ∙ going,
              )

          into_fresh : (k : ℕ) → k ≡ c → (j : ℕ) × IsTrue (is_ancestor new.nodes j k) × (is_finished_in new.nodes.slots j ≡ false)
          into_fresh k same = subst (λ z. (j : ℕ) × IsTrue (is_ancestor new.nodes j z) × (is_finished_in new.nodes.slots j ≡ false)) (sym same) (⊎_elim
              (λ (done : is_finished_in w.nodes.slots some.0 ≡ true).
              let by = stands.collected.each some.0 done in
              let there : IsTrue (is_ancestor mid by.0 some.0) = opens.same by.0 some.0 ∙ by.1 in
              let apart : by.0 ≢ c = λ (same : by.0 ≡ c). both_ways (is_ancestor mid c some.0) (opens.alone.no_descendant some.0) (ap (λ z. is_ancestor mid z some.0) (sym same) ∙ there) in
              above by.0 apart (or_right (eqb by.0 some.0) (is_ancestor w.nodes by.0 some.0) by.1) by.2)
              (λ (going : is_finished_in w.nodes.slots some.0 ≡ false). above some.0 (opens.stays some.0 some.1 some.2.borne).0 (up_itself (is_ancestor w.nodes) some.0) going)
              (cases_Bool (is_finished_in w.nodes.slots some.0)))

      accounted_old : (a : ℕ) → IsTransaction trace a → IsAccountedIn new.nodes (trace ++ e ∷ []) a
      accounted_old a transaction = ⊎_elim
          (λ founds. inl (founds.0, forth founds.0 a founds.1))
          (λ others. ⊎_elim
          (λ covered. inr (inl (covered.0, covered.1, forth covered.0 covered.1 covered.2, IsCovered-push trace e a covered.1 covered.3)))
          (λ dead. inr (inr (not_live-append trace (e ∷ []) a transaction dead))) others)
          (stands.accounted a transaction)
