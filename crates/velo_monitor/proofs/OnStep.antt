-- An event inside a block that closes no cycle and leaves its block open: the monitor stands for the longer trace.
use Rattle.std.proofs.Common.{◌≡◌, ℕ, ◌<◌, ◌≤◌, true, not, ◌&&◌, List, [], ◌∷◌, ◌++◌, length, Option, Some, None, refl, sym, ap, ◌∙◌, subst, ⊎_elim, inl, inr, arith}
use Rattle.std.specs.Prelude.{IsTrue, IsSomeAnd}
use Rattle.std.specs.Option.{ForSome}
use Rattle.std.proofs.lemmas.Bool.{cases_eq, cases_lt, both_ways, or_left}
use Rattle.std.proofs.lemmas.List.{length_push}
use Rattle.velo_events.specs.declared.config.Bounds.{Bounds}
use Rattle.velo_events.specs.declared.event.Event.{Event}
use Rattle.velo_events.specs.WellFormed.{MayFollow}
use Rattle.velo_events.specs.Block.{owner, is_open, IsTransaction, IsUnfinished, IsFinished}
use Rattle.velo_events.specs.Graph.{HasCycle}
use Rattle.velo_events.proofs.OnWellFormed.{IsWellFormed-push}
use Rattle.velo_events.proofs.OnGraphs.{newest}
use Rattle.velo_events.proofs.OnUnfinished.{IsTransaction-append, IsTransaction-before, IsFinished-append, IsUnfinished-push, IsUnfinished-push_cases, cases_unfinished, newest-unfinished}
use Rattle.velo_monitor.proofs.OnCollection.{not_live-append, IsCovered-push}
use Rattle.velo_arena.specs.declared.step.Step.{Step}
use Rattle.velo_arena.specs.Slots.{Slots, node_in, bears, is_finished_in}
use Rattle.velo_arena.proofs.OnSlots.{node_of_stamp}
use Rattle.velo_graph.specs.Nodes.{is_ancestor, reaches, leads_on, IsSound, AddsEdges}
use Rattle.velo_tables.specs.LastAccesses.{IsRecorded}
use Rattle.velo_merge.specs.Named.{Bears}
use Rattle.velo_monitor.specs.Watched.{Watched, AreDepths, IsMonitorOf}
use Rattle.velo_monitor.proofs.OnInside.{AreNamed, ancestors-inside}
use Rattle.velo_monitor.proofs.OnTables.{entries-recorded}

below : (o : Option ℕ) (s n : ℕ) → IsSomeAnd o (λ z. s ≤ z) → ForSome o (λ z. z < n) → s < n
below None s n h f = absurd h
below (Some z) s n h f = let l : z < n = f z refl in let m : s ≤ z = h in omega (arith, l, m)

same_some : (a b : Step) → Some a ≡ Some b → a ≡ b
same_some a b h = cc

module _ (bounds : Bounds) (w : Watched) (trace : List Event) (e : Event) (stands : IsMonitorOf bounds w trace) (follows : MayFollow bounds trace e) (inside : newest trace e < length trace) where
  flag : (n : List Event) (a : ℕ) → IsUnfinished n a → is_open n a ≡ true
  flag n a u = u.open_block

  open-still : IsUnfinished (trace ++ e ∷ []) (newest trace e) → (a : ℕ) → IsTransaction trace a → is_open (trace ++ e ∷ []) a ≡ is_open trace a
  open-still still a transaction =
      ⊎_elim
      (λ (same : newest trace e ≡ a). subst (λ z. is_open (trace ++ e ∷ []) z ≡ is_open trace z) same (still.open_block ∙ sym (newest-unfinished trace e inside).open_block))
      (λ (other : newest trace e ≡ a → ⊥).
      ⊎_elim
      (λ (u : IsUnfinished trace a). (IsUnfinished-push trace e a u other).open_block ∙ sym u.open_block)
      (λ (f : IsFinished trace a). (IsFinished-append trace (e ∷ []) a f).not_open ∙ sym f.not_open)
      (cases_unfinished trace a transaction))
      (cases_eq (newest trace e) a)

  was-unfinished : (a : ℕ) → IsUnfinished (trace ++ e ∷ []) a → IsUnfinished trace a
  was-unfinished a u =
      ⊎_elim (λ (before : IsUnfinished trace a). before)
      (λ (begun : (a ≡ length trace) × (newest trace e ≡ length trace) × IsTrue _). absurd (omega (arith, inside, begun.1)))
      (IsUnfinished-push_cases trace e a u)

  -- every transaction of the longer trace was one
  was-transaction : (a : ℕ) → IsTransaction (trace ++ e ∷ []) a → IsTransaction trace a
  was-transaction a t =
      ⊎_elim (λ (l : a < length trace). IsTransaction-before trace (e ∷ []) a l t)
      (λ (g : length trace ≤ a).
      let at : a ≡ length trace = omega (arith, g, t.within, length_push trace e) in
      let own : newest trace e ≡ length trace = ap (owner (trace ++ e ∷ [])) (sym at) ∙ t.first ∙ at in
      absurd (omega (arith, inside, own)))
      (cases_lt a (length trace))

  pub stands-inside : (new : Watched) (froms : List ℕ) (c : ℕ) (step : Step) → Bears w.nodes c (newest trace e) → AreNamed w e froms → AddsEdges w.nodes new.nodes froms c → IsSound new.nodes → step.slot ≡ c → step.stamp ≡ newest trace e → IsRecorded w.kept e (Some step) new.kept → length new.kept.threads ≡ length w.kept.threads → ¬ HasCycle (trace ++ e ∷ []) → IsUnfinished (trace ++ e ∷ []) (newest trace e) → AreDepths bounds new.depths (trace ++ e ∷ []) → IsMonitorOf bounds new (trace ++ e ∷ [])
  stands-inside new froms c step own are adds sound slot stamp recorded threads acyclic still depths =
      let same = adds.slots in
      record {
        few = stands.few;
        well_formed = IsWellFormed-push bounds trace e stands.well_formed follows;
        acyclic = acyclic;
        earlier = λ z h. let l = stands.earlier z (sym (ap (λ (s : Slots). s.newest) same) ∙ h) in omega (arith, l, length_push trace e);
        sound = sound;
        founded = record {
          transaction = λ k a borne. IsTransaction-append trace (e ∷ []) a (stands.founded.transaction k a (back k a borne));
          finished = λ k a borne. ap (λ (s : Slots). is_finished_in s k) same ∙ stands.founded.finished k a (back k a borne) ∙ ap not (sym (open-still still a (stands.founded.transaction k a (back k a borne))));
          unfinished = λ a u. let k = stands.founded.unfinished a (was-unfinished a u) in (k.0, forth k.0 a k.1);
        };
        ancestors = ancestors-inside bounds w trace e stands follows froms are c own inside new.nodes adds;
        collected = record {
          each = λ k done.
              let by = stands.collected.each k (ap (λ (s : Slots). is_finished_in s k) (sym same) ∙ done) in
              (by.0, adds.ancestors by.0 k ∙ or_left (is_ancestor w.nodes by.0 k) (leads_on w.nodes froms c by.0 && reaches w.nodes c k) by.1, ap (λ (s : Slots). is_finished_in s by.0) same ∙ by.2);
        };
        entries = entries-recorded w.nodes new.nodes w.kept new.kept trace e (Some step) (record { stays = forth; was = λ k a l borne. back k a borne })
            (λ s h. (stamp_before s h, subst (λ (z : Slots). IsSomeAnd z.newest (λ newest. s.stamp ≤ newest)) (sym same) h))
            (λ s h. subst (λ (z : Step). IsSomeAnd new.nodes.slots.newest (λ newest. z.stamp ≤ newest)) (same_some step s h) (subst (λ z. IsSomeAnd new.nodes.slots.newest (λ newest. z ≤ newest)) (sym stamp) own_newest)) stands.entries recorded
            (record { alive = λ borne. inl stamp; dead = λ gone. absurd (both_ways (bears new.nodes.slots step.slot step.stamp) gone (subst (λ z. Bears new.nodes z step.stamp) (sym slot) (subst (λ z. Bears new.nodes c z) (sym stamp) (forth c (newest trace e) own)))) });
        threads = threads ∙ stands.threads;
        accounted = λ a t.
            let transaction = was-transaction a t in
            ⊎_elim
            (λ founds. inl (founds.0, forth founds.0 a founds.1))
            (λ others. ⊎_elim
            (λ covered. inr (inl (covered.0, covered.1, forth covered.0 covered.1 covered.2, IsCovered-push trace e a covered.1 covered.3)))
            (λ dead. inr (inr (not_live-append trace (e ∷ []) a transaction dead))) others)
            (stands.accounted a transaction);
        depths = depths;
      }
    where
      back : (k a : ℕ) → Bears new.nodes k a → Bears w.nodes k a
      back k a borne = ap (λ (s : Slots). bears s k a) (sym adds.slots) ∙ borne

      forth : (k a : ℕ) → Bears w.nodes k a → Bears new.nodes k a
      forth k a borne = ap (λ (s : Slots). bears s k a) adds.slots ∙ borne

      stamp_before : (s : Step) → IsSomeAnd w.nodes.slots.newest (λ newest. s.stamp ≤ newest) → s.stamp < length trace
      stamp_before s h = below w.nodes.slots.newest s.stamp (length trace) h stands.earlier

      own_newest : IsSomeAnd new.nodes.slots.newest (λ z. newest trace e ≤ z)
      own_newest =
          let n = node_of_stamp (node_in new.nodes.slots c) (newest trace e) (forth c (newest trace e) own) in
          subst (λ x. IsSomeAnd new.nodes.slots.newest (λ z. x ≤ z)) n.2 (sound.own_stamps.up_to_newest c n.0 n.1)
