-- An event outside blocks that gets no node, or goes into one that is there: the monitor stands for the longer trace.
use Rattle.std.proofs.Common.{◌≡◌, ℕ, ◌<◌, ◌≤◌, not, List, [], ◌∷◌, ◌++◌, length, Option, Some, None, refl, sym, ap, ◌∙◌, subst, ⊎_elim, inl, inr, arith}
use Rattle.std.specs.Prelude.{IsTrue, IsFalse, IsSomeAnd}
use Rattle.std.specs.Option.{ForSome}
use Rattle.std.proofs.lemmas.Bool.{cases_lt, both_ways}
use Rattle.std.proofs.lemmas.List.{length_push}
use Rattle.velo_events.specs.declared.config.Bounds.{Bounds}
use Rattle.velo_events.specs.declared.event.Event.{Event}
use Rattle.velo_events.specs.Event.{is_begin}
use Rattle.velo_events.specs.WellFormed.{MayFollow}
use Rattle.velo_events.specs.Block.{is_open, IsTransaction, IsUnfinished, IsFinished}
use Rattle.velo_events.proofs.OnWellFormed.{IsWellFormed-push}
use Rattle.velo_events.proofs.OnGraphs.{newest}
use Rattle.velo_events.proofs.OnReaching.{Reaches-old, Reaches-push_alone, HasCycle-push_alone}
use Rattle.velo_events.proofs.OnUnfinished.{IsTransaction-append, IsTransaction-before, IsFinished-append, IsUnfinished-push, IsUnfinished-push_cases, cases_unfinished}
use Rattle.velo_monitor.proofs.OnCollection.{not_live-append, IsCovered-push}
use Rattle.velo_arena.specs.declared.step.Step.{Step}
use Rattle.velo_graph.specs.Nodes.{Nodes}
use Rattle.velo_tables.specs.LastAccesses.{IsRecorded}
use Rattle.velo_monitor.specs.Watched.{Watched, AreAncestors, IsEntryFor, IsAccountedIn, AreDepths, IsMonitorOf}
use Rattle.velo_monitor.proofs.OnTables.{entries-recorded}

below : (o : Option ℕ) (s n : ℕ) → IsSomeAnd o (λ z. s ≤ z) → ForSome o (λ z. z < n) → s < n
below None s n h f = absurd h
below (Some z) s n h f = let l : z < n = f z refl in let m : s ≤ z = h in omega (arith, l, m)

module _ (bounds : Bounds) (w : Watched) (trace : List Event) (e : Event) (stands : IsMonitorOf bounds w trace) (follows : MayFollow bounds trace e) (alone : newest trace e ≡ length trace) (no_begin : IsFalse (is_begin e.kind)) where
  same-open : (a : ℕ) → IsTransaction trace a → is_open (trace ++ e ∷ []) a ≡ is_open trace a
  same-open a transaction =
      ⊎_elim
      (λ (u : IsUnfinished trace a). (IsUnfinished-push trace e a u (λ same. omega (arith, same, alone, transaction.within))).open_block ∙ sym u.open_block)
      (λ (f : IsFinished trace a). (IsFinished-append trace (e ∷ []) a f).not_open ∙ sym f.not_open)
      (cases_unfinished trace a transaction)

  was-unfinished : (a : ℕ) → IsUnfinished (trace ++ e ∷ []) a → IsUnfinished trace a
  was-unfinished a u =
      ⊎_elim (λ (before : IsUnfinished trace a). before)
      (λ (begun : (a ≡ length trace) × (newest trace e ≡ length trace) × IsTrue (is_begin e.kind)). absurd (both_ways (is_begin e.kind) no_begin begun.2))
      (IsUnfinished-push_cases trace e a u)

  -- the ancestors are right as they were, since the event's transaction reaches no other
  pub same-ancestors : AreAncestors w.nodes (trace ++ e ∷ [])
  same-ancestors = record {
    sound = λ j k a b first second before. Reaches-old trace e a b (stands.ancestors.sound j k a b first second before);
    complete = λ j k a b first second still differ leads.
        stands.ancestors.complete j k a b first second (was-unfinished a still) differ
        (Reaches-push_alone trace e a b alone (stands.founded.transaction k b second).within leads);
  }

  pub stands-outside : (new : Watched) (step : Option Step) → new.nodes ≡ w.nodes → IsRecorded w.kept e step new.kept → length new.kept.threads ≡ length w.kept.threads → IsEntryFor w.nodes (trace ++ e ∷ []) step (newest trace e) → ((s : Step) → step ≡ Some s → IsSomeAnd w.nodes.slots.newest (λ newest. s.stamp ≤ newest)) → IsAccountedIn w.nodes (trace ++ e ∷ []) (length trace) → AreDepths bounds new.depths (trace ++ e ∷ []) → IsMonitorOf bounds new (trace ++ e ∷ [])
  stands-outside new step same recorded threads is given own depths = subst (λ (nodes : Nodes). IsMonitorOf bounds (record { nodes = nodes; kept = new.kept; depths = new.depths }) (trace ++ e ∷ [])) (sym same) (record {
    few = stands.few;
    well_formed = IsWellFormed-push bounds trace e stands.well_formed follows;
    acyclic = λ cycle. stands.acyclic (HasCycle-push_alone trace e alone cycle);
    earlier = λ z h. let l = stands.earlier z h in omega (arith, l, length_push trace e);
    sound = stands.sound;
    founded = record {
      transaction = λ k a borne. IsTransaction-append trace (e ∷ []) a (stands.founded.transaction k a borne);
      finished = λ k a borne. stands.founded.finished k a borne ∙ ap not (sym (same-open a (stands.founded.transaction k a borne)));
      unfinished = λ a u. stands.founded.unfinished a (was-unfinished a u);
    };
    ancestors = same-ancestors;
    collected = stands.collected;
    entries = entries-recorded w.nodes w.nodes w.kept new.kept trace e step (record { stays = λ k a borne. borne; was = λ k a l borne. borne }) (λ s h. (below w.nodes.slots.newest s.stamp (length trace) h stands.earlier, h)) given stands.entries recorded is;
    threads = threads ∙ stands.threads;
    accounted = λ a t. ⊎_elim
        (λ (l : a < length trace). old a l (IsTransaction-before trace (e ∷ []) a l t))
        (λ (g : length trace ≤ a). let at : length trace ≡ a = omega (arith, g, t.within, length_push trace e) in subst (λ z. IsAccountedIn w.nodes (trace ++ e ∷ []) z) at own)
        (cases_lt a (length trace));
    depths = depths;
  })
    where
      old : (a : ℕ) → a < length trace → IsTransaction trace a → IsAccountedIn w.nodes (trace ++ e ∷ []) a
      old a l transaction = ⊎_elim
          (λ founds. inl founds)
          (λ others. ⊎_elim
          (λ covered. inr (inl (covered.0, covered.1, covered.2, IsCovered-push trace e a covered.1 covered.3)))
          (λ dead. inr (inr (not_live-append trace (e ∷ []) a transaction dead))) others)
          (stands.accounted a transaction)
