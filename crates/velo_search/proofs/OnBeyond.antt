-- When a first cycle is closed, and which threads reach another transaction of which groups, after one more event.
use Rattle.std.proofs.Common.{◌≢◌, ℕ, ◌<◌, ◌≤◌, List, [], ◌∷◌, ◌++◌, sym, ap, ◌∙◌, subst, ⊎_elim, inl, inr}
use Rattle.std.specs.Prelude.{◌⊎◌, IsTrue, Contains}
use Rattle.velo_events.specs.declared.config.Bounds.{Bounds}
use Rattle.velo_events.specs.declared.event.Event.{Event}
use Rattle.velo_events.specs.Event.{thread_of}
use Rattle.velo_events.specs.Heap.{depth_in}
use Rattle.velo_events.specs.WellFormed.{IsWellFormed, MayFollow}
use Rattle.velo_events.specs.Block.{owner, IsTransaction}
use Rattle.velo_events.specs.Graph.{Edge, Reaches, HasCycle}
use Rattle.velo_events.proofs.OnGraphs.{newest}
use Rattle.velo_events.proofs.OnUnfinished.{IsTransaction-owner}
use Rattle.velo_events.proofs.OnReaching.{IsPredecessor, Reaches-old, HasCycle-from_on, HasCycle-push_predecessor}
use Rattle.velo_search.specs.declared.group.Group.{Group}
use Rattle.velo_search.specs.Groups.{is_in, looks_at}
use Rattle.velo_search.specs.Summary.{IsUnfinishedOf, Reaching, ReachingAnother}
use Rattle.velo_search.proofs.OnThreads.{newest-of_thread, newest-reaching, newest-other, other-before, own-newest}
use Rattle.velo_search.proofs.OnReaching.{IsBehind, owner-kept, member-cases, member-newest, behind-newest, predecessor-group, newest-behind, newest-reaches, old-or_through, own-old, reaching-kept, reaching-new, reaching-through, reaching-own_kept, by_newest}

-- the event's thread reaches another transaction of a group that the event looks at
pub record IsClosedBy (trace : List Event) (e : Event) : Type 0 where
  pub group : Group
  pub looked : Contains (looks_at e) group
  pub beyond : ReachingAnother trace group (thread_of e)

module _ (bounds : Bounds) (trace : List Event) (e : Event) (well : IsWellFormed bounds trace) (follows : MayFollow bounds trace e) (few : bounds.threads ≤ 64) where
  -- ---- cycles

  -- 26. two different transactions that reach one another
  makes_cycle : (a b : ℕ) → a ≢ b → Reaches (Edge (trace ++ e ∷ [])) a b → Reaches (Edge (trace ++ e ∷ [])) b a → HasCycle (trace ++ e ∷ [])
  makes_cycle a b differ there back = HasCycle-from_on (trace ++ e ∷ []) a (record { other = b; differ = differ; there = there; back = back })

  -- 27. where the event's thread reaches another transaction of a group that the event looks at, a cycle is closed
  pub closed-cycle : IsClosedBy trace e → HasCycle (trace ++ e ∷ [])
  closed-cycle w =
      let r = w.beyond.reaching in
      let same = newest-of_thread trace e r.from r.of_thread in
      makes_cycle (newest trace e) (owner trace r.at) (λ at. w.beyond.differ (sym same ∙ at))
      (Reaches-old trace e (newest trace e) (owner trace r.at) (newest-reaches bounds trace e well follows few w.group r))
      (member-newest bounds trace e well follows few w.group r.at w.looked r.member)

  -- 28. and a first one only there
  pub cycle-closed : (HasCycle trace → ⊥) → HasCycle (trace ++ e ∷ []) → IsClosedBy trace e
  cycle-closed none c = ⊎_elim (λ old. absurd (none old)) from (HasCycle-push_predecessor trace e c)
    where
      from : (x : ℕ) × IsPredecessor trace e x × Reaches (Edge trace) (newest trace e) x → IsClosedBy trace e
      from w =
          let before = w.1 in
          let g = predecessor-group bounds trace e well follows few w.0 before in
          let t = subst (IsTransaction trace) before.of (IsTransaction-owner trace before.at before.before) in
          record {
            group = g.0;
            looked = g.1;
            beyond = record {
              reaching = record {
                at = before.at;
                member = g.2;
                from = newest trace e;
                of_thread = newest-reaching trace e w.0 t w.2;
                reaches = subst (λ x. Reaches (Edge trace) (newest trace e) x) (sym before.of) w.2;
              };
              differ = λ same. before.differ (sym before.of ∙ sym same);
            };
          }

  -- ---- one group

  module _ (g : Group) where
    -- 29. another thread still reaches another transaction
    pub beyond-kept : (u : ℕ) → thread_of e ≢ u → ReachingAnother trace g u → ReachingAnother (trace ++ e ∷ []) g u
    unfolding reaching-kept
    beyond-kept u other w = record {
      reaching = reaching-kept bounds trace e well follows few g u other w.reaching;
      differ = λ same. w.differ (same ∙ owner-kept trace e g w.reaching.at w.reaching.member);
    }

    -- 30. who is behind the event does, where this is in the group
    pub beyond-new : (u : ℕ) → thread_of e ≢ u → IsTrue (is_in e g) → IsBehind trace e u → ReachingAnother (trace ++ e ∷ []) g u
    unfolding reaching-new
    beyond-new u other member v = record {
      reaching = reaching-new bounds trace e well follows few g u other member v;
      differ = λ same. newest-other trace e u v.reached.from other v.reached.of_thread (sym same);
    }

    -- 31. or where the event's thread reached it: else there were a cycle
    pub beyond-through : (HasCycle (trace ++ e ∷ []) → ⊥) → (u : ℕ) → thread_of e ≢ u → Reaching trace g (thread_of e) → IsBehind trace e u → ReachingAnother (trace ++ e ∷ []) g u
    unfolding reaching-through
    beyond-through none u other w v = record {
      reaching = reaching-through bounds trace e well follows few g u other w v;
      differ = λ same. none (makes_cycle (newest trace e) v.reached.from (newest-other trace e u v.reached.from other v.reached.of_thread)
          (subst (λ x. Reaches (Edge (trace ++ e ∷ [])) (newest trace e) x) (sym (same ∙ owner-kept trace e g w.at w.member)) (Reaches-old trace e (newest trace e) (owner trace w.at) (newest-reaches bounds trace e well follows few g w)))
          (behind-newest bounds trace e well follows few u v));
    }

    -- 32. no other thread than these does
    pub beyond-from : (u : ℕ) → thread_of e ≢ u → ReachingAnother (trace ++ e ∷ []) g u → ReachingAnother trace g u ⊎ ((IsTrue (is_in e g) ⊎ Reaching trace g (thread_of e)) × IsBehind trace e u)
    beyond-from u other w = ⊎_elim
        (λ old. let kept = owner-kept trace e g r.at old.1 in
        ⊎_elim
        (λ reached. inl (record { reaching = record { at = r.at; member = old.1; from = r.from; of_thread = was; reaches = reached }; differ = λ same. w.differ (same ∙ sym kept) }))
        (λ through. inr (inr through.0, through.1))
        (old-or_through bounds trace e well follows few g u r.from r.at was old.1 (subst (λ x. Reaches (Edge (trace ++ e ∷ [])) r.from x) kept r.reaches)))
        (λ new. inr (inl new.1, newest-behind bounds trace e well follows few u r.from was (subst (λ k. Reaches (Edge (trace ++ e ∷ [])) r.from (owner (trace ++ e ∷ []) k)) (sym new.0) r.reaches)))
        (member-cases trace e g r.at r.member)
      where
        r : Reaching (trace ++ e ∷ []) g u
        r = w.reaching

        was : IsUnfinishedOf trace u r.from
        was = other-before trace e u r.from other r.of_thread

    -- 33. the event's thread does where it did, as long as it has a block open
    pub beyond-own_kept : 0 < depth_in (trace ++ e ∷ []) (thread_of e) → ReachingAnother trace g (thread_of e) → ReachingAnother (trace ++ e ∷ []) g (thread_of e)
    unfolding reaching-own_kept
    beyond-own_kept deep w = record {
      reaching = reaching-own_kept bounds trace e well follows few g deep w.reaching;
      differ = λ same. w.differ (sym (newest-of_thread trace e w.reaching.from w.reaching.of_thread) ∙ (same ∙ owner-kept trace e g w.reaching.at w.reaching.member));
    }

    -- 34. and only there
    pub beyond-own_from : ReachingAnother (trace ++ e ∷ []) g (thread_of e) → ReachingAnother trace g (thread_of e)
    unfolding by_newest
    beyond-own_from w = ⊎_elim
        (λ old. let kept = owner-kept trace e g r.at old.1 in
        record {
          reaching = by_newest bounds trace e well follows few g r.at old.1 (own-old bounds trace e well follows few g r.from r.at r.of_thread old.1 r.reaches);
          differ = λ same. w.differ (sym (own-newest trace e r.from r.of_thread) ∙ (same ∙ sym kept));
        })
        (λ new. absurd (w.differ (sym (own-newest trace e r.from r.of_thread) ∙ ap (owner (trace ++ e ∷ [])) new.0)))
        (member-cases trace e g r.at r.member)
      where
        r : Reaching (trace ++ e ∷ []) g (thread_of e)
        r = w.reaching
