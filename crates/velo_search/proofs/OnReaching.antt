-- Which threads reach which groups of events, after one more event.
use Rattle.std.proofs.Common.{◌≡◌, ◌≢◌, ℕ, ◌<◌, ◌≤◌, true, List, [], ◌∷◌, ◌++◌, length, Some, refl, sym, ◌∙◌, subst, arith, ⊎_elim, inl, inr}
use Rattle.std.specs.Prelude.{◌⊎◌, IsTrue, Contains, slice_get}
use Rattle.std.proofs.lemmas.List.{length_push}
use Rattle.std.proofs.lemmas.Bool.{cases_eq, cases_lt, or_left}
use Rattle.std.proofs.lemmas.Option.{slice_get_within}
use Rattle.velo_events.specs.declared.config.Bounds.{Bounds}
use Rattle.velo_events.specs.declared.event.Event.{Event}
use Rattle.velo_events.specs.Event.{thread_of, is_by, is_fork_of}
use Rattle.velo_events.specs.Heap.{depth_in}
use Rattle.velo_events.specs.WellFormed.{IsWellFormed, MayFollow}
use Rattle.velo_events.specs.Conflict.{conflict}
use Rattle.velo_events.specs.Block.{passes_at, owner}
use Rattle.velo_events.specs.Graph.{Edge, Reaches, conflict_at}
use Rattle.velo_events.proofs.OnTraces.{slice_get-append, slice_get-push, passes_at-append, passes_at-push}
use Rattle.velo_events.proofs.OnScans.{event_at, passes_at-event, passes_at-is}
use Rattle.velo_events.proofs.OnBlocks.{owner-append}
use Rattle.velo_events.proofs.OnGraphs.{newest, Reaches-trans}
use Rattle.velo_events.proofs.OnOwners.{passes_at-within}
use Rattle.velo_events.proofs.OnUnfinished.{IsTransaction-owner}
use Rattle.velo_events.proofs.OnHappening.{IsFrom-reaches}
use Rattle.velo_events.proofs.OnReaching.{IsPredecessor, IsPredecessor-edge, Reaches-push, Reaches-old, Reaches-to_transaction}
use Rattle.velo_events.proofs.OnLookUps.{conflict_at-events}
use Rattle.velo_search.specs.declared.group.Group.{Group}
use Rattle.velo_search.specs.declared.group.Group.TheVariants.{OfThread}
use Rattle.velo_search.specs.Groups.{is_in, looks_at}
use Rattle.velo_search.specs.Summary.{IsUnfinishedOf, Reaching}
use Rattle.velo_search.proofs.OnGroups.{MeetsEvent, Directly, By, looks_at-own, looks_at-meets, conflict-looked}
use Rattle.velo_search.proofs.OnThreads.{newest-of_thread, newest-earlier, newest-reaching, other-after, other-before, own-newest, inside-unfinished}

-- the unfinished transaction of thread u reaches an event of a group that the event looks at
pub record IsBehind (trace : List Event) (e : Event) (u : ℕ) : Type 0 where
  pub group : Group
  pub looked : Contains (looks_at e) group
  pub reached : Reaching trace group u

-- the events at the two positions conflict
conflict-from : (trace : List Event) (e : Event) (i : ℕ) (f : Event) → i < length trace → slice_get trace i ≡ Some f → IsTrue (conflict_at (trace ++ e ∷ []) i (length trace)) → IsTrue (conflict f e)
unfolding conflict_at
conflict-from trace e i f within here h =
    let there = slice_get-append trace (e ∷ []) i within ∙ here in
    rw (there, slice_get-push trace e) at h

-- ---- the members of a group

module _ (trace : List Event) (e : Event) (g : Group) where
  -- 11. a member of the longer log is one before, or the new event
  pub member-cases : (i : ℕ) → IsTrue (passes_at (trace ++ e ∷ []) (λ f. is_in f g) i) → ((i < length trace) × IsTrue (passes_at trace (λ f. is_in f g) i)) ⊎ ((length trace ≡ i) × IsTrue (is_in e g))
  member-cases i h = ⊎_elim
      (λ l. inl (l, sym (passes_at-append trace (e ∷ []) (λ f. is_in f g) i l) ∙ h))
      (λ past. let within = passes_at-within (trace ++ e ∷ []) (λ f. is_in f g) i h in
      let here : length trace ≡ i = omega (arith, past, within, length_push trace e) in
      inr (here, sym (passes_at-push trace e (λ f. is_in f g)) ∙ subst (λ k. passes_at (trace ++ e ∷ []) (λ f. is_in f g) k ≡ true) (sym here) h))
      (cases_lt i (length trace))

  -- and the other way round
  pub member-old : (i : ℕ) → IsTrue (passes_at trace (λ f. is_in f g) i) → IsTrue (passes_at (trace ++ e ∷ []) (λ f. is_in f g) i)
  member-old i h = passes_at-append trace (e ∷ []) (λ f. is_in f g) i (passes_at-within trace (λ f. is_in f g) i h) ∙ h

  pub member-new : IsTrue (is_in e g) → IsTrue (passes_at (trace ++ e ∷ []) (λ f. is_in f g) (length trace))
  member-new h = passes_at-push trace e (λ f. is_in f g) ∙ h

  -- 12. an old one keeps its transaction
  pub owner-kept : (i : ℕ) → IsTrue (passes_at trace (λ f. is_in f g) i) → owner (trace ++ e ∷ []) i ≡ owner trace i
  owner-kept i h = owner-append trace (e ∷ []) i (passes_at-within trace (λ f. is_in f g) i h)

module _ (bounds : Bounds) (trace : List Event) (e : Event) (well : IsWellFormed bounds trace) (follows : MayFollow bounds trace e) (few : bounds.threads ≤ 64) where
  -- ---- what reaches the event

  into : (i : ℕ) (f : Event) → slice_get trace i ≡ Some f → IsTrue (conflict f e) → Reaches (Edge (trace ++ e ∷ [])) (owner trace i) (newest trace e)
  into i f here meets = ⊎_elim
      (λ same. inl same)
      (λ differ. inr (
        [],
        IsPredecessor-edge trace e (owner trace i) (record {
          at = i;
          before = slice_get_within trace i f here;
          in_conflict = conflict_at-events (trace ++ e ∷ []) i (length trace) f e (slice_get-append trace (e ∷ []) i (slice_get_within trace i f here) ∙ here) (slice_get-push trace e) meets;
          of = refl;
          differ = differ;
        }),
      ))
      (cases_eq (owner trace i) (newest trace e))

  -- 13. the transaction of an event that meets the new one reaches the new one's
  meets-newest : (i : ℕ) (f : Event) → slice_get trace i ≡ Some f → MeetsEvent trace e i f → Reaches (Edge (trace ++ e ∷ [])) (owner trace i) (newest trace e)
  meets-newest i f here (Directly c) = into i f here c
  meets-newest i f here (By k g before there c d) =
      Reaches-trans (Edge (trace ++ e ∷ [])) (owner trace i) (owner trace k) (newest trace e)
      (Reaches-old trace e (owner trace i) (owner trace k) (IsFrom-reaches trace i k (inr ([], (before, conflict_at-events trace i k f g here there c)))))
      (into k g there d)

  -- so does that of each event of a group that the new one looks at
  pub member-newest : (g : Group) (i : ℕ) → Contains (looks_at e) g → IsTrue (passes_at trace (λ f. is_in f g) i) → Reaches (Edge (trace ++ e ∷ [])) (owner trace i) (newest trace e)
  member-newest g i looked member =
      let f = passes_at-event trace (λ f. is_in f g) i member in
      meets-newest i f.0 f.1 (looks_at-meets bounds trace e well follows few i f.0 f.1 g looked f.2)

  -- 14. who is behind the event reaches its transaction
  pub behind-newest : (u : ℕ) (w : IsBehind trace e u) → Reaches (Edge (trace ++ e ∷ [])) w.reached.from (newest trace e)
  behind-newest u w =
      Reaches-trans (Edge (trace ++ e ∷ [])) w.reached.from (owner trace w.reached.at) (newest trace e)
      (Reaches-old trace e w.reached.from (owner trace w.reached.at) w.reached.reaches)
      (member-newest w.group w.reached.at w.looked w.reached.member)

  -- a predecessor has an event in a group that the new one looks at
  pub predecessor-group : (x : ℕ) (before : IsPredecessor trace e x) → (g : Group) × Contains (looks_at e) g × IsTrue (passes_at trace (λ f. is_in f g) before.at)
  predecessor-group x before =
      let f = event_at trace before.at before.before in
      let looked = conflict-looked bounds trace e well follows few before.at f.0 f.1 (conflict-from trace e before.at f.0 before.before f.1 before.in_conflict) in
      (looked.0, looked.1, passes_at-is trace (λ f. is_in f looked.0) before.at f.0 f.1 ∙ looked.2)

  -- 15. what reaches a predecessor is behind the event
  pub predecessor-behind : (u a x : ℕ) → IsUnfinishedOf trace u a → IsPredecessor trace e x → Reaches (Edge trace) a x → IsBehind trace e u
  predecessor-behind u a x w before r =
      let g = predecessor-group x before in
      record {
        group = g.0;
        looked = g.1;
        reached = record { at = before.at; member = g.2; from = a; of_thread = w; reaches = subst (λ y. Reaches (Edge trace) a y) (sym before.of) r };
      }

  -- 16. what reaches the event's transaction is behind the event
  pub newest-behind : (u a : ℕ) → IsUnfinishedOf trace u a → Reaches (Edge (trace ++ e ∷ [])) a (newest trace e) → IsBehind trace e u
  newest-behind u a w r = ⊎_elim old (λ by. predecessor-behind u a by.by w by.predecessor by.before) (Reaches-push trace e a (newest trace e) r)
    where
      old : Reaches (Edge trace) a (newest trace e) → IsBehind trace e u
      old reached =
          let mine = newest-earlier trace e (Reaches-to_transaction trace a (newest trace e) w.unfinished.transaction reached).within in
          let f = passes_at-event trace (is_by (thread_of e)) (newest trace e) mine.own in
          record {
            group = OfThread e.thread;
            looked = looks_at-own e;
            reached = record {
              at = newest trace e;
              member = passes_at-is trace (λ f. is_in f (OfThread e.thread)) (newest trace e) f.0 f.1 ∙ or_left (is_by (thread_of e) f.0) (is_fork_of (thread_of e) f.0) f.2;
              from = a;
              of_thread = w;
              reaches = subst (λ y. Reaches (Edge trace) a y) (sym mine.unfinished.transaction.first) reached;
            };
          }

  -- ---- one group

  module _ (g : Group) where
    -- the event's thread reached it, if the event's transaction did
    unfoldable pub by_newest : (i : ℕ) → IsTrue (passes_at trace (λ f. is_in f g) i) → Reaches (Edge trace) (newest trace e) (owner trace i) → Reaching trace g (thread_of e)
    by_newest i member r = record {
      at = i;
      member = member;
      from = newest trace e;
      of_thread = newest-reaching trace e (owner trace i) (IsTransaction-owner trace i (passes_at-within trace (λ f. is_in f g) i member)) r;
      reaches = r;
    }

    -- the event's transaction reaches what its thread reached
    pub newest-reaches : (w : Reaching trace g (thread_of e)) → Reaches (Edge trace) (newest trace e) (owner trace w.at)
    newest-reaches w = subst (λ x. Reaches (Edge trace) x (owner trace w.at)) (sym (newest-of_thread trace e w.from w.of_thread)) w.reaches

    -- 17. another thread that reached the group still does
    unfoldable pub reaching-kept : (u : ℕ) → thread_of e ≢ u → Reaching trace g u → Reaching (trace ++ e ∷ []) g u
    reaching-kept u other w = record {
      at = w.at;
      member = member-old trace e g w.at w.member;
      from = w.from;
      of_thread = other-after trace e u w.from other w.of_thread;
      reaches = subst (λ x. Reaches (Edge (trace ++ e ∷ [])) w.from x) (sym (owner-kept trace e g w.at w.member)) (Reaches-old trace e w.from (owner trace w.at) w.reaches);
    }

    -- 18. who is behind the event does, where this is in the group
    unfoldable pub reaching-new : (u : ℕ) → thread_of e ≢ u → IsTrue (is_in e g) → IsBehind trace e u → Reaching (trace ++ e ∷ []) g u
    reaching-new u other member v = record {
      at = length trace;
      member = member-new trace e g member;
      from = v.reached.from;
      of_thread = other-after trace e u v.reached.from other v.reached.of_thread;
      reaches = behind-newest u v;
    }

    -- 19. or where the event's thread reached it
    unfoldable pub reaching-through : (u : ℕ) → thread_of e ≢ u → Reaching trace g (thread_of e) → IsBehind trace e u → Reaching (trace ++ e ∷ []) g u
    reaching-through u other w v = record {
      at = w.at;
      member = member-old trace e g w.at w.member;
      from = v.reached.from;
      of_thread = other-after trace e u v.reached.from other v.reached.of_thread;
      reaches = subst (λ x. Reaches (Edge (trace ++ e ∷ [])) v.reached.from x) (sym (owner-kept trace e g w.at w.member))
          (Reaches-trans (Edge (trace ++ e ∷ [])) v.reached.from (newest trace e) (owner trace w.at) (behind-newest u v)
          (Reaches-old trace e (newest trace e) (owner trace w.at) (newest-reaches w)));
    }

    -- 20. what reaches an old event of the group did so, or reaches it by way of the new one
    pub old-or_through : (u a i : ℕ) → IsUnfinishedOf trace u a → IsTrue (passes_at trace (λ f. is_in f g) i) → Reaches (Edge (trace ++ e ∷ [])) a (owner trace i) → Reaches (Edge trace) a (owner trace i) ⊎ (Reaching trace g (thread_of e) × IsBehind trace e u)
    old-or_through u a i w member r = ⊎_elim
        (λ old. inl old)
        (λ by. inr (by_newest i member by.after, predecessor-behind u a by.by w by.predecessor by.before))
        (Reaches-push trace e a (owner trace i) r)

    -- 21. no other thread than these reaches the group
    pub reaching-from : (u : ℕ) → thread_of e ≢ u → Reaching (trace ++ e ∷ []) g u → Reaching trace g u ⊎ ((IsTrue (is_in e g) ⊎ Reaching trace g (thread_of e)) × IsBehind trace e u)
    reaching-from u other w = ⊎_elim
        (λ old. let r = subst (λ x. Reaches (Edge (trace ++ e ∷ [])) w.from x) (owner-kept trace e g w.at old.1) w.reaches in
        ⊎_elim
        (λ kept. inl (record { at = w.at; member = old.1; from = w.from; of_thread = was; reaches = kept }))
        (λ through. inr (inr through.0, through.1))
        (old-or_through u w.from w.at was old.1 r))
        (λ new. inr (inl new.1, newest-behind u w.from was (subst (λ k. Reaches (Edge (trace ++ e ∷ [])) w.from (owner (trace ++ e ∷ []) k)) (sym new.0) w.reaches)))
        (member-cases trace e g w.at w.member)
      where
        was : IsUnfinishedOf trace u w.from
        was = other-before trace e u w.from other w.of_thread

    -- 22. the event's thread reaches it where it did, as long as it has a block open
    unfoldable pub reaching-own_kept : 0 < depth_in (trace ++ e ∷ []) (thread_of e) → Reaching trace g (thread_of e) → Reaching (trace ++ e ∷ []) g (thread_of e)
    reaching-own_kept deep w = record {
      at = w.at;
      member = member-old trace e g w.at w.member;
      from = newest trace e;
      of_thread = inside-unfinished bounds trace e well follows deep;
      reaches = subst (λ x. Reaches (Edge (trace ++ e ∷ [])) (newest trace e) x) (sym (owner-kept trace e g w.at w.member)) (Reaches-old trace e (newest trace e) (owner trace w.at) (newest-reaches w));
    }

    -- 23. and where the event is in it
    pub reaching-own_new : 0 < depth_in (trace ++ e ∷ []) (thread_of e) → IsTrue (is_in e g) → Reaching (trace ++ e ∷ []) g (thread_of e)
    reaching-own_new deep member = record {
      at = length trace;
      member = member-new trace e g member;
      from = newest trace e;
      of_thread = inside-unfinished bounds trace e well follows deep;
      reaches = inl refl;
    }

    -- 24. what the event's transaction reaches of the old events, it reached
    pub own-old : (a i : ℕ) → IsUnfinishedOf (trace ++ e ∷ []) (thread_of e) a → IsTrue (passes_at trace (λ f. is_in f g) i) → Reaches (Edge (trace ++ e ∷ [])) a (owner (trace ++ e ∷ []) i) → Reaches (Edge trace) (newest trace e) (owner trace i)
    own-old a i w member r =
        let old = subst (λ x. Reaches (Edge (trace ++ e ∷ [])) (newest trace e) x) (owner-kept trace e g i member)
        (subst (λ x. Reaches (Edge (trace ++ e ∷ [])) x (owner (trace ++ e ∷ []) i)) (sym (own-newest trace e a w)) r) in
        ⊎_elim (λ was. was) (λ by. by.after) (Reaches-push trace e (newest trace e) (owner trace i) old)

    -- 25. and only there
    pub reaching-own_from : Reaching (trace ++ e ∷ []) g (thread_of e) → IsTrue (is_in e g) ⊎ Reaching trace g (thread_of e)
    reaching-own_from w = ⊎_elim
        (λ old. inr (by_newest w.at old.1 (own-old w.from w.at w.of_thread old.1 w.reaches)))
        (λ new. inl new.1)
        (member-cases trace e g w.at w.member)
