-- Happens-before and the graph of transactions, by the look-ups of the appended event alone.
use Rattle.std.proofs.Common.{◌≡◌, ◌≢◌, ℕ, ◌<◌, ◌≤◌, List, [], ◌∷◌, ◌++◌, length, Some, refl, sym, ◌∙◌, subst, arith, ⊎_elim, inl, inr}
use Rattle.std.specs.Prelude.{◌⊎◌, ◌↔◌, ◌==◌, IsTrue, Contains, slice_get}
use Rattle.std.proofs.lemmas.Bool.{eqb-true, eq-eqb, or_left, cases_eq}
use Rattle.velo_events.specs.declared.config.Bounds.{Bounds}
use Rattle.velo_events.specs.declared.event.Event.{Event}
use Rattle.velo_events.specs.Conflict.{conflict}
use Rattle.velo_events.specs.Block.{owner}
use Rattle.velo_events.specs.WellFormed.{IsWellFormed, MayFollow}
use Rattle.velo_events.specs.Graph.{Reaches, ConflictsInOrder, HappensBefore, conflict_at, Edge, HasCycle}
use Rattle.velo_events.proofs.OnTraces.{slice_get-append, slice_get-push}
use Rattle.velo_events.specs.Event.{thread_of, is_by, is_fork_of}
use Rattle.velo_events.proofs.OnScans.{event_at, passes_at-event, passes_at-is}
use Rattle.velo_events.proofs.OnOwners.{is_open_at-thread, newest-open, newest-owner}
use Rattle.velo_events.proofs.OnGraphs.{Path-map, Leads-trans, Reaches-trans, newest, HasCycle-from_push}
use Rattle.velo_events.proofs.OnHappening.{HappensBefore-lt, IsFrom-last, IsFrom-before, IsFrom-reaches, ConflictsInOrder-append}
use Rattle.velo_events.proofs.OnReaching.{IsPredecessor, IsPredecessor-edge, ReachesBy, Reaches-push, Reaches-old, Reaches-by, HasCycle-push_predecessor, HasCycle-from_on}
use Rattle.velo_events.specs.Place.{Place, LastOf, looked_up, is_recorded, last_at}
use Rattle.velo_events.proofs.OnLast.{last_at-within, last_position-at}
use Rattle.velo_events.proofs.OnLookUps.{IsReached, last_of-own, looked_up-conflicts, reached-from_conflict}

-- the transaction x, another than the event's, has the last event of a place that the event looks up
pub record IsFound (trace : List Event) (e : Event) (x : ℕ) : Type 0 where
  pub place : Place
  pub at : ℕ
  pub looked : Contains (looked_up e) place
  pub last : last_at place trace ≡ Some at
  pub of : owner trace at ≡ x
  pub differ : x ≢ newest trace e

-- a reaches, in the trace without the event, a transaction that is found, and the event's transaction reaches b there
pub record ReachesByFound (trace : List Event) (e : Event) (a b : ℕ) : Type 0 where
  pub by : ℕ
  pub found : IsFound trace e by
  pub before : Reaches (Edge trace) a by
  pub after : Reaches (Edge trace) (newest trace e) b

-- the event at a position that conflicts with the appended one conflicts with it
conflict-from_at : (trace : List Event) (e : Event) (i : ℕ) (f : Event) → i < length trace → slice_get trace i ≡ Some f → IsTrue (conflict_at (trace ++ e ∷ []) i (length trace)) → IsTrue (conflict f e)
unfolding conflict_at
conflict-from_at trace e i f within at h =
    let here = slice_get-append trace (e ∷ []) i within ∙ at in
    rw (here, slice_get-push trace e) at h

module _ (bounds : Bounds) (trace : List Event) (e : Event) (well : IsWellFormed bounds trace) (follows : MayFollow bounds trace e) (few : bounds.threads ≤ 64) where
  -- an earlier position that conflicts with the event is reached
  pub reached-at : (i : ℕ) → i < length trace → IsTrue (conflict_at (trace ++ e ∷ []) i (length trace)) → IsReached trace e i
  reached-at i within h =
      let f = event_at trace i within in
      reached-from_conflict bounds trace e well follows few i f.0 f.1 (conflict-from_at trace e i f.0 within f.1 h)

  looked_up-in_order : (p : Place) (k : ℕ) → Contains (looked_up e) p → last_at p trace ≡ Some k → ConflictsInOrder (trace ++ e ∷ []) k (length trace)
  looked_up-in_order p k looks last = (last_at-within p trace k last, looked_up-conflicts bounds trace e well follows p k looks last)

  -- What happens before the event is, or happens before, the last event of a place that it looks up; and the other way round
  pub happens_before-reached : (i : ℕ) → HappensBefore (trace ++ e ∷ []) i (length trace) → IsReached trace e i
  happens_before-reached i h = ⊎_elim
      (λ same. absurd (rising same))
      (λ w. let within : w.0 < length trace = w.2.0 in
      let reached = reached-at w.0 within w.2.1 in
      record {
        place = reached.place;
        at = reached.at;
        looked = reached.looked;
        last = reached.last;
        after = Reaches-trans (ConflictsInOrder trace) i w.0 reached.at (IsFrom-before trace (e ∷ []) i w.0 within w.1) reached.after;
      })
      (IsFrom-last (trace ++ e ∷ []) i (length trace) (inr h))
    where
      rising : i ≡ length trace → ⊥
      rising same = omega (arith, same, HappensBefore-lt (trace ++ e ∷ []) i (length trace) h)

  pub happens_before-from_reached : (i : ℕ) → IsReached trace e i → HappensBefore (trace ++ e ∷ []) i (length trace)
  happens_before-from_reached i r =
      let link = looked_up-in_order r.place r.at r.looked r.last in
      ⊎_elim
      (λ same. ([], subst (λ k. ConflictsInOrder (trace ++ e ∷ []) k (length trace)) (sym same) link))
      (λ path. Leads-trans (ConflictsInOrder (trace ++ e ∷ [])) i r.at (length trace) (path.0, Path-map (ConflictsInOrder trace) (ConflictsInOrder (trace ++ e ∷ [])) (ConflictsInOrder-append trace (e ∷ [])) i path.0 r.at path.1) ([], link))
      r.after

  -- in a block, the last event of the event's thread is of the event's transaction
  pub current : newest trace e < length trace → (k : ℕ) × (last_at (LastOf (thread_of e)) trace ≡ Some k) × (owner trace k ≡ newest trace e)
  current inside =
      let t = thread_of e in
      let begun = passes_at-event trace (is_by t) (newest trace e) (is_open_at-thread trace t (newest trace e) (length trace) (newest-open trace e inside)) in
      let w = last_position-at (λ f. is_recorded f (LastOf t)) trace (newest trace e) begun.0 begun.1 (or_left (thread_of begun.0 == t) (is_fork_of t begun.0) begun.2) in
      let last = last_of-own bounds trace t (newest trace e) w.0 begun.0 well begun.1 (eqb-true (thread_of begun.0) t begun.2) w.1 in
      (w.0, w.1, newest-owner trace e w.0 last.3 (last_at-within (LastOf t) trace w.0 w.1) (passes_at-is trace (is_by t) w.0 last.0 last.1 ∙ eq-eqb (thread_of last.0) t last.2))

  -- ---- the graph

  -- what is found is a predecessor
  pub IsFound-predecessor : (x : ℕ) → IsFound trace e x → IsPredecessor trace e x
  IsFound-predecessor x w = record {
    at = w.at;
    before = last_at-within w.place trace w.at w.last;
    in_conflict = looked_up-conflicts bounds trace e well follows w.place w.at w.looked w.last;
    of = w.of;
    differ = w.differ;
  }

  -- a predecessor reaches one that is found, or the event's transaction
  pub IsPredecessor-found : (x : ℕ) → IsPredecessor trace e x → ((y : ℕ) × IsFound trace e y × Reaches (Edge trace) x y) ⊎ Reaches (Edge trace) x (newest trace e)
  IsPredecessor-found x w =
      let r = reached-at w.at w.before w.in_conflict in
      let leads : Reaches (Edge trace) x (owner trace r.at) = subst (λ y. Reaches (Edge trace) y (owner trace r.at)) w.of (IsFrom-reaches trace w.at r.at r.after) in
      ⊎_elim
      (λ own. inr (subst (λ y. Reaches (Edge trace) x y) own leads))
      (λ differ. inl (owner trace r.at, record { place = r.place; at = r.at; looked = r.looked; last = r.last; of = refl; differ = differ }, leads))
      (cases_eq (owner trace r.at) (newest trace e))

  -- With the event a reaches b exactly where it did before, or where it reached one that is found, and the event's
  -- transaction is b or reached it
  pub Reaches-push_found : (a b : ℕ) → Reaches (Edge (trace ++ e ∷ [])) a b ↔ (Reaches (Edge trace) a b ⊎ ReachesByFound trace e a b)
  Reaches-push_found a b = (
    (λ r. ⊎_elim (λ old. inl old) through (Reaches-push trace e a b r)),
    (λ r. ⊎_elim (Reaches-old trace e a b)
        (λ w. Reaches-by trace e a b (record { by = w.by; predecessor = IsFound-predecessor w.by w.found; before = w.before; after = w.after })) r),
  )
    where
      through : ReachesBy trace e a b → Reaches (Edge trace) a b ⊎ ReachesByFound trace e a b
      through w = ⊎_elim
          (λ v. inr (record { by = v.0; found = v.1; before = Reaches-trans (Edge trace) a w.by v.0 w.before v.2; after = w.after }))
          (λ into. inl (Reaches-trans (Edge trace) a (newest trace e) b (Reaches-trans (Edge trace) a w.by (newest trace e) w.before into) w.after))
          (IsPredecessor-found w.by w.predecessor)

  -- The event closes a first cycle exactly where its transaction reached one that is found
  pub HasCycle-push_found : (HasCycle trace → ⊥) → HasCycle (trace ++ e ∷ []) → (x : ℕ) × IsFound trace e x × Reaches (Edge trace) (newest trace e) x
  HasCycle-push_found none c = ⊎_elim
      (λ old. absurd (none old))
      (λ w. ⊎_elim
      (λ v. (v.0, v.1, Reaches-trans (Edge trace) (newest trace e) w.0 v.0 w.2 v.2))
      (λ back. absurd (none (HasCycle-from_on trace w.0 (record { other = newest trace e; differ = w.1.differ; there = back; back = w.2 }))))
      (IsPredecessor-found w.0 w.1))
      (HasCycle-push_predecessor trace e c)

  pub HasCycle-from_found : (x : ℕ) → IsFound trace e x → Reaches (Edge trace) (newest trace e) x → HasCycle (trace ++ e ∷ [])
  HasCycle-from_found x found reached = HasCycle-from_push trace e x reached (IsPredecessor-edge trace e x (IsFound-predecessor x found))
