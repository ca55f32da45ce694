-- The places beside an event: their events conflict with it, and lead to it from all that does.
use Rattle.std.proofs.Common.{◌≡◌, ℕ, ◌<◌, ◌≤◌, List, [], ◌∷◌, ◌++◌, length, Option, Some, None, refl, sym, ap, ◌∙◌, subst, arith, ⊎_elim, inl, inr}
use Rattle.std.specs.Prelude.{◌==◌, ◌⊎◌, IsTrue, slice_get}
use Rattle.std.proofs.lemmas.Bool.{false≢true, false_from_ne_true, cases_lt, eqb-true, eq-eqb, or_cases, or_right, and_parts}
use Rattle.std.proofs.lemmas.Option.{none-some, same_Some, slice_get_within}
use Rattle.velo_events.specs.declared.config.Bounds.{Bounds}
use Rattle.velo_events.specs.declared.event.Event.{Event}
use Rattle.velo_events.specs.declared.event.Access.{Access}
use Rattle.velo_events.specs.declared.event.Access.TheVariants.{Shared, Exclusive, Nothing}
use Rattle.velo_events.specs.Event.{are_same, thread_of, access_of, cell_of, joined_of, is_shared, is_exclusive, is_writing, is_reading, is_join_of}
use Rattle.velo_events.specs.Block.{passes_at}
use Rattle.velo_events.specs.WellFormed.{IsWellFormed, MayFollow}
use Rattle.velo_events.specs.Graph.{ConflictsInOrder, conflict_at}
use Rattle.velo_events.proofs.OnHappening.{IsFrom-next}
use Rattle.velo_events.proofs.OnTraces.{slice_get-append, slice_get-push}
use Rattle.velo_events.proofs.OnScans.{passes_at-event, passes_at-is}
use Rattle.velo_events.specs.Place.{Place, LastOf, LastWrite, LastRead, is_recorded, last_at}
use Rattle.velo_events.proofs.OnLast.{last_at-is, last_position-at}
use Rattle.velo_events.proofs.OnLookUps.{is_looked_up, looked_up-own, looked_up-conflicts, further, also-join, also-access, are_same-some, are_same-from, conflict-cell, conflict_at-events}
use Rattle.velo_tables.specs.Clocks.{ClockPlace, OfLast, OfWrite, OfReads, IsAt, IsFrom, IsUnwrittenSince, beside}
use Rattle.velo_tables.proofs.OnLatest.{Among}

-- ---- what is beside

-- the same by what the operation is about
abbrev pub IsBeside : Access → ClockPlace → Type 0
IsBeside k (OfLast u) = IsTrue (are_same (joined_of k) (Some u))
IsBeside k (OfWrite x) = cell_of k ≡ Some x
IsBeside k (OfReads x) = (cell_of k ≡ Some x) × IsTrue (is_exclusive k)

pub beside-is : (k : Access) (p : ClockPlace) → Among (beside k) p → IsBeside k p
beside-is (Shared x) p w = ⊎_elim (λ at. subst (IsBeside (Shared x)) at refl) (λ none. absurd none) w
beside-is (Exclusive x) p w =
    ⊎_elim (λ at. subst (IsBeside (Exclusive x)) at refl) (λ more. ⊎_elim (λ at. subst (IsBeside (Exclusive x)) at (refl, refl)) (λ none. absurd none) more) w
beside-is (Access.Join u) p w = ⊎_elim (λ at. subst (IsBeside (Access.Join u)) at (eq-eqb u.0 u.0 refl)) (λ none. absurd none) w
beside-is Nothing p w = absurd w
beside-is (Access.Fork u) p w = absurd w

beside-join : (k : Access) (u : ℕ) → IsBeside k (OfLast u) → Among (beside k) (OfLast u)
beside-join (Access.Join t) u h = inl (ap (λ n. OfLast n) (eqb-true t.0 u h))
beside-join (Shared x) u h = absurd (false≢true h)
beside-join (Exclusive x) u h = absurd (false≢true h)
beside-join Nothing u h = absurd (false≢true h)
beside-join (Access.Fork t) u h = absurd (false≢true h)

beside-access : (k : Access) (x : ℕ) → IsBeside k (OfWrite x) → Among (beside k) (OfWrite x)
beside-access (Shared y) x h = inl (ap (λ n. OfWrite n) (same_Some y.0 x h))
beside-access (Exclusive y) x h = inl (ap (λ n. OfWrite n) (same_Some y.0 x h))
beside-access Nothing x h = absurd (none-some x h)
beside-access (Access.Fork t) x h = absurd (none-some x h)
beside-access (Access.Join t) x h = absurd (none-some x h)

beside-write : (k : Access) (x : ℕ) → IsBeside k (OfReads x) → Among (beside k) (OfReads x)
beside-write (Exclusive y) x h = inr (inl (ap (λ n. OfReads n) (same_Some y.0 x h.0)))
beside-write (Shared y) x h = absurd (false≢true h.1)
beside-write Nothing x h = absurd (false≢true h.1)
beside-write (Access.Fork t) x h = absurd (false≢true h.1)
beside-write (Access.Join t) x h = absurd (false≢true h.1)

pub beside-has : (k : Access) (p : ClockPlace) → IsBeside k p → Among (beside k) p
beside-has k (OfLast u) h = beside-join k u h
beside-has k (OfWrite x) h = beside-access k x h
beside-has k (OfReads x) h = beside-write k x h

-- ---- sound: the events there conflict with the event

module _ (bounds : Bounds) (trace : List Event) (e : Event) (well : IsWellFormed bounds trace) (follows : MayFollow bounds trace e) where
  pub beside-conflicts : (p : ClockPlace) (i : ℕ) → IsBeside (access_of e.kind) p → IsAt trace p i → IsTrue (conflict_at (trace ++ e ∷ []) i (length trace))
  beside-conflicts (OfLast u) i h at = looked_up-conflicts bounds trace e well follows (LastOf u) i (further _ _ _ (also-join (access_of e.kind) u h)) at
  beside-conflicts (OfWrite x) i h at = looked_up-conflicts bounds trace e well follows (LastWrite x) i (further _ _ _ (also-access (access_of e.kind) x h)) at
  beside-conflicts (OfReads x) i h at =
      let f = passes_at-event trace (is_reading x) i at.0 in
      conflict_at-events (trace ++ e ∷ []) i (length trace) f.0 e (slice_get-append trace (e ∷ []) i (slice_get_within trace i f.0 f.1) ∙ f.1) (slice_get-push trace e)
      (conflict-cell f.0 e (are_same-from _ _ x (are_same-some _ x (and_parts (is_shared (access_of f.0.kind)) _ f.2).1) h.0) (or_right _ _ h.1))

  -- so do those and the last event of its own thread
  pub joined-conflicts : (p : ClockPlace) (i : ℕ) → Among (OfLast (thread_of e) ∷ beside (access_of e.kind)) p → IsAt trace p i → IsTrue (conflict_at (trace ++ e ∷ []) i (length trace))
  joined-conflicts p i w = ⊎_elim
      (λ own. subst (λ q. IsAt trace q i → IsTrue (conflict_at (trace ++ e ∷ []) i (length trace))) own (looked_up-conflicts bounds trace e well follows (LastOf (thread_of e)) i (looked_up-own e)))
      (λ also. beside-conflicts p i (beside-is (access_of e.kind) p also)) w

-- ---- complete: each place that the event looks up leads to one of them

-- a variable is not written behind a position, or its last write stands behind it
pub last-write : (trace : List Event) (x j : ℕ) → IsUnwrittenSince trace x j ⊎ ((w : ℕ) × (last_at (LastWrite x) trace ≡ Some w) × (j < w))
last-write trace x j = looked (last_at (LastWrite x) trace) refl
  where
    behind : (i : ℕ) → IsTrue (passes_at trace (is_writing x) i) → (k : ℕ) × (last_at (LastWrite x) trace ≡ Some k) × (i ≤ k)
    behind i writes = let f = passes_at-event trace (is_writing x) i writes in last_position-at (λ g. is_recorded g (LastWrite x)) trace i f.0 f.1 f.2

    looked : (o : Option ℕ) → last_at (LastWrite x) trace ≡ o → IsUnwrittenSince trace x j ⊎ ((w : ℕ) × (last_at (LastWrite x) trace ≡ Some w) × (j < w))
    looked None is = inl (λ i after. false_from_ne_true _ (λ writes. let k = behind i writes in none-some k.0 (sym is ∙ k.1)))
    looked (Some w) is = ⊎_elim
        (λ before. inr (w, is, before))
        (λ upto. inl (λ i after. false_from_ne_true _ (λ writes. let k = behind i writes in let same : w ≡ k.0 = same_Some w k.0 (sym is ∙ k.1) in absurd (omega (arith, after, upto, same, k.2)))))
        (cases_lt j w)

-- a read conflicts with a write behind it
pub read-write : (trace : List Event) (x j w : ℕ) (f : Event) → slice_get trace j ≡ Some f → cell_of (access_of f.kind) ≡ Some x → last_at (LastWrite x) trace ≡ Some w → j < w → ConflictsInOrder trace j w
read-write trace x j w f here accesses last before =
    let g = last_at-is (LastWrite x) trace w last in
    let writes = and_parts (is_exclusive (access_of g.event.kind)) _ g.passes in
    (before, conflict_at-events trace j w f g.event here g.here (conflict-cell f g.event (are_same-from _ _ x accesses (are_same-some _ x writes.1)) (or_right (is_exclusive (access_of f.kind)) _ writes.0)))

-- the event at a position is one of a place beside, or happens before one
pub record LeadsBeside (trace : List Event) (e : Event) (j : ℕ) : Type 0 where
  pub place : ClockPlace
  pub at : ℕ
  pub among : Among (OfLast (thread_of e) ∷ beside (access_of e.kind)) place
  pub there : IsAt trace place at
  pub after : IsFrom trace j at

pub joined-at : (trace : List Event) (e : Event) (p : Place) (j : ℕ) → IsTrue (is_looked_up e p) → last_at p trace ≡ Some j → LeadsBeside trace e j
joined-at trace e (LastOf t) j looks at =
    ⊎_elim (λ own. record { place = OfLast t; at = j; among = inl (ap (λ n. OfLast n) (eqb-true _ _ own)); there = at; after = inl refl })
    (λ joins. record { place = OfLast t; at = j; among = inr (beside-has (access_of e.kind) (OfLast t) joins); there = at; after = inl refl }) (or_cases (thread_of e == t) (is_join_of t e) looks)
joined-at trace e (LastWrite x) j looks at = record { place = OfWrite x; at = j; among = inr (beside-has (access_of e.kind) (OfWrite x) (are_same-some _ x looks)); there = at; after = inl refl }
joined-at trace e (LastRead x t) j looks at =
    let w = and_parts (is_exclusive (access_of e.kind)) _ looks in
    let accesses = are_same-some _ x w.1 in
    let last = last_at-is (LastRead x t) trace j at in
    let reads = (and_parts (is_reading x last.event) (thread_of last.event == t) last.passes).0 in
    ⊎_elim
    (λ unwritten. record {
      place = OfReads x;
      at = j;
      among = inr (beside-has (access_of e.kind) (OfReads x) (accesses, w.0));
      there = (passes_at-is trace (is_reading x) j last.event last.here ∙ reads, unwritten);
      after = inl refl;
    })
    (λ written. record {
      place = OfWrite x;
      at = written.0;
      among = inr (beside-has (access_of e.kind) (OfWrite x) accesses);
      there = written.1;
      after = IsFrom-next trace j j written.0 (inl refl) (read-write trace x j written.0 last.event last.here (are_same-some _ x (and_parts (is_shared (access_of last.event.kind)) _ reads).1) written.1 written.2);
    })
    (last-write trace x j)
