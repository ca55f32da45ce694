-- What is kept of the events before a position, and of one event more.
use Rattle.std.proofs.Common.{Option, None, ap, ◌≡◌, ℕ, ◌+◌, ◌*◌, ◌<◌, ◌≤◌, Bool, true, false, List, [], length, take, replicate, get_or, Some, refl, sym, ◌∙◌, subst, arith, ⊎_elim}
use Rattle.std.specs.Prelude.{◌⊎◌, not, ◌&&◌, ◌||◌, ◌==◌, if◌then◌else◌, slice_get, slice_set, IsTrue, IsFalse}
use Rattle.std.proofs.lemmas.Bool.{cases_Bool, cases_eq, cases_lt, or_left, or_right, le-leb, and_parts, and_from, and_left, both_ways, false_from_ne_true, false≢true, eq-eqb, ne_eqb, eqb-true}
use Rattle.std.proofs.lemmas.Option.{same_Some, none-some, slice_get_within}
use Rattle.std.proofs.lemmas.List.{get_or-replicate, length-replicate, length-take-le, length-set, length_push}
use Rattle.std.proofs.lemmas.List.Sums.{length-filter, count_by-le-length}
use Rattle.velo_events.specs.declared.config.Bounds.{Bounds}
use Rattle.velo_events.specs.declared.event.Event.{Event}
use Rattle.velo_events.specs.declared.event.Kind.{Kind}
use Rattle.velo_events.specs.declared.event.ThreadId.{ThreadId}
use Rattle.velo_events.specs.declared.event.VarId.{VarId}
use Rattle.velo_events.specs.declared.event.Label.{Label}
use Rattle.velo_events.specs.declared.event.Kind.TheVariants.{Read, Write, Acquire, Release, AcquireShared, ReleaseShared, Begin, End, Fork}
use Rattle.velo_events.specs.Event.{are_same, thread_of, variable_of, lock_of, access_of, cell_of, is_exclusive, is_shared, is_by, is_begin, is_end, is_writing, is_reading}
use Rattle.velo_events.specs.Block.{passes_at}
use Rattle.velo_events.specs.Place.{Place, LastWrite, LastRead, is_recorded, last_at}
use Rattle.velo_events.specs.WellFormed.{NamesKnown, MayFollow, IsWellFormed}
use Rattle.velo_events.proofs.OnLast.{last_at-nil, last_at-push, last_at-is, last_at-within}
use Rattle.velo_events.proofs.OnLists.{get_or-set}
use Rattle.velo_events.proofs.OnScans.{take-next, passes_at-is}
use Rattle.velo_events.proofs.OnTraces.{slice_get-take}
use Rattle.velo_events.proofs.OnWellFormed.{IsWellFormed-take}
use Rattle.velo_tables.specs.Clocks.{ClockState, KnowsNothing, AreClocksOf, IsNoted, IsOfThreads, ForksOneOf}
use Rattle.velo_tables.proofs.OnClocks.{opens, reserves, notes}
use Rattle.velo_laws.specs.Ordered.{IsInner}
use Rattle.velo_thinning.specs.declared.sweep.Sweep.{Sweep}
use Rattle.velo_thinning.specs.declared.sweep.LastWrite as written
use Rattle.velo_filter.specs.Tables.{marked}
use Rattle.velo_thinning.specs.Races.{is_synchronizing, synchronizes, is_access_to, IsFreeOfRaces, no_lock}
use Rattle.velo_thinning.specs.Sweep.{stamp_at, synchronizing, stamp_of, is_known, no_write, KnowsWrite, KnowsReads, IsJudged, IsJoined, IsInOrderUpTo, IsLastWrite, IsSwept, IsNotedAfterRoom}
use Rattle.velo_thinning.proofs.OnSynchronizing.{sub-more, sub-same}
use Rattle.velo_thinning.proofs.OnSynchronizedRuns.{well-synchronizing}
use Rattle.velo_thinning.proofs.OnJoined.{known-joined}
use Rattle.velo_thinning.proofs.OnKnown.{each, synchronized-known}
use Rattle.velo_laws.proofs.OnOrderedPlaces.{goes-is, conflict-is}
use Rattle.velo_filter.specs.Left.{is_among}
use Rattle.velo_events.specs.Conflict.{conflict}
use Rattle.velo_events.proofs.OnLookUps.{conflict-cell}

-- ---- by kinds

-- what writes the cell of a variable is no begin or end, and does not synchronize
write_kind : (k : Kind) (x : ℕ) → IsTrue (is_exclusive (access_of k) && are_same (cell_of (access_of k)) (Some (x + x))) → IsTrue (not (is_begin k || is_end k)) × IsFalse (is_synchronizing k)
write_kind (Write y v) x h = (refl, refl)
write_kind (Acquire m) x h = let e = eqb-true (m.0 + m.0 + 1) (x + x) h in absurd (omega (arith, e))
write_kind (Release m) x h = let e = eqb-true (m.0 + m.0 + 1) (x + x) h in absurd (omega (arith, e))
write_kind _ x h = absurd (false≢true h)

read_kind : (k : Kind) (x : ℕ) → IsTrue (is_shared (access_of k) && are_same (cell_of (access_of k)) (Some (x + x))) → IsTrue (not (is_begin k || is_end k)) × IsFalse (is_synchronizing k)
read_kind (Read y v) x h = (refl, refl)
read_kind (AcquireShared m) x h = let e = eqb-true (m.0 + m.0 + 1) (x + x) h in absurd (omega (arith, e))
read_kind (ReleaseShared m) x h = let e = eqb-true (m.0 + m.0 + 1) (x + x) h in absurd (omega (arith, e))
read_kind _ x h = absurd (false≢true h)

-- what is on no variable
abbrev is_quiet : Kind → Bool
is_quiet (Read y v) = false
is_quiet (Write y v) = false
is_quiet _ = true

odd : (m x : ℕ) → IsFalse (m + m + 1 == x + x)
odd m x = ne_eqb (m + m + 1) (x + x) (λ e. omega (arith, e))

quiet-no_write : (k : Kind) (x : ℕ) → IsTrue (is_quiet k) → IsFalse (is_exclusive (access_of k) && are_same (cell_of (access_of k)) (Some (x + x)))
quiet-no_write (Read y v) x h = absurd (false≢true h)
quiet-no_write (Write y v) x h = absurd (false≢true h)
quiet-no_write (Acquire m) x h = odd m.0 x
quiet-no_write (Release m) x h = odd m.0 x
quiet-no_write _ x h = refl

quiet-no_read : (k : Kind) (x : ℕ) → IsTrue (is_quiet k) → IsFalse (is_shared (access_of k) && are_same (cell_of (access_of k)) (Some (x + x)))
quiet-no_read (Read y v) x h = absurd (false≢true h)
quiet-no_read (Write y v) x h = absurd (false≢true h)
quiet-no_read (AcquireShared m) x h = odd m.0 x
quiet-no_read (ReleaseShared m) x h = odd m.0 x
quiet-no_read _ x h = refl

quiet-no_access : (k : Kind) (x : ℕ) → IsTrue (is_quiet k) → IsFalse (are_same (variable_of k) (Some x))
quiet-no_access (Read y v) x h = absurd (false≢true h)
quiet-no_access (Write y v) x h = absurd (false≢true h)
quiet-no_access _ x h = refl

-- ---- marks

-- what is known may be said otherwise, and the lists may stand elsewhere
pub judged-as : (old now new items : List Bool) (x : ℕ) (A B : Type 0) → now ≡ old → items ≡ new → (A → B) → (B → A) → IsJudged now new x A → IsJudged old items x B
judged-as old now new items x A B was is to from judged = subst (λ xs. IsJudged xs items x B) was (subst (λ xs. IsJudged now xs x B) (sym is) (record {
  count = judged.count;
  others = judged.others;
  marked_still = λ marks. let kept = judged.marked_still marks in (kept.0, to kept.1);
  known_still = λ marks b. judged.known_still marks (from b);
}))

-- ---- before the first event

pub swept-new : (log : List Event) (s : Sweep) → s.clocks.count ≡ s.bounds.threads → s.bounds.threads ≤ 64 → KnowsNothing s.clocks → s.count ≡ 0
    → s.writes.items ≡ replicate s.bounds.variables no_write → s.reads.items ≡ replicate (s.bounds.variables * 64) 0 → s.ordered.items ≡ replicate s.bounds.variables true → IsSwept log 0 s
swept-new log s threads few nothing count writes reads ordered = record {
  threads = threads;
  few = few;
  clocks = opens s.clocks [] nothing;
  count = count;
  write_count = ap length writes ∙ length-replicate {A = written.LastWrite} s.bounds.variables no_write;
  read_count = ap length reads ∙ length-replicate {A = ℕ} (s.bounds.variables * 64) 0;
  ordered_count = ap length ordered ∙ length-replicate {A = Bool} s.bounds.variables true;
  writes = λ x within. subst (IsLastWrite log 0 x)
      (sym (ap (λ xs. get_or xs x no_write) writes ∙ get_or-replicate {A = written.LastWrite} s.bounds.variables x no_write no_write (omega (arith, within, length-replicate {A = written.LastWrite} s.bounds.variables no_write))))
      (record { stamp = sym (ap (stamp_of log) (last_at-nil (LastWrite (x + x)))); by = λ m h. absurd (none-some m (sym (last_at-nil (LastWrite (x + x))) ∙ h)) });
  reads = λ x u within small.
      ap (λ xs. get_or xs (x * 64 + u) 0) reads
      ∙ (get_or-replicate {A = ℕ} (s.bounds.variables * 64) (x * 64 + u) 0 0 (omega (arith, within, small, few, length-replicate {A = ℕ} (s.bounds.variables * 64) 0))
      ∙ sym (ap (stamp_of log) (last_at-nil (LastRead (x + x) u))));
  ordered = λ x h. record {
    after_write = λ j m less. absurd (omega (arith, less));
    after_reads = λ j m u less. absurd (omega (arith, less));
  };
  racing = λ x inside h. absurd (both_ways (marked s.ordered.items x) h (ap (λ xs. marked xs x) ordered
      ∙ get_or-replicate {A = Bool} s.bounds.variables x true false (omega (arith, inside, length-replicate {A = Bool} s.bounds.variables true))));
}

-- ---- one event more

module _ (log : List Event) (n : ℕ) (e : Event) (here : slice_get log n ≡ Some e) (within : n < length log) where
  last-next : (p : Place) → last_at p (take (n + 1) log) ≡ (if is_recorded e p then Some n else last_at p (take n log))
  last-next p = ap (last_at p) (take-next log n e here)
      ∙ (last_at-push p (take n log) e ∙ ap (λ k. if is_recorded e p then Some k else last_at p (take n log)) (length-take-le n log (omega (arith, within))))

  last-same : (p : Place) → IsFalse (is_recorded e p) → last_at p (take (n + 1) log) ≡ last_at p (take n log)
  last-same p h = last-next p ∙ ap (λ b. if b then Some n else last_at p (take n log)) h

  last-here : (p : Place) → IsTrue (is_recorded e p) → last_at p (take (n + 1) log) ≡ Some n
  last-here p h = last-next p ∙ ap (λ b. if b then Some n else last_at p (take n log)) h

  written-same : (x : ℕ) (w : written.LastWrite) → IsFalse (is_writing (x + x) e) → IsLastWrite log n x w → IsLastWrite log (n + 1) x w
  written-same x w h old = record {
    stamp = old.stamp ∙ sym (ap (stamp_of log) (last-same (LastWrite (x + x)) h));
    by = λ m last. old.by m (sym (last-same (LastWrite (x + x)) h) ∙ last);
  }

  -- what the accesses of a variable at this position ask for
  record IsJoinedHere (x : ℕ) : Type 0 where
    after_write : (m : ℕ) → IsTrue (is_access_to x e) → last_at (LastWrite (x + x)) (take n log) ≡ Some m → IsJoined log m n
    after_reads : (m u : ℕ) → IsTrue (is_writing (x + x) e) → last_at (LastRead (x + x) u) (take n log) ≡ Some m → IsJoined log m n

  in_order-next : (x : ℕ) → IsInOrderUpTo log n x → IsJoinedHere x → IsInOrderUpTo log (n + 1) x
  in_order-next x old at = record {
    after_write = λ j m less access last. ⊎_elim
        (λ below. old.after_write j m below access last)
        (λ upto. let same : n ≡ j = omega (arith, less, upto) in
        subst (λ k. IsTrue (passes_at log (is_access_to x) k) → last_at (LastWrite (x + x)) (take k log) ≡ Some m → IsJoined log m k) same
        (λ a l. at.after_write m (sym (passes_at-is log (is_access_to x) n e here) ∙ a) l) access last)
        (cases_lt j n);
    after_reads = λ j m u less access last. ⊎_elim
        (λ below. old.after_reads j m u below access last)
        (λ upto. let same : n ≡ j = omega (arith, less, upto) in
        subst (λ k. IsTrue (passes_at log (is_writing (x + x)) k) → last_at (LastRead (x + x) u) (take k log) ≡ Some m → IsJoined log m k) same
        (λ a l. at.after_reads m u (sym (passes_at-is log (is_writing (x + x)) n e here) ∙ a) l) access last)
        (cases_lt j n);
  }

  -- an event that is on no variable asks for nothing
  joined-quiet : IsTrue (is_quiet e.kind) → (x : ℕ) → IsJoinedHere x
  joined-quiet h x = record {
    after_write = λ m access. absurd (both_ways (is_access_to x e) (quiet-no_access e.kind x h) access);
    after_reads = λ m u access. absurd (both_ways (is_writing (x + x) e) (quiet-no_write e.kind x h) access);
  }

  -- nor does one that is on another variable
  module _ (y : ℕ) (on : variable_of e.kind ≡ Some y) (cell : cell_of (access_of e.kind) ≡ Some (y + y)) where
    other_access : (x : ℕ) → IsTrue (is_access_to x e) → x ≡ y
    other_access x h = sym (eqb-true y x (sym (ap (λ o. are_same o (Some x)) on) ∙ h))

    other_writing : (x : ℕ) → IsTrue (is_writing (x + x) e) → x ≡ y
    other_writing x h =
        let k = eqb-true (y + y) (x + x) (sym (ap (λ o. are_same o (Some (x + x))) cell) ∙ (and_parts (is_exclusive (access_of e.kind)) _ h).1) in omega (arith, k)

  module _ (s : Sweep) (old : IsSwept log n s) (inner_e : IsInner log n) where
    module _ (x : ℕ) (inside : x < s.bounds.variables) where
      at-write : KnowsWrite s (thread_of e) x → (m : ℕ) → last_at (LastWrite (x + x)) (take n log) ≡ Some m → IsJoined log m n
      at-write knows m last =
          let w = old.writes x inside in
          let f = last_at-is (LastWrite (x + x)) (take n log) m last in
          let l = last_at-within (LastWrite (x + x)) (take n log) m last in
          let before : m < n = omega (arith, l, length-take-le n log (omega (arith, within))) in
          let at : slice_get log m ≡ Some f.event = sym (slice_get-take log n m before) ∙ f.here in
          let k = write_kind f.event.kind x f.passes in
          known-joined log n e here inner_e within s.clocks old.clocks m (get_or s.writes.items x no_write).by.0 before (w.by m last)
          (passes_at-is log (λ g. not (is_begin g.kind || is_end g.kind)) m f.event at ∙ k.0)
          (passes_at-is log synchronizes m f.event at ∙ k.1)
          (subst (λ i. IsTrue (is_known s.clocks (thread_of e) (get_or s.writes.items x no_write).by.0 i)) (w.stamp ∙ ap (stamp_of log) last) knows)

      at-reads : (bounds : Bounds) → IsWellFormed bounds log → bounds.threads ≡ s.bounds.threads → KnowsReads s (thread_of e) x → (m u : ℕ) → last_at (LastRead (x + x) u) (take n log) ≡ Some m → IsJoined log m n
      at-reads bounds well same knows m u last =
          let f = last_at-is (LastRead (x + x) u) (take n log) m last in
          let l = last_at-within (LastRead (x + x) u) (take n log) m last in
          let before : m < n = omega (arith, l, length-take-le n log (omega (arith, within))) in
          let at : slice_get log m ≡ Some f.event = sym (slice_get-take log n m before) ∙ f.here in
          let p = and_parts (is_reading (x + x) f.event) (thread_of f.event == u) f.passes in
          let k = read_kind f.event.kind x p.0 in
          let known = (well.each m f.event at).known_thread in
          let by = eqb-true (thread_of f.event) u p.1 in
          let small : u < s.bounds.threads = omega (arith, known, by, same) in
          known-joined log n e here inner_e within s.clocks old.clocks m u before
          (passes_at-is log (is_by u) m f.event at ∙ p.1)
          (passes_at-is log (λ g. not (is_begin g.kind || is_end g.kind)) m f.event at ∙ k.0)
          (passes_at-is log synchronizes m f.event at ∙ k.1)
          (subst (λ i. IsTrue (is_known s.clocks (thread_of e) u i)) (old.reads x u inside small ∙ ap (stamp_of log) last) (knows u small))

-- ---- a variable that is free of races stays in order

-- a write of a variable's cell is an access to it
write_on : (k : Kind) (x : ℕ) → IsTrue (is_exclusive (access_of k) && are_same (cell_of (access_of k)) (Some (x + x))) → variable_of k ≡ Some x
write_on (Write y v) x h = let e = eqb-true (y.0 + y.0) (x + x) h in ap (λ k. Some k) (let same : y.0 ≡ x = omega (arith, e) in same)
write_on (Acquire m) x h = let e = eqb-true (m.0 + m.0 + 1) (x + x) h in absurd (omega (arith, e))
write_on (Release m) x h = let e = eqb-true (m.0 + m.0 + 1) (x + x) h in absurd (omega (arith, e))
write_on _ x h = absurd (false≢true h)

read_on : (k : Kind) (x : ℕ) → IsTrue (is_shared (access_of k) && are_same (cell_of (access_of k)) (Some (x + x))) → variable_of k ≡ Some x
read_on (Read y v) x h = let e = eqb-true (y.0 + y.0) (x + x) h in ap (λ k. Some k) (let same : y.0 ≡ x = omega (arith, e) in same)
read_on (AcquireShared m) x h = let e = eqb-true (m.0 + m.0 + 1) (x + x) h in absurd (omega (arith, e))
read_on (ReleaseShared m) x h = let e = eqb-true (m.0 + m.0 + 1) (x + x) h in absurd (omega (arith, e))
read_on _ x h = absurd (false≢true h)

variable_goes : (k : Kind) (x : ℕ) → variable_of k ≡ Some x → IsTrue (is_among no_lock (lock_of k) || is_among each (variable_of k))
variable_goes k x on = or_right (is_among no_lock (lock_of k)) (is_among each (variable_of k)) (ap (is_among each) on)

racing-here : (log : List Event) (n : ℕ) (s t : Sweep) (y : ℕ) → y < s.bounds.variables → (knows : Type 0) → IsJudged s.ordered.items t.ordered.items y knows
    → (IsFalse (marked s.ordered.items y) → ¬ IsFreeOfRaces log y) → (IsFreeOfRaces log y → knows) → IsFalse (marked t.ordered.items y) → ¬ IsFreeOfRaces log y
racing-here log n s t y inside knows judged old known h free = ⊎_elim
    (λ was. both_ways (marked t.ordered.items y) h (judged.known_still was (known free)))
    (λ none. old none free)
    (cases_Bool (marked s.ordered.items y))

module _ (log : List Event) (n : ℕ) (e : Event) (here : slice_get log n ≡ Some e) (within : n < length log) (s : Sweep) (old : IsSwept log n s) (bounds : Bounds) (well : IsWellFormed bounds log)
    (y : ℕ) (inside : y < s.bounds.variables) (on : variable_of e.kind ≡ Some y) (cell : cell_of (access_of e.kind) ≡ Some (y + y)) where
  -- an earlier access is known, where the variable is free of races
  known-access : IsFreeOfRaces log y → (m t : ℕ) (f : Event) → slice_get log m ≡ Some f → m < n → IsTrue (is_by t f) → variable_of f.kind ≡ Some y → IsFalse (is_synchronizing f.kind) → IsTrue (conflict f e)
      → IsTrue (is_known s.clocks (thread_of e) t (stamp_at log m))
  known-access free m t f at before mine on_f no_sync clash =
      let is_access : (k : Kind) → variable_of k ≡ Some y → IsTrue (are_same (variable_of k) (Some y)) = λ k same. ap (λ o. are_same o (Some y)) same ∙ eq-eqb y y refl in
      synchronized-known bounds log well n within e here (goes-is no_lock each log n e here ∙ variable_goes e.kind y on) s.clocks old.clocks m t before
      (passes_at-is log (is_by t) m f at ∙ mine)
      (goes-is no_lock each log m f at ∙ variable_goes f.kind y on_f)
      (passes_at-is log synchronizes m f at ∙ no_sync)
      (free m n (passes_at-is log (is_access_to y) m f at ∙ is_access f.kind on_f) (passes_at-is log (is_access_to y) n e here ∙ is_access e.kind on) (before, conflict-is log m n f e at here ∙ clash))

  same_cell : (f : Event) → IsTrue (are_same (cell_of (access_of f.kind)) (Some (y + y))) → IsTrue (are_same (cell_of (access_of f.kind)) (cell_of (access_of e.kind)))
  same_cell f h = ap (are_same (cell_of (access_of f.kind))) cell ∙ h

  knows-write : IsFreeOfRaces log y → KnowsWrite s (thread_of e) y
  knows-write free = go (last_at (LastWrite (y + y)) (take n log)) refl
    where
      w : IsLastWrite log n y (get_or s.writes.items y no_write)
      w = old.writes y inside

      by : ℕ
      by = (get_or s.writes.items y no_write).by.0

      go : (o : Option ℕ) → last_at (LastWrite (y + y)) (take n log) ≡ o → KnowsWrite s (thread_of e) y
      go None h = or_right (by == thread_of e) _ (le-leb _ _ (let none = w.stamp ∙ ap (stamp_of log) h in omega (arith, none)))
      go (Some m) h =
          let f = last_at-is (LastWrite (y + y)) (take n log) m h in
          let l = last_at-within (LastWrite (y + y)) (take n log) m h in
          let before : m < n = omega (arith, l, length-take-le n log (omega (arith, within))) in
          let at : slice_get log m ≡ Some f.event = sym (slice_get-take log n m before) ∙ f.here in
          let p = and_parts (is_exclusive (access_of f.event.kind)) (are_same (cell_of (access_of f.event.kind)) (Some (y + y))) f.passes in
          subst (λ i. IsTrue (is_known s.clocks (thread_of e) by i)) (sym (w.stamp ∙ ap (stamp_of log) h))
          (known-access free m by f.event at before (sym (passes_at-is log (is_by by) m f.event at) ∙ w.by m h) (write_on f.event.kind y f.passes) (write_kind f.event.kind y f.passes).1
          (conflict-cell f.event e (same_cell f.event p.1) (or_left _ _ p.0)))

  knows-reads : IsTrue (is_exclusive (access_of e.kind)) → IsFreeOfRaces log y → KnowsReads s (thread_of e) y
  knows-reads exclusive free u small = go (last_at (LastRead (y + y) u) (take n log)) refl
    where
      go : (o : Option ℕ) → last_at (LastRead (y + y) u) (take n log) ≡ o → IsTrue (is_known s.clocks (thread_of e) u (get_or s.reads.items (y * 64 + u) 0))
      go None h = or_right (u == thread_of e) _ (le-leb _ _ (let none = old.reads y u inside small ∙ ap (stamp_of log) h in omega (arith, none)))
      go (Some m) h =
          let f = last_at-is (LastRead (y + y) u) (take n log) m h in
          let l = last_at-within (LastRead (y + y) u) (take n log) m h in
          let before : m < n = omega (arith, l, length-take-le n log (omega (arith, within))) in
          let at : slice_get log m ≡ Some f.event = sym (slice_get-take log n m before) ∙ f.here in
          let q = and_parts (is_reading (y + y) f.event) (thread_of f.event == u) f.passes in
          let p = and_parts (is_shared (access_of f.event.kind)) (are_same (cell_of (access_of f.event.kind)) (Some (y + y))) q.0 in
          subst (λ i. IsTrue (is_known s.clocks (thread_of e) u i)) (sym (old.reads y u inside small ∙ ap (stamp_of log) h))
          (known-access free m u f.event at before q.1 (read_on f.event.kind y q.0) (read_kind f.event.kind y q.0).1
          (conflict-cell f.event e (same_cell f.event p.1) (or_right (is_exclusive (access_of f.event.kind)) _ exclusive)))

-- ---- what the code asks for

-- no more events synchronize than there are
pub swept-count : (log : List Event) (n : ℕ) (s : Sweep) → n ≤ length log → IsSwept log n s → s.count ≤ n
swept-count log n s upto old =
    let long = length-filter synchronizes (take n log) in
    let most = count_by-le-length synchronizes (take n log) in
    let short = length-take-le n log upto in
    let count = old.count in
    omega (arith, count, long, most, short)

-- what is none of these synchronizes, and is on no variable
pub kinds_left : (k : Kind) → ((x : VarId) (v : ℕ) → k ≡ Read x v → ⊥) → ((x : VarId) (v : ℕ) → k ≡ Write x v → ⊥) → ((l : Label) → k ≡ Begin l → ⊥) → (k ≡ End → ⊥) → IsTrue (is_quiet k) × IsTrue (is_synchronizing k)
kinds_left (Read x v) a b c d = absurd (a x v refl)
kinds_left (Write x v) a b c d = absurd (b x v refl)
kinds_left (Begin l) a b c d = absurd (c l refl)
kinds_left End a b c d = absurd (d refl)
kinds_left _ a b c d = (refl, refl)

-- nor do a begin and an end, which synchronize nothing
pub block_kinds : (k : Kind) → ((l : Label) × (k ≡ Begin l)) ⊎ (k ≡ End) → IsTrue (is_quiet k) × IsFalse (is_synchronizing k)
block_kinds k h = ⊎_elim
    (λ w. (ap is_quiet w.1, ap is_synchronizing w.1))
    (λ e. (ap is_quiet e, ap is_synchronizing e)) h

-- the clocks have a place for each thread of an event
pub of_threads : (bounds : Bounds) (log : List Event) (n : ℕ) (e : Event) → MayFollow bounds (take n log) e → IsOfThreads bounds.threads e
of_threads bounds log n e may = record { own = may.known_thread; forked = forked e.kind may.known_names }
  where
    forked : (k : Kind) → NamesKnown bounds k → ForksOneOf bounds.threads (access_of k)
    forked (Fork u) known = known
    forked _ known = tt

-- ---- by the kind of the event

-- an event of a block is on nothing
pub swept-block : (log : List Event) (n : ℕ) (e : Event) → slice_get log n ≡ Some e → IsTrue (is_quiet e.kind) → IsFalse (synchronizes e) → (s : Sweep) → IsSwept log n s → IsSwept log (n + 1) s
swept-block log n e here quiet doesnt s old =
    let within = slice_get_within log n e here in
    let same = sub-same log n e here doesnt in
    record {
      threads = old.threads;
      few = old.few;
      clocks = subst (AreClocksOf s.clocks) (sym same) old.clocks;
      count = old.count ∙ ap length (sym same);
      write_count = old.write_count;
      read_count = old.read_count;
      ordered_count = old.ordered_count;
      writes = λ x inside. written-same log n e here within x _ (quiet-no_write e.kind x quiet) (old.writes x inside);
      reads = λ x u inside small.
          old.reads x u inside small ∙ sym (ap (stamp_of log) (last-same log n e here within (LastRead (x + x) u) (and_left _ _ (quiet-no_read e.kind x quiet))));
      ordered = λ x h. in_order-next log n e here within x (old.ordered x h) (joined-quiet log n e here within quiet x);
      racing = old.racing;
    }

-- one that synchronizes is noted by the clocks
pub swept-synchronizing : (log : List Event) (n : ℕ) (e : Event) → slice_get log n ≡ Some e → IsTrue (is_quiet e.kind) → IsTrue (synchronizes e) → (s t : Sweep) → IsWellFormed s.bounds log → IsSwept log n s
    → t.bounds ≡ s.bounds → IsNotedAfterRoom s.clocks s.count e t.clocks → t.count ≡ s.count + 1 → t.writes.items ≡ s.writes.items → t.reads.items ≡ s.reads.items → t.ordered.items ≡ s.ordered.items
    → IsSwept log (n + 1) t
swept-synchronizing log n e here quiet does s t well old bounds noted count writes reads ordered =
    let within = slice_get_within log n e here in
    let more = sub-more log n e here does in
    let runs : IsWellFormed s.bounds (synchronizing (take (n + 1) log)) = well-synchronizing s.bounds (take (n + 1) log) (IsWellFormed-take s.bounds log (n + 1) (omega (arith, within)) well) in
    let threads = ap (λ (b : Bounds). b.threads) bounds in
    let variables = ap (λ (b : Bounds). b.variables) bounds in
    record {
      threads = noted.threads ∙ (old.threads ∙ sym threads);
      few = omega (arith, old.few, threads);
      clocks = subst (AreClocksOf t.clocks) (sym more)
          (notes 0 s.bounds noted.between t.clocks (synchronizing (take n log)) e old.few (subst (IsWellFormed s.bounds) more runs)
          (reserves 0 s.clocks noted.between (synchronizing (take n log)) noted.same old.clocks)
          (subst (λ k. IsNoted noted.between k e t.clocks) old.count noted.noted));
      count = let long = ap length more in let push = length_push (synchronizing (take n log)) e in let was = old.count in omega (arith, count, long, push, was);
      write_count = ap length writes ∙ (old.write_count ∙ sym variables);
      read_count = ap length reads ∙ (old.read_count ∙ sym (ap (λ v. v * 64) variables));
      ordered_count = ap length ordered ∙ (old.ordered_count ∙ sym variables);
      writes = λ x inside. subst (IsLastWrite log (n + 1) x) (ap (λ xs. get_or xs x no_write) (sym writes))
          (written-same log n e here within x _ (quiet-no_write e.kind x quiet) (old.writes x (omega (arith, inside, variables))));
      reads = λ x u inside small.
          ap (λ xs. get_or xs (x * 64 + u) 0) reads
          ∙ (old.reads x u (omega (arith, inside, variables)) (omega (arith, small, threads))
          ∙ sym (ap (stamp_of log) (last-same log n e here within (LastRead (x + x) u) (and_left _ _ (quiet-no_read e.kind x quiet)))));
      ordered = λ x h. in_order-next log n e here within x (old.ordered x (ap (λ xs. marked xs x) (sym ordered) ∙ h)) (joined-quiet log n e here within quiet x);
      racing = λ x inside h. old.racing x (omega (arith, inside, variables)) (ap (λ xs. marked xs x) (sym ordered) ∙ h);
    }

-- a read has its stamp
pub swept-read : (log : List Event) (n y v : ℕ) (th : ThreadId) → slice_get log n ≡ Some (record { thread = th; kind = Read (record { 0 = y }) v }) → (s t : Sweep) → IsWellFormed s.bounds log → IsSwept log n s
    → t.bounds ≡ s.bounds → t.clocks ≡ s.clocks → t.count ≡ s.count → t.writes.items ≡ s.writes.items → t.reads.items ≡ slice_set s.reads.items (y * 64 + th.0) (s.count + 1)
    → IsJudged s.ordered.items t.ordered.items y (KnowsWrite s th.0 y) → IsSwept log (n + 1) t
swept-read log n y v th here s t well old bounds clocks count writes reads ordered = record {
  threads = ap (λ (c : ClockState). c.count) clocks ∙ (old.threads ∙ sym threads);
  few = omega (arith, old.few, threads);
  clocks = subst (AreClocksOf t.clocks) (sym same) (subst (λ c. AreClocksOf c (synchronizing (take n log))) (sym clocks) old.clocks);
  count = count ∙ (old.count ∙ ap length (sym same));
  write_count = ap length writes ∙ (old.write_count ∙ sym variables);
  read_count = ap length reads ∙ (length-set s.reads.items (y * 64 + th.0) (s.count + 1) ∙ (old.read_count ∙ sym (ap (λ k. k * 64) variables)));
  ordered_count = ordered.count ∙ (old.ordered_count ∙ sym variables);
  writes = λ x inside. subst (IsLastWrite log (n + 1) x) (ap (λ xs. get_or xs x no_write) (sym writes)) (written-same log n e here within x _ refl (old.writes x (omega (arith, inside, variables))));
  reads = λ x u inside small. ap (λ xs. get_or xs (x * 64 + u) 0) reads ∙ (get_or-set s.reads.items (y * 64 + th.0) (x * 64 + u) (s.count + 1) 0 room ∙ read x u (omega (arith, inside, variables)) (omega (arith, small, threads)));
  ordered = λ x h. ⊎_elim
      (λ at.
      let w = ordered.marked_still (subst (λ k. IsTrue (marked t.ordered.items k)) at h) in
      subst (IsInOrderUpTo log (n + 1)) (sym at) (in_order-next log n e here within y (old.ordered y w.0) (record {
        after_write = λ m access last. at-write log n e here within s old inner_e y inside_y w.1 m last;
        after_reads = λ m u access. absurd (false≢true access);
      })))
      (λ other. in_order-next log n e here within x (old.ordered x (sym (ordered.others x other) ∙ h)) (record {
        after_write = λ m access. absurd (other (other_access log n e here within y refl refl x access));
        after_reads = λ m u access. absurd (false≢true access);
      }))
      (cases_eq x y);
  racing = λ x inside h. ⊎_elim
      (λ at. subst (λ k. ¬ IsFreeOfRaces log k) (sym at) (racing-here log n s t y inside_y (KnowsWrite s th.0 y) ordered (old.racing y inside_y) (λ free. knows-write log n e here within s old s.bounds well y inside_y refl refl free) (subst (λ k. IsFalse (marked t.ordered.items k)) at h)))
      (λ other. old.racing x (omega (arith, inside, variables)) (sym (ordered.others x other) ∙ h))
      (cases_eq x y);
}
  where
    e : Event
    e = record { thread = th; kind = Read (record { 0 = y }) v }

    within : n < length log
    within = slice_get_within log n e here

    may : MayFollow s.bounds (take n log) e
    may = well.each n e here

    inside_y : y < s.bounds.variables
    inside_y = may.known_names

    same : synchronizing (take (n + 1) log) ≡ synchronizing (take n log)
    same = sub-same log n e here refl

    threads : t.bounds.threads ≡ s.bounds.threads
    threads = ap (λ (b : Bounds). b.threads) bounds

    variables : t.bounds.variables ≡ s.bounds.variables
    variables = ap (λ (b : Bounds). b.variables) bounds

    inner_e : IsInner log n
    inner_e = passes_at-is log (λ g. not (is_begin g.kind || is_end g.kind)) n e here

    small_t : th.0 < s.bounds.threads
    small_t = may.known_thread

    room : y * 64 + th.0 < length s.reads.items
    room = omega (arith, inside_y, small_t, old.few, old.read_count)

    read : (x u : ℕ) → x < s.bounds.variables → u < s.bounds.threads → (if y * 64 + th.0 == x * 64 + u then s.count + 1 else get_or s.reads.items (x * 64 + u) 0) ≡ stamp_of log (last_at (LastRead (x + x) u) (take (n + 1) log))
    read x u inside small = ⊎_elim
        (λ at.
        let few = old.few in
        let x_is : y ≡ x = omega (arith, at, small, small_t, few) in
        let u_is : th.0 ≡ u = omega (arith, at, x_is) in
        ap (λ b. if b then s.count + 1 else get_or s.reads.items (x * 64 + u) 0) (eq-eqb (y * 64 + th.0) (x * 64 + u) at)
        ∙ (ap (λ k. k + 1) old.count
        ∙ sym (ap (stamp_of log) (last-here log n e here within (LastRead (x + x) u) (and_from _ _ (eq-eqb (y + y) (x + x) (omega (arith, x_is))) (eq-eqb th.0 u u_is))))))
        (λ other.
        ap (λ b. if b then s.count + 1 else get_or s.reads.items (x * 64 + u) 0) (ne_eqb (y * 64 + th.0) (x * 64 + u) other)
        ∙ (old.reads x u inside small
        ∙ sym (ap (stamp_of log) (last-same log n e here within (LastRead (x + x) u) (false_from_ne_true _ (λ h.
        let p = and_parts (y + y == x + x) (th.0 == u) h in
        let a = eqb-true (y + y) (x + x) p.0 in
        let b = eqb-true th.0 u p.1 in
        other (omega (arith, a, b))))))))
        (cases_eq (y * 64 + th.0) (x * 64 + u))

-- a write is the last one
pub swept-write : (log : List Event) (n y v : ℕ) (th : ThreadId) → slice_get log n ≡ Some (record { thread = th; kind = Write (record { 0 = y }) v }) → (s t : Sweep) → IsWellFormed s.bounds log → IsSwept log n s
    → t.bounds ≡ s.bounds → t.clocks ≡ s.clocks → t.count ≡ s.count → t.writes.items ≡ slice_set s.writes.items y (record { by = th; stamp = s.count + 1 }) → t.reads.items ≡ s.reads.items
    → IsJudged s.ordered.items t.ordered.items y (KnowsWrite s th.0 y × KnowsReads s th.0 y) → IsSwept log (n + 1) t
swept-write log n y v th here s t well old bounds clocks count writes reads ordered = record {
  threads = ap (λ (c : ClockState). c.count) clocks ∙ (old.threads ∙ sym threads);
  few = omega (arith, old.few, threads);
  clocks = subst (AreClocksOf t.clocks) (sym same) (subst (λ c. AreClocksOf c (synchronizing (take n log))) (sym clocks) old.clocks);
  count = count ∙ (old.count ∙ ap length (sym same));
  write_count = ap length writes ∙ (length-set s.writes.items y now ∙ (old.write_count ∙ sym variables));
  read_count = ap length reads ∙ (old.read_count ∙ sym (ap (λ k. k * 64) variables));
  ordered_count = ordered.count ∙ (old.ordered_count ∙ sym variables);
  writes = λ x inside. subst (IsLastWrite log (n + 1) x) (sym (ap (λ xs. get_or xs x no_write) writes ∙ get_or-set s.writes.items y x now no_write room)) (write x (omega (arith, inside, variables)));
  reads = λ x u inside small.
      ap (λ xs. get_or xs (x * 64 + u) 0) reads
      ∙ (old.reads x u (omega (arith, inside, variables)) (omega (arith, small, threads)) ∙ sym (ap (stamp_of log) (last-same log n e here within (LastRead (x + x) u) refl)));
  ordered = λ x h. ⊎_elim
      (λ at.
      let w = ordered.marked_still (subst (λ k. IsTrue (marked t.ordered.items k)) at h) in
      subst (IsInOrderUpTo log (n + 1)) (sym at) (in_order-next log n e here within y (old.ordered y w.0) (record {
        after_write = λ m access last. at-write log n e here within s old inner_e y inside_y w.1.0 m last;
        after_reads = λ m u access last. at-reads log n e here within s old inner_e y inside_y s.bounds well refl w.1.1 m u last;
      })))
      (λ other. in_order-next log n e here within x (old.ordered x (sym (ordered.others x other) ∙ h)) (record {
        after_write = λ m access. absurd (other (other_access log n e here within y refl refl x access));
        after_reads = λ m u access. absurd (other (other_writing log n e here within y refl refl x access));
      }))
      (cases_eq x y);
  racing = λ x inside h. ⊎_elim
      (λ at. subst (λ k. ¬ IsFreeOfRaces log k) (sym at) (racing-here log n s t y inside_y (KnowsWrite s th.0 y × KnowsReads s th.0 y) ordered (old.racing y inside_y) (λ free. (knows-write log n e here within s old s.bounds well y inside_y refl refl free, knows-reads log n e here within s old s.bounds well y inside_y refl refl refl free)) (subst (λ k. IsFalse (marked t.ordered.items k)) at h)))
      (λ other. old.racing x (omega (arith, inside, variables)) (sym (ordered.others x other) ∙ h))
      (cases_eq x y);
}
  where
    e : Event
    e = record { thread = th; kind = Write (record { 0 = y }) v }

    now : written.LastWrite
    now = record { by = th; stamp = s.count + 1 }

    within : n < length log
    within = slice_get_within log n e here

    may : MayFollow s.bounds (take n log) e
    may = well.each n e here

    inside_y : y < s.bounds.variables
    inside_y = may.known_names

    same : synchronizing (take (n + 1) log) ≡ synchronizing (take n log)
    same = sub-same log n e here refl

    threads : t.bounds.threads ≡ s.bounds.threads
    threads = ap (λ (b : Bounds). b.threads) bounds

    variables : t.bounds.variables ≡ s.bounds.variables
    variables = ap (λ (b : Bounds). b.variables) bounds

    inner_e : IsInner log n
    inner_e = passes_at-is log (λ g. not (is_begin g.kind || is_end g.kind)) n e here

    room : y < length s.writes.items
    room = omega (arith, inside_y, old.write_count)

    write : (x : ℕ) → x < s.bounds.variables → IsLastWrite log (n + 1) x (if y == x then now else get_or s.writes.items x no_write)
    write x inside = ⊎_elim
        (λ at.
        let last = last-here log n e here within (LastWrite (x + x)) (eq-eqb (y + y) (x + x) (omega (arith, at))) in
        subst (IsLastWrite log (n + 1) x) (sym (ap (λ b. if b then now else get_or s.writes.items x no_write) (eq-eqb y x at))) (record {
          stamp = ap (λ k. k + 1) old.count ∙ sym (ap (stamp_of log) last);
          by = λ m h. let m_is = same_Some n m (sym last ∙ h) in subst (λ k. IsTrue (passes_at log (is_by th.0) k)) m_is (passes_at-is log (is_by th.0) n e here ∙ eq-eqb th.0 th.0 refl);
        }))
        (λ other.
        subst (IsLastWrite log (n + 1) x) (sym (ap (λ b. if b then now else get_or s.writes.items x no_write) (ne_eqb y x other)))
        (written-same log n e here within x _ (ne_eqb (y + y) (x + x) (λ k. other (omega (arith, k)))) (old.writes x inside)))
        (cases_eq y x)
