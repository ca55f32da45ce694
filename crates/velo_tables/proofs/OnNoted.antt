-- What the clocks have after an event was noted, place by place.
use Rattle.std.proofs.Common.{◌≡◌, ℕ, ◌+◌, ◌<◌, ◌≤◌, max, Bool, true, false, List, ◌∷◌, length, map, get_or, refl, sym, ap, ◌∙◌, subst, arith, ⊎_elim}
use Rattle.std.specs.Prelude.{◌==◌, ◌||◌, if◌then◌else◌, replicate}
use Rattle.std.proofs.Math.ListN.{set}
use Rattle.std.proofs.lemmas.Bool.{cases_eq, ne_eqb, eq-eqb}
use Rattle.std.proofs.lemmas.List.{get_or-set_same, get_or-set_other, length-set}
use Rattle.velo_events.specs.declared.event.Event.{Event}
use Rattle.velo_events.specs.declared.event.Access.{Access}
use Rattle.velo_events.specs.declared.event.Access.TheVariants.{Shared, Exclusive, Nothing}
use Rattle.velo_events.specs.declared.event.Cell.{Cell}
use Rattle.velo_events.specs.declared.event.ThreadId.{ThreadId}
use Rattle.velo_events.specs.Event.{thread_of, access_of}
use Rattle.velo_events.proofs.OnFilling.{get_or-blanks}
use Rattle.velo_tables.specs.Clocks.{ClockState, ClockPlace, OfLast, OfWrite, OfReads, PlaceNumbers, IsNoted, row_of, number_at, known_at, by_others_at, clock_of, beside, greatest_of, stays, is_noted, is_cleared, HasRow}
use Rattle.velo_tables.specs.ClockRows.{maxima, IsWritten, IsNotedBy, is_noted_by, is_cleared_by}
use Rattle.velo_tables.proofs.OnRaised.{length-raised, get_or-raised}
use Rattle.velo_tables.proofs.OnRows.{row-long}

-- ---- one row

-- each number after a row was written
written-number : (n : ℕ) (old : List ℕ) (i : ℕ) (list new : List ℕ) → IsWritten n old i list new → (j u : ℕ) → get_or (row_of n new j) u 0 ≡ (if i == j then get_or list u 0 else get_or (row_of n old j) u 0)
written-number n old i list new is j u = ⊎_elim
    (λ at. ap (λ k. get_or (row_of n new k) u 0) (sym at) ∙ (ap (λ xs. get_or xs u 0) is.here ∙ ap (λ b. if b then get_or list u 0 else get_or (row_of n old j) u 0) (sym (eq-eqb i j at))))
    (λ off. ap (λ xs. get_or xs u 0) (is.others j off) ∙ ap (λ b. if b then get_or list u 0 else get_or (row_of n old j) u 0) (sym (ne_eqb i j off)))
    (cases_eq i j)

most : (v : ℕ) → v ≡ max 0 v
most v = omega arith

or_false : (b : Bool) (v w : ℕ) → (if b then v else w) ≡ (if b || false then max 0 v else w)
or_false true v w = most v
or_false false v w = refl

or_either : (a b : Bool) (v w : ℕ) → (if b then v else (if a then v else w)) ≡ (if a || b then max 0 v else w)
or_either true true v w = most v
or_either true false v w = most v
or_either false true v w = most v
or_either false false v w = refl

-- ---- the places, by the access

module _ (n : ℕ) (old : PlaceNumbers) (clock : List ℕ) (by : ℕ) (long : length clock ≡ n) (threads : List ℕ) (own : IsWritten n old.threads by clock threads) where
  own-number : (t u : ℕ) → get_or (row_of n threads t) u 0 ≡ (if (by == t) || false then max 0 (get_or clock u 0) else get_or (row_of n old.threads t) u 0)
  own-number t u = written-number n old.threads by clock threads own t u ∙ or_false (by == t) (get_or clock u 0) (get_or (row_of n old.threads t) u 0)

  pub noted-nothing : IsNotedBy n old clock by Nothing (record { threads = threads; writes = old.writes; reads = old.reads })
  noted-nothing = record { each = number; threads = own.long; writes = refl; reads = refl }
    where
      number : (p : ClockPlace) (u : ℕ) → number_at n (record { threads = threads; writes = old.writes; reads = old.reads }) p u
          ≡ (if is_noted_by by Nothing p then max (stays p (number_at n old p u)) (get_or clock u 0) else (if is_cleared_by Nothing p then 0 else number_at n old p u))
      number (OfLast t) u = own-number t u
      number (OfWrite x) u = refl
      number (OfReads x) u = refl

  pub noted-join : (w : ThreadId) → IsNotedBy n old clock by (Access.Join w) (record { threads = threads; writes = old.writes; reads = old.reads })
  noted-join w = record { each = number; threads = own.long; writes = refl; reads = refl }
    where
      number : (p : ClockPlace) (u : ℕ) → number_at n (record { threads = threads; writes = old.writes; reads = old.reads }) p u
          ≡ (if is_noted_by by (Access.Join w) p then max (stays p (number_at n old p u)) (get_or clock u 0) else (if is_cleared_by (Access.Join w) p then 0 else number_at n old p u))
      number (OfLast t) u = own-number t u
      number (OfWrite x) u = refl
      number (OfReads x) u = refl

  pub noted-fork : (w : ThreadId) (more : List ℕ) → IsWritten n threads w.0 clock more → IsNotedBy n old clock by (Access.Fork w) (record { threads = more; writes = old.writes; reads = old.reads })
  noted-fork w more forked = record { each = number; threads = forked.long ∙ own.long; writes = refl; reads = refl }
    where
      number : (p : ClockPlace) (u : ℕ) → number_at n (record { threads = more; writes = old.writes; reads = old.reads }) p u
          ≡ (if is_noted_by by (Access.Fork w) p then max (stays p (number_at n old p u)) (get_or clock u 0) else (if is_cleared_by (Access.Fork w) p then 0 else number_at n old p u))
      number (OfLast t) u =
          written-number n threads w.0 clock more forked t u
          ∙ (ap (λ m. if w.0 == t then get_or clock u 0 else m) (written-number n old.threads by clock threads own t u)
          ∙ or_either (by == t) (w.0 == t) (get_or clock u 0) (get_or (row_of n old.threads t) u 0))
      number (OfWrite x) u = refl
      number (OfReads x) u = refl

  pub noted-shared : (c : Cell) (reads : List ℕ) → HasRow n old.reads c.0 → IsWritten n old.reads c.0 (maxima (row_of n old.reads c.0) clock) reads → IsNotedBy n old clock by (Shared c) (record { threads = threads; writes = old.writes; reads = reads })
  noted-shared c reads there read = record { each = number; threads = own.long; writes = refl; reads = read.long }
    where
      number : (p : ClockPlace) (u : ℕ) → number_at n (record { threads = threads; writes = old.writes; reads = reads }) p u
          ≡ (if is_noted_by by (Shared c) p then max (stays p (number_at n old p u)) (get_or clock u 0) else (if is_cleared_by (Shared c) p then 0 else number_at n old p u))
      number (OfLast t) u = own-number t u
      number (OfWrite x) u = refl
      number (OfReads x) u =
          written-number n old.reads c.0 (maxima (row_of n old.reads c.0) clock) reads read x u
          ∙ (ap (λ m. if c.0 == x then m else get_or (row_of n old.reads x) u 0) (get_or-raised (row_of n old.reads c.0) clock u (omega (arith, long, row-long n old.reads c.0 there)))
          ∙ ⊎_elim
          (λ at. ap (λ k. if c.0 == x then max (get_or (row_of n old.reads k) u 0) (get_or clock u 0) else get_or (row_of n old.reads x) u 0) at)
          (λ off. ap (λ b. if b then max (get_or (row_of n old.reads c.0) u 0) (get_or clock u 0) else get_or (row_of n old.reads x) u 0) (ne_eqb c.0 x off)
          ∙ ap (λ b. if b then max (get_or (row_of n old.reads x) u 0) (get_or clock u 0) else get_or (row_of n old.reads x) u 0) (sym (ne_eqb c.0 x off)))
          (cases_eq c.0 x))

  pub noted-exclusive : (c : Cell) (writes reads zeros : List ℕ) → zeros ≡ replicate n 0 → IsWritten n old.writes c.0 clock writes → IsWritten n old.reads c.0 zeros reads → IsNotedBy n old clock by (Exclusive c) (record { threads = threads; writes = writes; reads = reads })
  noted-exclusive c writes reads zeros blank written cleared = record { each = number; threads = own.long; writes = written.long; reads = cleared.long }
    where
      number : (p : ClockPlace) (u : ℕ) → number_at n (record { threads = threads; writes = writes; reads = reads }) p u
          ≡ (if is_noted_by by (Exclusive c) p then max (stays p (number_at n old p u)) (get_or clock u 0) else (if is_cleared_by (Exclusive c) p then 0 else number_at n old p u))
      number (OfLast t) u = own-number t u
      number (OfWrite x) u = written-number n old.writes c.0 clock writes written x u ∙ ap (λ m. if c.0 == x then m else get_or (row_of n old.writes x) u 0) (most (get_or clock u 0))
      number (OfReads x) u = written-number n old.reads c.0 zeros reads cleared x u
          ∙ ap (λ m. if c.0 == x then m else get_or (row_of n old.reads x) u 0) (ap (λ xs. get_or xs u 0) blank ∙ get_or-blanks 0 n u)

-- ---- what an event joins to the clock of its thread

module _ (n : ℕ) (own : List ℕ) (long : length own ≡ n) (other : List ℕ) (short : length other ≤ n) (clock row new : List ℕ) (is_clock : clock ≡ own) (is_row : row ≡ other) (is_new : new ≡ maxima clock row) where
  joined : new ≡ maxima own other
  joined = is_new ∙ (ap (λ xs. maxima xs row) is_clock ∙ ap (maxima own) is_row)

  pub joined-one : (u : ℕ) → get_or new u 0 ≡ max (get_or own u 0) (max (get_or other u 0) 0)
  joined-one u = ap (λ xs. get_or xs u 0) joined ∙ omega (arith, get_or-raised own other u (omega (arith, long, short)))

  pub joined-two : (third : List ℕ) → length third ≤ n → (last more : List ℕ) → last ≡ third → more ≡ maxima new last → (u : ℕ) → get_or more u 0 ≡ max (get_or own u 0) (max (get_or other u 0) (max (get_or third u 0) 0))
  joined-two third few last more is_last is_more u =
      ap (λ xs. get_or xs u 0) (is_more ∙ ap (maxima new) is_last)
      ∙ omega (arith, get_or-raised new third u (omega (arith, ap length joined, length-raised own other, long, few)), joined-one u)

-- ---- the event

noted-by : (e : Event) (p : ClockPlace) → is_noted_by (thread_of e) (access_of e.kind) p ≡ is_noted e p
noted-by e (OfLast t) = refl
noted-by e (OfWrite c) = refl
noted-by e (OfReads c) = refl

cleared-by : (e : Event) (p : ClockPlace) → is_cleared_by (access_of e.kind) p ≡ is_cleared e p
cleared-by e (OfLast t) = refl
cleared-by e (OfWrite c) = refl
cleared-by e (OfReads c) = refl

-- by what each number is, it is that of `IsNoted`
as-noted : (e : Event) (p : ClockPlace) (now old v w : ℕ) → v ≡ w
    → now ≡ (if is_noted_by (thread_of e) (access_of e.kind) p then max (stays p old) v else (if is_cleared_by (access_of e.kind) p then 0 else old))
    → now ≡ (if is_noted e p then max (stays p old) w else (if is_cleared e p then 0 else old))
as-noted e p now old v w same is =
    is
    ∙ (ap (λ m. if is_noted_by (thread_of e) (access_of e.kind) p then max (stays p old) m else (if is_cleared_by (access_of e.kind) p then 0 else old)) same
    ∙ (ap (λ b. if b then max (stays p old) w else (if is_cleared_by (access_of e.kind) p then 0 else old)) (noted-by e p)
    ∙ ap (λ b. if is_noted e p then max (stays p old) w else (if b then 0 else old)) (cleared-by e p)))

module _ (s : ClockState) (position : ℕ) (e : Event) (joined : List ℕ) (own : thread_of e < s.count) (long : length joined ≡ s.count)
    (is : (u : ℕ) → get_or joined u 0 ≡ greatest_of (map (λ p. known_at s p u) (OfLast (thread_of e) ∷ beside (access_of e.kind)))) where
  abbrev foreign : List ℕ
  foreign = set joined (thread_of e) 0

  abbrev whole : List ℕ
  whole = set foreign (thread_of e) (position + 1)

  foreign-number : (u : ℕ) → get_or foreign u 0 ≡ (if u == thread_of e then 0 else clock_of s position e u)
  foreign-number u = ⊎_elim
      (λ at. ap (λ k. get_or foreign k 0) at
      ∙ (get_or-set_same joined (thread_of e) 0 0 (omega (arith, long, own)) ∙ ap (λ b. if b then 0 else clock_of s position e u) (sym (eq-eqb u (thread_of e) at))))
      (λ off. get_or-set_other joined (thread_of e) u 0 0 off
      ∙ (is u
      ∙ (ap (λ b. if b then position + 1 else greatest_of (map (λ p. known_at s p u) (OfLast (thread_of e) ∷ beside (access_of e.kind)))) (sym (ne_eqb u (thread_of e) off))
      ∙ ap (λ b. if b then 0 else clock_of s position e u) (sym (ne_eqb u (thread_of e) off)))))
      (cases_eq u (thread_of e))

  whole-number : (u : ℕ) → get_or whole u 0 ≡ clock_of s position e u
  whole-number u = ⊎_elim
      (λ at. ap (λ k. get_or whole k 0) at
      ∙ (get_or-set_same foreign (thread_of e) (position + 1) 0 (omega (arith, length-set joined (thread_of e) 0, long, own))
      ∙ ap (λ b. if b then position + 1 else greatest_of (map (λ p. known_at s p u) (OfLast (thread_of e) ∷ beside (access_of e.kind)))) (sym (eq-eqb u (thread_of e) at))))
      (λ off. get_or-set_other foreign (thread_of e) u (position + 1) 0 off
      ∙ (foreign-number u ∙ ap (λ b. if b then 0 else clock_of s position e u) (ne_eqb u (thread_of e) off)))
      (cases_eq u (thread_of e))

  pub IsNoted-noted : (known by_others : PlaceNumbers) (first second : List ℕ) → first ≡ foreign → second ≡ set first (thread_of e) (position + 1)
      → IsNotedBy s.count s.by_others first (thread_of e) (access_of e.kind) by_others → IsNotedBy s.count s.known second (thread_of e) (access_of e.kind) known
      → IsNoted s position e (record { count = s.count; known = known; by_others = by_others })
  IsNoted-noted known by_others first second is_first is_second others all = record {
    known = λ p u. as-noted e p (number_at s.count known p u) (known_at s p u) (get_or second u 0) (clock_of s position e u)
        (ap (λ xs. get_or xs u 0) (is_second ∙ ap (λ xs. set xs (thread_of e) (position + 1)) is_first) ∙ whole-number u) (all.each p u);
    by_others = λ p u. as-noted e p (number_at s.count by_others p u) (by_others_at s p u) (get_or first u 0) (if u == thread_of e then 0 else clock_of s position e u)
        (ap (λ xs. get_or xs u 0) is_first ∙ foreign-number u) (others.each p u);
  }

-- so it is where the list of the clock is lent out, and written twice
module _ (s : ClockState) (position : ℕ) (e : Event) (a : Access) (is_access : a ≡ access_of e.kind) (own : thread_of e < s.count)
    (before joined back first second : List ℕ) (all_long : length before ≡ s.count) (long : length joined ≡ length before)
    (is : (u : ℕ) → get_or joined u 0 ≡ greatest_of (map (λ p. number_at (length before) s.known p u) (OfLast (thread_of e) ∷ beside a)))
    (is_back : back ≡ joined) (is_first : first ≡ set back (thread_of e) 0) (is_second : second ≡ set (set back (thread_of e) 0) (thread_of e) (position + 1)) where
  joined-is : (u : ℕ) → get_or joined u 0 ≡ greatest_of (map (λ p. known_at s p u) (OfLast (thread_of e) ∷ beside (access_of e.kind)))
  joined-is u =
      is u
      ∙ (ap (λ k. greatest_of (map (λ p. number_at k s.known p u) (OfLast (thread_of e) ∷ beside a))) all_long
      ∙ ap (λ b. greatest_of (map (λ p. known_at s p u) (OfLast (thread_of e) ∷ beside b))) is_access)

  first-long : length first ≡ s.count
  first-long = ap length is_first ∙ (length-set back (thread_of e) 0 ∙ (ap length is_back ∙ (long ∙ all_long)))

  end-long : length (set (set back (thread_of e) 0) (thread_of e) (position + 1)) ≡ s.count
  end-long = length-set (set back (thread_of e) 0) (thread_of e) (position + 1) ∙ (ap length (sym is_first) ∙ first-long)

  pub noted-tables : (now : ClockState) → s ≡ now → (known by_others : PlaceNumbers) → IsNotedBy (length first) s.by_others first (thread_of e) a by_others → IsNotedBy (length second) s.known second (thread_of e) a known
      → IsNoted now position e (record { count = length (set (set back (thread_of e) 0) (thread_of e) (position + 1)); known = known; by_others = by_others })
  noted-tables now view known by_others others all =
      subst (λ m. IsNoted now position e (record { count = m; known = known; by_others = by_others })) (sym end-long)
      (subst (λ r. IsNoted r position e (record { count = s.count; known = known; by_others = by_others })) view (IsNoted-noted s position e joined own (long ∙ all_long) joined-is known by_others first second (is_first ∙ ap (λ xs. set xs (thread_of e) 0) is_back) (is_second ∙ ap (λ xs. set xs (thread_of e) (position + 1)) (sym is_first))
      (subst (λ b. IsNotedBy s.count s.by_others first (thread_of e) b by_others) is_access (subst (λ m. IsNotedBy m s.by_others first (thread_of e) a by_others) first-long others))
      (subst (λ b. IsNotedBy s.count s.known second (thread_of e) b known) is_access (subst (λ m. IsNotedBy m s.known second (thread_of e) a known) (ap length is_second ∙ end-long) all))))
