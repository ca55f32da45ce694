-- Links between the transactions of positions, noted position by position.
use Rattle.std.proofs.Common.{◌≡◌, ◌≢◌, ℕ, zero, suc, ◌+◌, ◌-◌, ◌<◌, ◌≤◌, Bool, cond, List, [], length, Some, refl, sym, ap, ◌∙◌, subst, arith, ⊎_elim, inl, inr}
use Rattle.std.specs.Prelude.{slice_get, IsTrue, IsFalse}
use Rattle.std.proofs.lemmas.Bool.{cases_lt, lt-ltb, le-ltb, le-leb, lt-leb, or_left, or_right, both_ways, eqb-true, false≢true}
use Rattle.std.proofs.lemmas.Option.{slice_get-get_or}
use Rattle.velo_events.specs.declared.event.Event.{Event}
use Rattle.velo_events.specs.declared.event.Access.{Access}
use Rattle.velo_events.specs.declared.event.Access.TheVariants.{Shared, Exclusive, Nothing}
use Rattle.velo_events.specs.About.{is_about, thread_in}
use Rattle.velo_events.specs.Event.{thread_of, access_of}
use Rattle.velo_events.specs.Block.{owner, passes_at}
use Rattle.velo_events.specs.Conflict.{conflict}
use Rattle.velo_events.specs.Graph.{conflict_at, Edge}
use Rattle.velo_events.proofs.OnScans.{passes_at-is, passes_at-event}
use Rattle.velo_events.proofs.OnOwners.{passes_at-within}
use Rattle.velo_events.proofs.OnConflicts.{conflict-read, conflict-write, conflict-fork, conflict-join}
use Rattle.velo_traces.proofs.Past.{past}
use Rattle.velo_certify.specs.declared.chains.Links.{Links}
use Rattle.velo_certify.specs.Links.{is_weak, IsLast, IsFirst, LinksBack, LinksOn, IsInList, IsGrown, IsImplied, IsKept, counted, counted_back, HasRows, HasLinks}
use Rattle.velo_certify.specs.Owners.{event_at}
use Rattle.velo_traces.specs.Numbers.{IsGreatest, IsBlank, strong_for}
use Rattle.velo_certify.specs.Table.{numbers_before, numbers_from}
use Rattle.velo_certify.specs.Threads.{thread_at}
use Rattle.velo_certify.proofs.OnGreatest.{conflict-comm}

-- ---- positions by their numbers

counted-before : (n i : ℕ) → i < n → numbers_before counted n i ≡ i + 1
unfolding counted
counted-before n i l = ap (λ b. cond {A = ℕ} b (i + 1) 0) (lt-ltb i n l)

pub counted-not : (n i : ℕ) → n ≤ i → numbers_before counted n i ≡ 0
counted-not n i l = ap (λ b. cond {A = ℕ} b (counted i) 0) (le-ltb i n l)

module _ (trace : List Event) (n : ℕ) (test : Event → Bool) (m : ℕ) (g : IsGreatest trace (numbers_before counted n) test m) where
  pub last-found : (i : ℕ) → m ≡ i + 1 → (i < n) × IsTrue (passes_at trace test i)
  last-found i is =
      let k = g.reached (omega (arith, is)) in
      ⊎_elim
      (λ l. let at = counted-before n k.0 l in let same : k.0 ≡ i = omega (arith, at, k.2, is) in (omega (arith, l, same), subst (λ j. IsTrue (passes_at trace test j)) same k.1))
      (λ h. absurd (let none = counted-not n k.0 h in omega (arith, none, k.2, is)))
      (cases_lt k.0 n)

  pub last-small : m ≤ n
  last-small = at m refl
    where
      at : (k : ℕ) → m ≡ k → m ≤ n
      at zero is = omega (arith, is)
      at (suc k) is = let f = last-found k (omega (arith, is)) in omega (arith, f.0, is)

  pub last-is : (i : ℕ) → IsLast trace test i n → m ≡ i + 1
  last-is i w = at m refl
    where
      most : i + 1 ≤ m
      most = let c = g.covers i w.passes in let is = counted-before n i w.before in omega (arith, c, is)

      at : (k : ℕ) → m ≡ k → m ≡ i + 1
      at zero is = absurd (omega (arith, is, most))
      at (suc k) is =
          let f = last-found k (omega (arith, is)) in
          ⊎_elim (λ later. absurd (both_ways _ (w.none k later f.0) f.1)) (λ h. omega (arith, h, is, most)) (cases_lt i k)

back-from : (trace : List Event) (n i : ℕ) → n ≤ i → numbers_from (counted_back trace) n i ≡ length trace - i
unfolding counted_back
back-from trace n i l = ap (λ b. cond {A = ℕ} b (length trace - i) 0) (le-leb n i l)

back-not : (trace : List Event) (n i : ℕ) → i < n → numbers_from (counted_back trace) n i ≡ 0
back-not trace n i l = ap (λ b. cond {A = ℕ} b (counted_back trace i) 0) (lt-leb n i l)

module _ (trace : List Event) (n : ℕ) (test : Event → Bool) (m : ℕ) (g : IsGreatest trace (numbers_from (counted_back trace) (n + 1)) test m) where
  pub first-found : (j : ℕ) → j < length trace → m ≡ length trace - j → (n < j) × IsTrue (passes_at trace test j)
  first-found j within is =
      let k = g.reached (omega (arith, is, within)) in
      let there = passes_at-within trace test k.0 k.1 in
      ⊎_elim
      (λ l. absurd (let none = back-not trace (n + 1) k.0 l in omega (arith, none, k.2, is, within)))
      (λ h. let at = back-from trace (n + 1) k.0 h in let same : k.0 ≡ j = omega (arith, at, k.2, is, within, there) in (omega (arith, h, same), subst (λ i. IsTrue (passes_at trace test i)) same k.1))
      (cases_lt k.0 (n + 1))

  pub first-small : m ≤ length trace
  first-small = ⊎_elim
      (λ some.
      let k = g.reached some in
      ⊎_elim (λ l. let none = back-not trace (n + 1) k.0 l in omega (arith, none, k.2)) (λ h. let at = back-from trace (n + 1) k.0 h in omega (arith, at, k.2)) (cases_lt k.0 (n + 1)))
      (λ none. omega (arith, none)) (cases_lt 0 m)

  pub first-is : (j : ℕ) → IsFirst trace test n j → m ≡ length trace - j
  first-is j w =
      let within = passes_at-within trace test j w.passes in
      let covered = g.covers j w.passes in
      let at = back-from trace (n + 1) j (let l = w.after in omega (arith, l)) in
      let k = g.reached (omega (arith, covered, at, within)) in
      let there = passes_at-within trace test k.0 k.1 in
      ⊎_elim
      (λ l. absurd (let none = back-not trace (n + 1) k.0 l in omega (arith, none, k.2, covered, at, within)))
      (λ h.
      let number = back-from trace (n + 1) k.0 h in
      ⊎_elim (λ earlier. absurd (both_ways _ (w.none k.0 (omega (arith, h)) earlier) k.1)) (λ l. omega (arith, l, number, k.2, covered, at, within, there)) (cases_lt k.0 j))
      (cases_lt k.0 (n + 1))

-- ---- what is linked conflicts

strong-kind : (e f : Event) (a : Access) → access_of e.kind ≡ a → IsTrue (strong_for a f) → IsTrue (conflict f e)
strong-kind e f (Shared c) is h = sym (conflict-read f e c is) ∙ or_right _ _ h
strong-kind e f (Exclusive c) is h = sym (conflict-write f e c is) ∙ or_left _ _ (or_right _ _ h)
strong-kind e f (Access.Fork u) is h = sym (conflict-fork f e u is) ∙ or_right _ _ h
strong-kind e f (Access.Join u) is h = sym (conflict-join f e u is) ∙ or_right _ _ h
strong-kind e f Nothing is h = absurd (false≢true h)

conflict-there : (trace : List Event) (i j : ℕ) (e f : Event) → slice_get trace i ≡ Some e → slice_get trace j ≡ Some f → IsTrue (conflict e f) → IsTrue (conflict_at trace i j)
unfolding conflict_at
conflict-there trace i j e f at_i at_j h = rw (at_i, at_j) h

module _ (trace : List Event) (n : ℕ) (within : n < length trace) where
  abbrev pub e : Event
  e = event_at trace n

  pub here : slice_get trace n ≡ Some e
  here = slice_get-get_or trace n past within

  pub conflicts-strong : (i : ℕ) → IsTrue (passes_at trace (strong_for (access_of e.kind)) i) → IsTrue (conflict_at trace i n) × IsTrue (conflict_at trace n i)
  conflicts-strong i h =
      let f = passes_at-event trace (strong_for (access_of e.kind)) i h in
      let c = strong-kind e f.0 (access_of e.kind) refl f.2 in
      (conflict-there trace i n f.0 e f.1 here c, conflict-there trace n i e f.0 here f.1 (sym (conflict-comm f.0 e) ∙ c))

  pub conflicts-own : (i : ℕ) → IsTrue (passes_at trace (is_about thread_in (thread_of e)) i) → IsTrue (conflict_at trace i n)
  conflicts-own i h =
      let f = passes_at-event trace (is_about thread_in (thread_of e)) i h in
      conflict-there trace i n f.0 e f.1 here (or_left _ _ (or_left _ _ (or_left _ _ f.2)))

  pub edge-into : (i : ℕ) → i < n → IsTrue (conflict_at trace i n) → (a b : ℕ) → b ≡ owner trace i → a ≡ owner trace n → owner trace i ≢ owner trace n → Edge trace b a
  edge-into i before clash a b from to differ = record { from = i; to = n; in_order = before; in_trace = within; in_conflict = clash; of_from = sym from; of_to = sym to; differ = λ same. differ (sym from ∙ (same ∙ to)) }

  pub edge-out : (j : ℕ) → n < j → IsTrue (conflict_at trace n j) → j < length trace → (a b : ℕ) → b ≡ owner trace n → a ≡ owner trace j → owner trace n ≢ owner trace j → Edge trace b a
  edge-out j after clash there a b from to differ = record { from = n; to = j; in_order = after; in_trace = there; in_conflict = clash; of_from = sym from; of_to = sym to; differ = λ same. differ (sym from ∙ (same ∙ to)) }

-- ---- lists that grow

pub IsGrown-same : (trace : List Event) (l : Links) → IsGrown trace l l
IsGrown-same trace l = record { count = refl; each = λ a xs chain. (xs, chain, (λ b h. h), (λ b h. inl h)) }

module _ (trace : List Event) (old new : Links) (grown : IsGrown trace old new) where
  HasRows-grown : HasRows trace old → HasRows trace new
  HasRows-grown w = record {
    count = grown.count ∙ w.count;
    each = λ a within.
        let r = w.each a within in
        let g = grown.each a r.xs r.list in
        record { xs = g.0; list = g.1; sound = λ b h. ⊎_elim (λ was. r.sound b was) (λ edge. edge) (g.3 b h) };
  }

  pub IsInList-grown : (a b : ℕ) → IsInList old a b → IsInList new a b
  IsInList-grown a b h = let g = grown.each a h.0 h.1 in (g.0, g.1, g.2 b h.2)

  IsImplied-grown : (i j : ℕ) → IsImplied trace old i j → IsImplied trace new i j
  IsImplied-grown i j h = record {
    from = h.from;
    to = h.to;
    from_there = h.from_there;
    to_there = h.to_there;
    later = h.later;
    of_from = h.of_from;
    earlier = h.earlier;
    of_to = h.of_to;
    edge = h.edge;
    listed = IsInList-grown (owner trace h.to) (owner trace h.from) h.listed;
  }

  IsKept-grown : (i j : ℕ) → IsKept trace old i j → IsKept trace new i j
  IsKept-grown i j h = ⊎_elim (λ same. inl same) (λ covered. inr (IsImplied-grown i j covered)) h

-- ---- all links

pub HasLinks-start : (trace : List Event) (l : Links) → length l.heads.items ≡ length trace → IsBlank l.heads.items → HasLinks trace 0 (length trace) l
HasLinks-start trace l count blank = record {
  rows = record {
    count = count;
    each = λ a within. record { xs = []; list = blank.each a (omega (arith, within, count)); sound = λ b h. absurd h };
  };
  linked = λ i j there link. ⊎_elim (λ w. absurd (omega (arith, w.0))) (λ w. absurd (let up = w.1.1.after in omega (arith, w.0, up, there))) link;
}

own_thread : (trace : List Event) (t i : ℕ) → i < length trace → IsTrue (passes_at trace (is_about thread_in t) i) → thread_at trace i ≡ t
own_thread trace t i within h = eqb-true (thread_at trace i) t (sym (passes_at-is trace (is_about thread_in t) i (event_at trace i) (slice_get-get_or trace i past within)) ∙ h)

pub HasLinks-back : (trace : List Event) (n m : ℕ) (old new : Links) (other : ℕ) → n < length trace → IsGreatest trace (numbers_before counted n) (strong_for (access_of (event_at trace n).kind)) other
    → IsGrown trace old new → ((i : ℕ) → other ≡ i + 1 → IsKept trace new i n) → HasLinks trace n m old → HasLinks trace (n + 1) m new
HasLinks-back trace n m old new other within strong grown kept w = record {
  rows = HasRows-grown trace old new grown w.rows;
  linked = λ i j there link. ⊎_elim
      (λ back. ⊎_elim
      (λ before. IsKept-grown trace old new grown i j (w.linked i j there (inl (before, back.1))))
      (λ h.
      let same : j ≡ n = omega (arith, h, back.0) in
      subst (IsKept trace new i) (sym same)
      (⊎_elim
      (λ last. inl (own_thread trace (thread_at trace n) i (let b = last.before in omega (arith, b, within)) last.passes))
      (λ last. kept i (last-is trace n _ other strong i last))
      (subst (LinksBack trace i) same back.1)))
      (cases_lt j n))
      (λ on. IsKept-grown trace old new grown i j (w.linked i j there (inr on)))
      link;
}

pub HasLinks-on : (trace : List Event) (n m : ℕ) (old new : Links) (other : ℕ) → n < length trace → IsGreatest trace (numbers_from (counted_back trace) (n + 1)) (strong_for (access_of (event_at trace n).kind)) other
    → IsGrown trace old new → ((j : ℕ) → j < length trace → other ≡ length trace - j → IsKept trace new n j) → HasLinks trace m (n + 1) old → HasLinks trace m n new
HasLinks-on trace n m old new other within strong grown kept w = record {
  rows = HasRows-grown trace old new grown w.rows;
  linked = λ i j there link. ⊎_elim
      (λ back. IsKept-grown trace old new grown i j (w.linked i j there (inl back)))
      (λ on. ⊎_elim
      (λ later. IsKept-grown trace old new grown i j (w.linked i j there (inr (omega (arith, later), on.1))))
      (λ h.
      let same : i ≡ n = omega (arith, h, on.0) in
      let first = subst (λ k. LinksOn trace k j) same on.1 in
      subst (λ k. IsKept trace new k j) (sym same) (kept j there (first-is trace n _ other strong j first.1)))
      (cases_lt n i))
      link;
}

pub HasLinks-not_weak : (trace : List Event) (n m : ℕ) (l : Links) → IsFalse (is_weak (access_of (event_at trace n).kind)) → HasLinks trace m (n + 1) l → HasLinks trace m n l
HasLinks-not_weak trace n m l strong w = record {
  rows = w.rows;
  linked = λ i j there link. ⊎_elim
      (λ back. w.linked i j there (inl back))
      (λ on. ⊎_elim
      (λ later. w.linked i j there (inr (omega (arith, later), on.1)))
      (λ h. absurd (let same : i ≡ n = omega (arith, h, on.0) in both_ways _ strong (subst (λ k. IsTrue (is_weak (access_of (event_at trace k).kind))) same on.1.0)))
      (cases_lt n i))
      link;
}

-- all positions are linked to those before them
pub HasLinks-turn : (trace : List Event) (n : ℕ) (l : Links) → length trace ≤ n → HasLinks trace n (length trace) l → HasLinks trace (length trace) (length trace) l
HasLinks-turn trace n l all w = record {
  rows = w.rows;
  linked = λ i j there link. w.linked i j there (⊎_elim (λ back. inl (omega (arith, there, all), back.1)) (λ on. inr on) link);
}
