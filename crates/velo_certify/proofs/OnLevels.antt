-- A search backwards along the edges of the graph, one level and one position at a time.
use Rattle.std.proofs.Common.{◌≡◌, ◌≢◌, ℕ, zero, suc, ◌+◌, ◌-◌, ◌<◌, ◌≤◌, cond, List, length, Option, refl, sym, ap, ◌∙◌, subst, arith, ⊎_elim, inl, inr}
use Rattle.std.specs.Prelude.{◌⊎◌, ◌==◌, nat_le, slice_index, slice_index_or}
use Rattle.std.proofs.lemmas.Bool.{cases_lt, cases_eq, eq-eqb, ne_eqb}
use Rattle.std.proofs.lemmas.List.{get_or_default}
use Rattle.velo_events.specs.declared.event.Event.{Event}
use Rattle.velo_events.specs.Block.{owner}
use Rattle.velo_events.specs.Graph.{Edge}
use Rattle.velo_events.proofs.OnBlocks.{owner-le}
use Rattle.velo_events.proofs.OnReorderings.{conflict_at-within}
use Rattle.velo_traces.specs.Numbers.{Rows, IsRow, HasNumbers}
use Rattle.velo_certify.specs.declared.reached.Reached.{Reached}
use Rattle.velo_certify.specs.Distances.{AreShortest}
use Rattle.velo_certify.specs.Levels.{IsStart, ReachesOne, level_numbers, MeetsLevel, ReachesBy, ReachesNone, IsPassed, IsSearched}
use Rattle.velo_certify.specs.Table.{IsGreatestAfter, numbers_from}
use Rattle.velo_certify.proofs.OnDistances.{AreShortest-closed, AreShortest-ended}

pub cases_zero : (n : ℕ) → (n ≡ 0) ⊎ (0 < n)
cases_zero zero = inl refl
cases_zero (suc n) = inr (omega arith)

-- ---- the numbers of a level

module _ (trace : List Event) (distance : List ℕ) (level i : ℕ) where
  pub level_numbers-on : slice_index distance (owner trace i) ≡ level → level_numbers trace distance level i ≡ length trace - owner trace i
  unfolding level_numbers
  level_numbers-on is = ap (λ b. cond {A = ℕ} b (length trace - owner trace i) 0) (eq-eqb _ level is)

  pub level_numbers-off : slice_index distance (owner trace i) ≢ level → level_numbers trace distance level i ≡ 0
  unfolding level_numbers
  level_numbers-off other = ap (λ b. cond {A = ℕ} b (length trace - owner trace i) 0) (ne_eqb _ level other)

  -- what the code makes the number of a position
  pub number-is : (own read number : ℕ) → own ≡ owner trace i → own < length distance → read ≡ slice_index_or distance own read → (read ≡ level → number ≡ length trace - own) → (read ≢ level → number ≡ 0) → level_numbers trace distance level i ≡ number
  number-is own read number of_i within there on off = ⊎_elim
      (λ e. level_numbers-on e ∙ (ap (λ k. length trace - k) (sym of_i) ∙ sym (on (is ∙ e))))
      (λ e. level_numbers-off e ∙ sym (off (λ same. e (sym is ∙ same))))
      (cases_eq (slice_index distance (owner trace i)) level)
    where
      is : read ≡ slice_index distance (owner trace i)
      is = there ∙ get_or_default distance own read 0 within ∙ ap (slice_index distance) of_i

-- the greatest number of those behind a position is that of the lowest transaction that it meets
module _ (trace : List Event) (distance : List ℕ) (level at_hand m : ℕ) (g : IsGreatestAfter trace (level_numbers trace distance level) at_hand m) where
  pub greatest-meets : 0 < m → (b : ℕ) × (b < length trace) × (m + b ≡ length trace) × MeetsLevel trace distance level at_hand b
  greatest-meets some =
      let (j, behind, clash, is) = g.reached some in
      let within = (conflict_at-within trace at_hand j clash).1 in
      let low = owner-le trace j in
      ⊎_elim
      (λ on. (
        owner trace j,
        omega (arith, low, within),
        let number = level_numbers-on trace distance level j on in omega (arith, number, is, low, within),
        record { on_level = on; place = j; behind = behind; in_conflict = clash; of_place = refl },
      ))
      (λ off. absurd (let none = level_numbers-off trace distance level j off in omega (arith, none, is, some)))
      (cases_eq (slice_index distance (owner trace j)) level)

  pub greatest-none : m ≡ 0 → (b : ℕ) → ¬ MeetsLevel trace distance level at_hand b
  greatest-none none b w =
      let within = (conflict_at-within trace at_hand w.place w.in_conflict).1 in
      let low = owner-le trace w.place in
      let number = level_numbers-on trace distance level w.place (ap (slice_index distance) w.of_place ∙ w.on_level) in
      let most = g.covers w.place w.behind w.in_conflict in
      omega (arith, number, most, none, low, within)

-- ---- the same numbers

IsRow-as : (trace : List Event) (before after : ℕ → ℕ) (named : Event → Option ℕ) (row : List ℕ) → ((i : ℕ) → after i ≡ before i) → IsRow trace before named row → IsRow trace after named row
IsRow-as trace before after named row same w = record {
  each = λ x l. let old = w.each x l in record {
    covers = λ i p. let most = old.covers i p in let is = same i in omega (arith, most, is);
    reached = λ some. let (i, p, is) = old.reached some in (i, p, same i ∙ is);
  };
}

pub HasNumbers-as : (trace : List Event) (before after : ℕ → ℕ) (table : Rows) → ((i : ℕ) → after i ≡ before i) → HasNumbers trace before table → HasNumbers trace after table
HasNumbers-as trace before after table same w = record {
  threads = IsRow-as trace before after _ table.threads same w.threads;
  handles = IsRow-as trace before after _ table.handles same w.handles;
  writes = IsRow-as trace before after _ table.writes same w.writes;
  reads = IsRow-as trace before after _ table.reads same w.reads;
}

-- a transaction that is reached changes no number of the level
module _ (trace : List Event) (level a b n : ℕ) (old new : Reached) (positive : 0 < level) (w : ReachesOne level a b old new) where
  abbrev earlier : ℕ → ℕ
  earlier c = slice_index old.distance.items c

  abbrev later : ℕ → ℕ
  later c = slice_index new.distance.items c

  same-number : (i : ℕ) → later (owner trace i) ≡ earlier (owner trace i) → level_numbers trace new.distance.items level i ≡ level_numbers trace old.distance.items level i
  unfolding level_numbers
  same-number i is = ap (λ d. cond {A = ℕ} (d == level) (length trace - owner trace i) 0) is

  same-numbers : (i : ℕ) → level_numbers trace new.distance.items level i ≡ level_numbers trace old.distance.items level i
  same-numbers i = ⊎_elim
      (λ (e : owner trace i ≡ a). ⊎_elim
      (λ z.
      let off : later (owner trace i) ≢ level = λ on. let up = (w.fresh z).0 in let at_a = ap later e in omega (arith, up, at_a, on) in
      let before : earlier (owner trace i) ≢ level = λ on. let at_a = ap earlier e in omega (arith, z, at_a, on, positive) in
      level_numbers-off trace new.distance.items level i off ∙ sym (level_numbers-off trace old.distance.items level i before))
      (λ some. same-number i (ap later e ∙ ((w.known some).0 ∙ sym (ap earlier e))))
      (cases_zero (earlier a)))
      (λ other. same-number i (w.others (owner trace i) other).0)
      (cases_eq (owner trace i) a)

  pub HasNumbers-reached : (table : Rows) → HasNumbers trace (numbers_from (level_numbers trace old.distance.items level) n) table → HasNumbers trace (numbers_from (level_numbers trace new.distance.items level) n) table
  HasNumbers-reached table =
      HasNumbers-as trace (numbers_from (level_numbers trace old.distance.items level) n) (numbers_from (level_numbers trace new.distance.items level) n) table (λ i. ap (λ m. cond {A = ℕ} (nat_le n i) m 0) (same-numbers i))

-- ---- one position

-- an edge leads to what it meets
pub MeetsLevel-edge : (trace : List Event) (distance : List ℕ) (level n b : ℕ) → MeetsLevel trace distance level n b → owner trace n ≢ b → Edge trace (owner trace n) b
MeetsLevel-edge trace distance level n b m other = record {
  from = n;
  to = m.place;
  in_order = m.behind;
  in_trace = (conflict_at-within trace n m.place m.in_conflict).1;
  in_conflict = m.in_conflict;
  of_from = refl;
  of_to = m.of_place;
  differ = other;
}

pub IsPassed-start : (trace : List Event) (level n : ℕ) (old : Reached) → length trace ≤ n → IsPassed trace level n old old
IsPassed-start trace level n old end = record {
  long = refl;
  kept = λ a had. (refl, refl);
  found = λ a none has. absurd (omega (arith, none, has));
  all = λ i b late w. absurd (let within = (conflict_at-within trace i w.place w.in_conflict).1 in let behind = w.behind in omega (arith, within, behind, late, end));
  grown = omega arith;
  none = λ few a. refl;
}

module _ (trace : List Event) (target level n : ℕ) (first old new : Reached) (positive : 0 < level) (low : (a : ℕ) → slice_index first.distance.items a ≤ level) (w : IsPassed trace level (n + 1) first old) where
  -- what is on the level was on it before
  abbrev start : ℕ → ℕ
  start a = slice_index first.distance.items a

  abbrev was : ℕ → ℕ
  was a = slice_index old.distance.items a

  pub on_level-before : (b : ℕ) → was b ≡ level → start b ≡ level
  on_level-before b on = ⊎_elim
      (λ z. absurd (let up = (w.found b z (omega (arith, on, positive))).0 in omega (arith, up, on)))
      (λ some. sym (w.kept b some).0 ∙ on)
      (cases_zero (start b))

  on_level-still : (b : ℕ) → start b ≡ level → was b ≡ level
  on_level-still b on = (w.kept b (omega (arith, on, positive))).0 ∙ on

  meets-before : (i b : ℕ) → MeetsLevel trace old.distance.items level i b → MeetsLevel trace first.distance.items level i b
  meets-before i b m = record { on_level = on_level-before b m.on_level; place = m.place; behind = m.behind; in_conflict = m.in_conflict; of_place = m.of_place }

  meets-still : (i b : ℕ) → MeetsLevel trace first.distance.items level i b → MeetsLevel trace old.distance.items level i b
  meets-still i b m = record { on_level = on_level-still b m.on_level; place = m.place; behind = m.behind; in_conflict = m.in_conflict; of_place = m.of_place }

  pub IsPassed-none : ReachesNone trace level n old new → IsPassed trace level n first new
  IsPassed-none v = subst (IsPassed trace level n first) (sym v.same) (record {
    long = w.long;
    kept = w.kept;
    found = w.found;
    all = λ i b late m. ⊎_elim (λ before. absurd (let same : i ≡ n = omega (arith, before, late) in v.none b (subst (λ k. MeetsLevel trace old.distance.items level k b) same (meets-still i b m)))) (λ after. w.all i b after m) (cases_lt i (n + 1));
    grown = w.grown;
    none = w.none;
  })

  module _ (b : ℕ) (v : ReachesBy trace level n old new b) where
    abbrev a : ℕ
    a = owner trace n

    abbrev now : ℕ → ℕ
    now c = slice_index new.distance.items c

    on : start b ≡ level
    on = on_level-before b v.meets.on_level

    -- it had a number already
    grows : (c : ℕ) → 0 < was c → now c ≡ was c
    grows c had = ⊎_elim (λ (e : c ≡ a). ap now e ∙ ((v.reaches.known (subst (λ k. 0 < was k) e had)).0 ∙ sym (ap was e))) (λ other. (v.reaches.others c other).0) (cases_eq c a)

    there : 0 < now a
    there = ⊎_elim (λ z. let up = (v.reaches.fresh z).0 in omega (arith, up)) (λ some. let is = (v.reaches.known some).0 in omega (arith, is, some)) (cases_zero (was a))

    -- a transaction that was not reached at the start has its edge to the level
    new_edge : start a ≡ 0 → Edge trace a b
    new_edge none = MeetsLevel-edge trace old.distance.items level n b v.meets (λ same. let zero = ap start same in omega (arith, zero, none, on, positive))

    at_hand : start a ≡ 0 → (now a ≡ level + 1) × Edge trace a (slice_index new.next.items a) × (start (slice_index new.next.items a) ≡ level)
    at_hand none = ⊎_elim
        (λ z. let is = v.reaches.fresh z in (is.0, subst (Edge trace a) (sym is.1) (new_edge none), ap start is.1 ∙ on))
        (λ some.
        let kept = (v.reaches.known some).0 in
        let had = w.found a none some in
        ⊎_elim
        (λ same. (kept ∙ had.0, subst (Edge trace a) (sym same) had.1, ap start same ∙ had.2))
        (λ turned. (kept ∙ turned.0, subst (Edge trace a) (sym turned.1) (new_edge none), ap start turned.1 ∙ on))
        (v.reaches.turned some))
        (cases_zero (was a))

    pub IsPassed-next : IsPassed trace level n first new
    IsPassed-next = record {
      long = v.reaches.long ∙ w.long;
      kept = λ c had.
          let before = w.kept c had in
          let some : 0 < was c = let is = before.0 in omega (arith, is, had) in (
            grows c some ∙ before.0,
            ⊎_elim
                (λ (e : c ≡ a). ⊎_elim
                (λ same. ap (slice_index new.next.items) e ∙ (same ∙ sym (ap (slice_index old.next.items) e)) ∙ before.1)
                (λ turned. absurd (let up = turned.0 in let at_a = ap was e in let is = before.0 in let most = low c in omega (arith, up, at_a, is, most)))
                (v.reaches.turned (subst (λ k. 0 < was k) e some)))
                (λ other. (v.reaches.others c other).1 ∙ before.1)
                (cases_eq c a),
          );
      found = λ c none has. ⊎_elim
          (λ (e : c ≡ a).
          let is = at_hand (sym (ap start e) ∙ none) in
          subst (λ k. (now k ≡ level + 1) × Edge trace k (slice_index new.next.items k) × (start (slice_index new.next.items k) ≡ level)) (sym e) is)
          (λ other.
          let same = v.reaches.others c other in
          let is = w.found c none (let one = same.0 in omega (arith, one, has)) in
          (same.0 ∙ is.0, subst (Edge trace c) (sym same.1) is.1, ap start same.1 ∙ is.2))
          (cases_eq c a);
      all = λ i k late m. ⊎_elim
          (λ before. let same : i ≡ n = omega (arith, before, late) in subst (λ j. 0 < now (owner trace j)) (sym same) there)
          (λ after. let had = w.all i k after m in let is = grows (owner trace i) had in omega (arith, is, had))
          (cases_lt i (n + 1));
      grown = ⊎_elim (λ z. let more = (v.reaches.fresh z).2 in let so_far = w.grown in omega (arith, more, so_far)) (λ some. let same = (v.reaches.known some).1 in let so_far = w.grown in omega (arith, same, so_far)) (cases_zero (was a));
      none = λ few c. ⊎_elim
          (λ z. absurd (let more = (v.reaches.fresh z).2 in let so_far = w.grown in omega (arith, more, so_far, few)))
          (λ some.
          let same = (v.reaches.known some).1 in
          let before = w.none (omega (arith, same, few)) in
          ⊎_elim (λ (e : c ≡ a). ap now e ∙ ((v.reaches.known some).0 ∙ sym (ap was e)) ∙ before c) (λ other. (v.reaches.others c other).0 ∙ before c) (cases_eq c a))
          (cases_zero (was a));
    }

-- ---- one level

module _ (trace : List Event) (target level : ℕ) (old new : Reached) (positive : 0 < level) (w : IsSearched trace target level old) (v : IsPassed trace level 0 old new) where
  abbrev old_number : ℕ → ℕ
  old_number a = slice_index old.distance.items a

  abbrev new_number : ℕ → ℕ
  new_number a = slice_index new.distance.items a

  cases_new : (a : ℕ) → 0 < new_number a → (0 < old_number a) ⊎ (old_number a ≡ 0)
  cases_new a has = ⊎_elim (λ z. inr z) (λ some. inl some) (cases_zero (old_number a))

  -- what has a lower number had it before
  had-before : (a : ℕ) → 0 < new_number a → new_number a < level + 1 → old_number a ≡ new_number a
  had-before a has less = ⊎_elim (λ some. sym (v.kept a some).0) (λ z. absurd (let up = (v.found a z has).0 in omega (arith, up, less))) (cases_new a has)

  pub IsSearched-next : IsSearched trace target (level + 1) new
  IsSearched-next = record {
    long = v.long ∙ w.long;
    begins = (v.kept target (let one = w.begins in omega (arith, one))).0 ∙ w.begins;
    top = λ a. ⊎_elim
        (λ z. omega (arith, z))
        (λ has. ⊎_elim (λ some. let is = (v.kept a some).0 in let most = w.top a in omega (arith, is, most)) (λ z. let up = (v.found a z has).0 in omega (arith, up)) (cases_new a has))
        (cases_zero (new_number a));
    towards = record {
      edges = λ a has other. ⊎_elim (λ some. subst (Edge trace a) (sym (v.kept a some).1) (w.towards.edges a some other)) (λ z. (v.found a z has).1) (cases_new a has);
      nearer = record {
        each = λ a has other. ⊎_elim
            (λ some.
            let near = w.towards.nearer.each a some other in
            let there = ap new_number (v.kept a some).1 in
            let one = (v.kept a some).0 in
            let next = (v.kept (slice_index old.next.items a) near.0).0 in
            let has_next = near.0 in let less = near.1 in
            (omega (arith, there, next, has_next), omega (arith, there, next, one, less)))
            (λ z.
            let is = v.found a z has in
            let up = is.0 in let on = is.2 in
            let next = (v.kept (slice_index new.next.items a) (omega (arith, on, positive))).0 in
            (omega (arith, next, on, positive), omega (arith, next, on, up)))
            (cases_new a has);
      };
    };
    least = λ a b e some low.
        let before = had-before b some low in
        ⊎_elim
        (λ below.
        let old_b : 0 < old_number b = omega (arith, before, some) in
        let is = w.least a b e old_b below in
        let kept = (v.kept a is.0).0 in
        let has = is.0 in let most = is.1 in
        (omega (arith, kept, has), omega (arith, kept, most, before)))
        (λ on.
        let exact : old_number b ≡ level = let most = w.top b in omega (arith, on, most) in
        let has : 0 < new_number a = subst (λ c. 0 < new_number c) e.of_from (v.all e.from b (omega arith) (record { on_level = exact; place = e.to; behind = e.in_order; in_conflict = e.in_conflict; of_place = e.of_to })) in
        (has, ⊎_elim (λ s. let is = (v.kept a s).0 in let most = w.top a in omega (arith, is, most, before, exact)) (λ z. let up = (v.found a z has).0 in omega (arith, up, before, exact)) (cases_new a has)))
        (cases_lt (old_number b) level);
  }

  -- nothing new old_number reached, or the target
  pub AreShortest-no_more : new.count ≤ old.count → AreShortest trace target new.distance.items
  AreShortest-no_more few = AreShortest-ended trace target (level + 1) new (omega (arith, positive)) IsSearched-next (λ a. let same = v.none few a in let most = w.top a in omega (arith, same, most))

  pub AreShortest-by : (c : ℕ) → Edge trace target c → old_number c ≡ level → AreShortest trace target new.distance.items
  AreShortest-by c edge on =
      let kept = (v.kept c (omega (arith, on, positive))).0 in
      AreShortest-closed trace target (level + 1) new (omega (arith, positive)) IsSearched-next c edge (omega (arith, kept, on, positive)) (omega (arith, kept, on))
