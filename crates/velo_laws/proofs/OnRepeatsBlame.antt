-- The blocks to blame in a log are those to blame without the accesses that repeat earlier ones.
use Rattle.std.proofs.Common.{◌≡◌, ℕ, suc, ◌+◌, ◌<◌, ◌≤◌, Bool, not, take, List, [], ◌∷◌, length, map, get_or, refl, sym, ap, ◌∙◌, subst, arith, ⊎_elim, inl, inr}
use Rattle.std.specs.Prelude.{◌↔◌, IsTrue, IsFalse, Contains}
use Rattle.std.proofs.lemmas.Bool.{both_ways, or_left, false_from_ne_true}
use Rattle.std.proofs.lemmas.List.{get_or-map, get_or_default, length-map, length-take-le}
use Rattle.std.proofs.lemmas.Option.{get_or_from_slice_get}
use Rattle.velo_events.specs.declared.event.Event.{Event}
use Rattle.velo_events.specs.Event.{is_by, is_begin, is_end}
use Rattle.velo_events.specs.Block.{passes_at, is_open_at, open_blocks}
use Rattle.velo_events.specs.Graph.{Path, Leads, Reaches, ConflictsInOrder}
use Rattle.velo_events.specs.Reordering.{IsSelfSerializable, AreBlamed}
use Rattle.velo_events.proofs.OnScans.{passes_at-event, IsOpenAt-from, IsOpenAt-to}
use Rattle.velo_events.proofs.OnOwners.{is_open_at-thread, is_open_at-begins, is_open_at-within, passes_at-one_thread, passes_at-within}
use Rattle.velo_events.proofs.OnGraphs.{Reaches-trans}
use Rattle.velo_events.proofs.OnUnfinished.{Contains-open_blocks}
use Rattle.velo_events.proofs.OnHappening.{HappensBefore-within}
use Rattle.velo_events.proofs.OnReorderings.{conflict_at-within}
use Rattle.velo_events.proofs.OnBlame.{IsInterrupted, self_serializable_law}
use Rattle.velo_filter.proofs.OnRanks.{rank, rank-stays, rank-lt, rank-lt_back, rank-le_back, rank-one, rank-from, staying, staying-at}
use Rattle.velo_filter.proofs.OnRestricted.{conflict-sub}
use Rattle.velo_laws.specs.Repeats.{Repeats, AreRepeats, BlamesSameRepeated, place_without, place_with, without}
use Rattle.velo_laws.proofs.OnDropped.{sub-long, sub-passes, open-to, open-from}
use Rattle.velo_laws.proofs.OnOrderedBlame.{contains-map, contains-from_map, leads-else}
use Rattle.velo_laws.proofs.OnRepeats.{stays, here, back, blocks, what, on, IsFor, rep, for-here, for-le, for-conflict}
use Rattle.velo_laws.specs.Ordered.{only}
use Rattle.velo_events.proofs.OnWellFormed.{count_below-same}
use Rattle.velo_laws.proofs.OnOrderedClosing.{passes-take}
use Rattle.velo_laws.proofs.OnRepeatsClosing.{early, early-is, repeats-take, short, rest-take, counted}

module _ (goes : ℕ → Bool) (log : List Event) (repeats : AreRepeats goes log) where
  abbrev its : ℕ → Bool
  its = stays goes log repeats

  abbrev left : List Event
  left = what goes log repeats

  abbrev pub at : ℕ → ℕ
  at i = on goes log repeats i

  -- ---- chains of conflicts, with what repeats by what is repeated

  link-for : (f g f' g' : ℕ) → ConflictsInOrder log f g → IsFor goes log repeats f f' → IsFor goes log repeats g g' → Reaches (ConflictsInOrder left) (at f') (at g')
  link-for f g f' g' c rf rg =
      let within = (conflict_at-within log f g c.1).1 in
      let before = c.0 in
      let low = for-le goes log repeats f f' rf in
      let high = for-le goes log repeats g g' rg in
      let stay_f = here goes log repeats f' (for-here goes log repeats f f' rf) in
      let stay_g = here goes log repeats g' (for-here goes log repeats g g' rg) in
      ⊎_elim
      (λ same. inl (ap at same))
      (λ w. inr ([], (rank-lt its f' g' stay_f w.0, conflict-sub log its f' g' (omega (arith, before, low, within)) (omega (arith, high, within)) stay_f stay_g ∙ w.1)))
      (for-conflict goes log repeats f g f' g' before within c.1 rf rg)

  chain-for : (f : ℕ) (between : List ℕ) (g f' g' : ℕ) → Path (ConflictsInOrder log) f between g → IsFor goes log repeats f f' → IsFor goes log repeats g g' → Reaches (ConflictsInOrder left) (at f') (at g')
  chain-for f [] g f' g' p rf rg = link-for f g f' g' p rf rg
  chain-for f (c ∷ cs) g f' g' p rf rg =
      let m = rep goes log repeats c in
      Reaches-trans (ConflictsInOrder left) (at f') (at m.0) (at g') (link-for f c f' m.0 p.0 rf m.1) (chain-for c cs g m.0 g' p.1 m.1 rg)

  -- what repeats is of the thread of what it repeats
  for-thread : (t j i : ℕ) → IsFor goes log repeats j i → IsFalse (passes_at log (is_by t) j) → IsFalse (passes_at log (is_by t) i)
  for-thread t j i r other = ⊎_elim
      (λ w. subst (λ k. IsFalse (passes_at log (is_by t) k)) w.1 other)
      (λ w. subst (λ k. IsFalse (passes_at log (is_by t) k)) w.1 (repeated w.0))
      r
    where
      repeated : (w : Repeats goes log j) → IsFalse (passes_at log (is_by t) w.first)
      repeated w = false_from_ne_true _ (λ own. both_ways (passes_at log (is_by t) j) other
          (subst (λ u. IsTrue (passes_at log (is_by u) j)) (passes_at-one_thread log w.alike.thread t w.first w.alike.own_first own) w.alike.own))

  -- ---- and chains of what stays

  link-back : (i j : ℕ) → i < length log → j < length log → IsTrue (its i) → IsTrue (its j) → ConflictsInOrder left (at i) (at j) → ConflictsInOrder log i j
  link-back i j in_i in_j stay_i stay_j c = (rank-lt_back its i j c.0, sym (conflict-sub log its i j in_i in_j stay_i stay_j) ∙ c.1)

  long : length left ≡ at (length log)
  long = sub-long log its (blocks goes log repeats)

  pub place : (k : ℕ) → k < length left → (i : ℕ) × (i < length log) × IsTrue (its i) × (at i ≡ k)
  place k l = rank-from its (length log) k (let e = long in omega (arith, l, e))

  chain-back : (k : ℕ) (between : List ℕ) (l i j : ℕ) → i < length log → j < length log → IsTrue (its i) → IsTrue (its j) → at i ≡ k → at j ≡ l → Path (ConflictsInOrder left) k between l → Leads (ConflictsInOrder log) i j
  chain-back k [] l i j in_i in_j stay_i stay_j at_i at_j p =
      ([], link-back i j in_i in_j stay_i stay_j (subst (λ x. ConflictsInOrder left x (at j)) (sym at_i) (subst (ConflictsInOrder left k) (sym at_j) p)))
  chain-back k (c ∷ cs) l i j in_i in_j stay_i stay_j at_i at_j p =
      let m = place c (conflict_at-within left k c p.0.1).1 in
      let rest = chain-back c cs l m.0 j m.1 in_j m.2 stay_j m.3 at_j p.1 in
      (m.0 ∷ rest.0, (link-back i m.0 in_i m.1 stay_i m.2 (subst (λ x. ConflictsInOrder left x (at m.0)) (sym at_i) (subst (ConflictsInOrder left k) (sym m.3) p.0)), rest.1))

  -- the position of the log for which it stands
  pub placed : (k i : ℕ) → i < length log → IsTrue (its i) → at i ≡ k → place_with goes log k ≡ i
  placed k i l h ranked =
      ap (place_with goes log) (sym ranked) ∙ get_or_from_slice_get (staying its (length log)) (at i) i 0 (staying-at its (length log) i l h)

  -- ---- interruptions

  module _ (t b p : ℕ) (in_b : b < length log) (in_p : p < length log) (stay_b : IsTrue (its b)) (stay_p : IsTrue (its p)) (own_b : IsTrue (passes_at log (is_by t) b)) (own_p : IsTrue (passes_at log (is_by t) p)) where
    interrupted-left : IsInterrupted log t b p → IsInterrupted left t (at b) (at p)
    interrupted-left w =
        let q = rep goes log repeats w.through in
        let within = (HappensBefore-within log w.through p w.back).0 in
        let low = for-le goes log repeats w.through q.0 q.1 in
        let in_q : q.0 < length log = omega (arith, low, within) in
        let stay_q = here goes log repeats q.0 (for-here goes log repeats w.through q.0 q.1) in
        let other = for-thread t w.through q.0 q.1 w.of_another in
        let self_b : IsFor goes log repeats b b = inl (back goes log repeats b stay_b, refl) in
        let self_p : IsFor goes log repeats p p = inl (back goes log repeats p stay_p, refl) in
        record {
          through = at q.0;
          of_another = sub-passes log its (blocks goes log repeats) (is_by t) q.0 in_q stay_q ∙ other;
          out = leads-else (ConflictsInOrder left) (at b) (at q.0) (chain-for b w.out.0 w.through b q.0 w.out.1 self_b q.1)
              (λ same. both_ways (passes_at log (is_by t) q.0) other (subst (λ i. IsTrue (passes_at log (is_by t) i)) (rank-one its b q.0 stay_b stay_q same) own_b));
          back = leads-else (ConflictsInOrder left) (at q.0) (at p) (chain-for w.through w.back.0 p q.0 p w.back.1 q.1 self_p)
              (λ same. both_ways (passes_at log (is_by t) q.0) other (subst (λ i. IsTrue (passes_at log (is_by t) i)) (sym (rank-one its q.0 p stay_q stay_p same)) own_p));
        }

    interrupted-log : IsInterrupted left t (at b) (at p) → IsInterrupted log t b p
    interrupted-log w =
        let q = place w.through (HappensBefore-within left w.through (at p) w.back).0 in
        record {
          through = q.0;
          of_another = sym (sub-passes log its (blocks goes log repeats) (is_by t) q.0 q.1 q.2) ∙ (ap (passes_at left (is_by t)) q.3 ∙ w.of_another);
          out = chain-back (at b) w.out.0 w.through b q.0 in_b q.1 stay_b q.2 refl q.3 w.out.1;
          back = chain-back w.through w.back.0 (at p) q.0 p q.1 in_p q.2 stay_p q.3 refl w.back.1;
        }

  -- ---- blame at the last position, which stays

  module _ (t p : ℕ) (last : length log ≡ p + 1) (stay_p : IsTrue (its p)) (own_p : IsTrue (passes_at log (is_by t) p)) where
    in_p : p < length log
    in_p = omega (arith, last)

    last_left : length left ≡ at p + 1
    last_left = long ∙ (ap at (let e : length log ≡ suc p = omega (arith, last) in e) ∙ rank-stays its p stay_p)

    own_left : IsTrue (passes_at left (is_by t) (at p))
    own_left = sub-passes log its (blocks goes log repeats) (is_by t) p in_p stay_p ∙ own_p

    -- a block that is open
    record IsBlock (b : ℕ) : Type 0 where
      within : b < length log
      stay : IsTrue (its b)
      own : IsTrue (passes_at log (is_by t) b)

    open-stays : (b : ℕ) → IsTrue (is_open_at log t b (length log)) → IsBlock b
    open-stays b opened =
        let f = passes_at-event log (λ e. is_begin e.kind) b (is_open_at-begins log t b (length log) opened) in
        record { within = is_open_at-within log t b (length log) opened; stay = blocks goes log repeats b f.0 f.1 (or_left (is_begin f.0.kind) (is_end f.0.kind) f.2); own = is_open_at-thread log t b (length log) opened }

    open-left : (b : ℕ) → b < length log → IsTrue (its b) → IsTrue (is_open_at log t b (length log)) → IsTrue (is_open_at left t (at b) (length left))
    open-left b within stay opened =
        subst (λ n. IsTrue (is_open_at left t (at b) n)) (sym long)
        (IsOpenAt-to left t (at b) (at (length log)) (open-to log its (blocks goes log repeats) t b (length log) (omega arith) stay within (IsOpenAt-from log t b (length log) opened)))

    open-log : (b : ℕ) → b < length log → IsTrue (its b) → IsTrue (is_open_at left t (at b) (length left)) → IsTrue (is_open_at log t b (length log))
    open-log b within stay opened =
        IsOpenAt-to log t b (length log) (open-from log its (blocks goes log repeats) t b (length log) (omega arith) stay within
        (IsOpenAt-from left t (at b) (at (length log)) (subst (λ n. IsTrue (is_open_at left t (at b) n)) long opened)))

    self : (b : ℕ) → IsTrue (is_open_at log t b (length log)) → IsSelfSerializable left (at b) ↔ IsSelfSerializable log b
    self b opened =
        let k = open-stays b opened in
        let there = self_serializable_law left t (at b) (at p) last_left own_left (open-left b k.within k.stay opened) in
        let here = self_serializable_law log t b p last own_p opened in (
          (λ s. here.1 (λ w. there.0 s (interrupted-left t b p k.within in_p k.stay stay_p k.own own_p w))),
          (λ s. there.1 (λ w. here.0 s (interrupted-log t b p k.within in_p k.stay stay_p k.own own_p w))),
        )

    pub blamed-left : (blamed : List ℕ) → AreBlamed log t blamed → AreBlamed left t (map at blamed)
    blamed-left blamed w = record {
      which = λ c. (
        (λ m.
            let x = contains-from_map at blamed c m in
            let v = (w.which x.0).0 x.1 in
            let opened = (Contains-open_blocks log t x.0).0 v.0 in
            let k = open-stays x.0 opened in
            subst (λ d. Contains (open_blocks left t) d × ¬ IsSelfSerializable left d) x.2
            ((Contains-open_blocks left t (at x.0)).1 (open-left x.0 k.within k.stay opened), λ s. v.1 ((self x.0 opened).0 s))),
        (λ v.
            let opened = (Contains-open_blocks left t c).0 v.0 in
            let i = place c (is_open_at-within left t c (length left) opened) in
            let open_i = open-log i.0 i.1 i.2 (subst (λ d. IsTrue (is_open_at left t d (length left))) (sym i.3) opened) in
            subst (Contains (map at blamed)) i.3
            (contains-map at blamed i.0 ((w.which i.0).1 ((Contains-open_blocks log t i.0).1 open_i, λ s. v.1 (subst (IsSelfSerializable left) i.3 ((self i.0 open_i).1 s)))))),
      );
      outermost_first = λ i l.
          let m : i + 1 < length blamed = (let e = length-map blamed at in omega (arith, l, e)) in
          let x = get_or blamed i 0 in
          let y = get_or blamed (i + 1) 0 in
          let v = (w.which x).0 (i, (omega (arith, m)), get_or_default blamed i x 0 (omega (arith, m))) in
          let stay_x = (open-stays x ((Contains-open_blocks log t x).0 v.0)).stay in
          let first = get_or-map at blamed i 0 0 (omega (arith, m)) in
          let second = get_or-map at blamed (i + 1) 0 0 m in
          let less = rank-lt its x y stay_x (w.outermost_first i m) in
          omega (arith, first, second, less);
    }

    -- ---- and back

    blamed-log : (blamed : List ℕ) → AreBlamed left t blamed → AreBlamed log t (map (place_with goes log) blamed)
    blamed-log blamed w = record {
      which = λ c. (
        (λ m.
            let x = contains-from_map (place_with goes log) blamed c m in
            let i = here_left x.0 x.1 in
            let open_i = open-log i.0 i.1 i.2 (subst (λ d. IsTrue (is_open_at left t d (length left))) (sym i.3) (opened x.0 x.1)) in
            subst (λ d. Contains (open_blocks log t) d × ¬ IsSelfSerializable log d) (sym (placed x.0 i.0 i.1 i.2 i.3) ∙ x.2)
            ((Contains-open_blocks log t i.0).1 open_i, λ s. ((w.which x.0).0 x.1).1 (subst (IsSelfSerializable left) i.3 ((self i.0 open_i).1 s)))),
        (λ v.
            let open_c = (Contains-open_blocks log t c).0 v.0 in
            let k = open-stays c open_c in
            subst (Contains (map (place_with goes log) blamed)) (placed (at c) c k.within k.stay refl)
            (contains-map (place_with goes log) blamed (at c)
            ((w.which (at c)).1 ((Contains-open_blocks left t (at c)).1 (open-left c k.within k.stay open_c), λ s. v.1 ((self c open_c).0 s))))),
      );
      outermost_first = λ i l.
          let m : i + 1 < length blamed = (let e = length-map blamed (place_with goes log) in omega (arith, l, e)) in
          let x = get_or blamed i 0 in
          let y = get_or blamed (i + 1) 0 in
          let a = here_left x (i, (omega (arith, m)), get_or_default blamed i x 0 (omega (arith, m))) in
          let b = here_left y (i + 1, m, get_or_default blamed (i + 1) y 0 m) in
          let first = get_or-map (place_with goes log) blamed i 0 0 (omega (arith, m)) ∙ placed x a.0 a.1 a.2 a.3 in
          let second = get_or-map (place_with goes log) blamed (i + 1) 0 0 m ∙ placed y b.0 b.1 b.2 b.3 in
          let up = w.outermost_first i m in
          let less = rank-lt_back its a.0 b.0 (let p = a.3 in let q = b.3 in omega (arith, p, q, up)) in
          omega (arith, first, second, less);
    }
      where
        opened : (x : ℕ) → Contains blamed x → IsTrue (is_open_at left t x (length left))
        opened x m = (Contains-open_blocks left t x).0 ((w.which x).0 m).0

        here_left : (x : ℕ) → Contains blamed x → (i : ℕ) × (i < length log) × IsTrue (its i) × (at i ≡ x)
        here_left x m = place x (is_open_at-within left t x (length left) (opened x m))

-- ---- the same at any event that stays

pub map-same : (f g : ℕ → ℕ) (xs : List ℕ) → ((i : ℕ) → i < length xs → f (get_or xs i 0) ≡ g (get_or xs i 0)) → map f xs ≡ map g xs
map-same f g [] h = refl
map-same f g (x ∷ xs) h =
    ap (λ y. y ∷ map f xs) (h 0 (omega arith)) ∙ ap (λ ys. g x ∷ ys) (map-same f g xs (λ i l. h (suc i) (omega (arith, l))))

pub repeat_blame_law : (goes : ℕ → Bool) (log : List Event) → AreRepeats goes log → BlamesSameRepeated goes log
repeat_blame_law goes log repeats p t blamed stay own w =
    subst (λ es. AreBlamed es t (map (place_without goes log) blamed)) same
    (subst (AreBlamed (without first T) t) (map-same (rank (λ j. not (first j))) (place_without goes log) blamed places)
    (blamed-left first T (repeats-take goes log repeats n most) t p (short goes log repeats n most) stay_first own_T blamed w))
  where
    n : ℕ
    n = p + 1

    most : n ≤ length log
    most = let l = passes_at-within log (is_by t) p own in omega (arith, l)

    T : List Event
    T = take (p + 1) log

    first : ℕ → Bool
    first = early goes log repeats n most

    stay_first : IsTrue (not (first p))
    stay_first = ap not (early-is goes log repeats n most p (omega arith) ∙ stay)

    own_T : IsTrue (passes_at T (is_by t) p)
    own_T = passes-take (only (λ x. Bool.false) (λ x. Bool.false)) log n most (is_by t) p (omega arith) ∙ own

    upto : rank (λ j. not (goes j)) n ≡ place_without goes log p + 1
    upto = ap (rank (λ j. not (goes j))) (let e : p + 1 ≡ suc p = omega arith in e)
        ∙ (rank-stays (λ j. not (goes j)) p (ap not stay) ∙ ap (λ k. k + 1) (sym (counted goes log repeats p (omega (arith, most)))))

    same : without first T ≡ take (place_without goes log p + 1) (without goes log)
    same = rest-take goes log repeats n most ∙ ap (λ k. take k (without goes log)) upto

    places : (i : ℕ) → i < length blamed → rank (λ j. not (first j)) (get_or blamed i 0) ≡ place_without goes log (get_or blamed i 0)
    places i l =
        let b = get_or blamed i 0 in
        let opened = (Contains-open_blocks T t b).0 ((w.which b).0 (i, l, get_or_default blamed i b 0 l)).0 in
        let in_T = is_open_at-within T t b (length T) opened in
        let size = short goes log repeats n most in
        let below : b < n = omega (arith, in_T, size) in
        count_below-same b (λ j. not (first j)) (λ j. not (goes j)) (λ j m. ap not (early-is goes log repeats n most j (omega (arith, m, below))))
        ∙ sym (counted goes log repeats b (omega (arith, below, most)))

-- ---- and what is to blame at any event without them

module _ (goes : ℕ → Bool) (log : List Event) (repeats : AreRepeats goes log) (k t : ℕ) (blamed : List ℕ)
    (own : IsTrue (passes_at (without goes log) (is_by t) k)) (are : AreBlamed (take (k + 1) (without goes log)) t blamed) where
  abbrev keeps : ℕ → Bool
  keeps = stays goes log repeats

  within : k < length (without goes log)
  within = passes_at-within (without goes log) (is_by t) k own

  abbrev p : ℕ
  p = (place goes log repeats k within).0

  inside : p < length log
  inside = (place goes log repeats k within).1

  stay_p : IsTrue (keeps p)
  stay_p = (place goes log repeats k within).2

  at_p : at goes log repeats p ≡ k
  at_p = (place goes log repeats k within).3

  upto_p : p + 1 ≤ length log
  upto_p = let l = inside in omega (arith, l)

  abbrev first : ℕ → Bool
  first = early goes log repeats (p + 1) upto_p

  first-same : (j : ℕ) → j < p + 1 → not (first j) ≡ keeps j
  first-same j l = ap not (early-is goes log repeats (p + 1) upto_p j l)

  own-log : IsTrue (passes_at log (is_by t) p)
  own-log = sym (sub-passes log keeps (blocks goes log repeats) (is_by t) p inside stay_p) ∙ (ap (passes_at (without goes log) (is_by t)) at_p ∙ own)

  own_T : IsTrue (passes_at (take (p + 1) log) (is_by t) p)
  own_T = passes-take (only (λ x. Bool.false) (λ x. Bool.false)) log (p + 1) upto_p (is_by t) p (omega arith) ∙ own-log

  same : without first (take (p + 1) log) ≡ take (k + 1) (without goes log)
  same = rest-take goes log repeats (p + 1) upto_p
      ∙ ap (λ n. take n (without goes log)) (ap (rank keeps) (let e : p + 1 ≡ suc p = omega arith in e) ∙ (rank-stays keeps p stay_p ∙ ap (λ n. n + 1) at_p))

  places : (i : ℕ) → i < length blamed → place_with first (take (p + 1) log) (get_or blamed i 0) ≡ place_with goes log (get_or blamed i 0)
  places i l =
      let b = get_or blamed i 0 in
      let T = take (k + 1) (without goes log) in
      let opened = (Contains-open_blocks T t b).0 ((are.which b).0 (i, l, get_or_default blamed i b 0 l)).0 in
      let in_T = is_open_at-within T t b (length T) opened in
      let size = length-take-le (k + 1) (without goes log) (let m = within in omega (arith, m)) in
      let j = place goes log repeats b (let m = within in omega (arith, in_T, size, m)) in
      let most = rank-le_back keeps j.0 p stay_p (let a = j.3 in let c = at_p in omega (arith, in_T, size, a, c)) in
      placed first (take (p + 1) log) (repeats-take goes log repeats (p + 1) upto_p) b j.0
      (let e = short goes log repeats (p + 1) upto_p in omega (arith, most, e))
      (first-same j.0 (omega (arith, most)) ∙ j.2)
      (count_below-same j.0 (λ i. not (first i)) keeps (λ i m. first-same i (omega (arith, m, most))) ∙ j.3)
      ∙ sym (placed goes log repeats b j.0 j.1 j.2 j.3)

  blamed-back : AreBlamed (take (p + 1) log) t (map (place_with goes log) blamed)
  blamed-back =
      subst (AreBlamed (take (p + 1) log) t) (map-same (place_with first (take (p + 1) log)) (place_with goes log) blamed places)
      (blamed-log first (take (p + 1) log) (repeats-take goes log repeats (p + 1) upto_p) t p (short goes log repeats (p + 1) upto_p) (first-same p (omega arith) ∙ stay_p) own_T
      blamed (subst (λ es. AreBlamed es t blamed) (sym same) are))

  pub blame-with : IsTrue (passes_at log (is_by t) (place_with goes log k)) × AreBlamed (take (place_with goes log k + 1) log) t (map (place_with goes log) blamed)
  blame-with = subst (λ i. IsTrue (passes_at log (is_by t) i) × AreBlamed (take (i + 1) log) t (map (place_with goes log) blamed))
      (sym (placed goes log repeats k p inside stay_p at_p)) (own-log, blamed-back)
