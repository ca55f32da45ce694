-- Whichever labels are left out, a log is judged by what is left of it without accesses that repeat earlier ones.
use Rattle.std.proofs.Common.{◌≡◌, ℕ, zero, suc, ◌+◌, ◌<◌, ◌≤◌, Bool, false, not, Option, Some, List, [], ◌∷◌, length, map, take, get_or, refl, sym, ap, ◌∙◌, subst, arith, ⊎_elim, inl, inr}
use Rattle.std.specs.Prelude.{◌↔◌, ◌&&◌, ◌||◌, slice_get, IsTrue, IsFalse, Contains}
use Rattle.std.proofs.lemmas.Bool.{cases_Bool, cases_lt, and_from, and_right, or_from, both_ways, not-true}
use Rattle.std.proofs.lemmas.List.{get_or_default, get_or_past, length-take-le}
use Rattle.velo_events.specs.declared.event.Event.{Event}
use Rattle.velo_events.specs.Event.{is_by, is_begin, is_end, is_writing, is_reading, lock_of, variable_of}
use Rattle.velo_events.specs.Block.{passes_at, is_open_at}
use Rattle.velo_events.specs.Graph.{HasCycle, IsClosing, conflict_at}
use Rattle.velo_events.specs.Reordering.{AreBlamed}
use Rattle.velo_events.proofs.OnScans.{event_at}
use Rattle.velo_events.proofs.OnOwners.{passes_at-within, is_open_at-within}
use Rattle.velo_events.proofs.OnUnfinished.{Contains-open_blocks}
use Rattle.velo_filter.specs.Left.{is_among, is_left_out, places_of, place_of}
use Rattle.velo_filter.proofs.OnRanks.{rank, rank-le, rank-lt, rank-lt_back, length-staying, length-events_staying}
use Rattle.velo_filter.proofs.OnRestricted.{conflict-sub}
use Rattle.velo_filter.proofs.OnLeft.{sub, rest_of-is, length-sub, sub-passes, place-rank, is_left_out-other, StandsFor, stands_for}
use Rattle.velo_filter.proofs.OnLeft.{stays as stays_in}
use Rattle.velo_laws.specs.Ordered.{dissolving}
use Rattle.velo_laws.specs.Repeats.{Repeats, AreRepeats, without, place_with}
use Rattle.velo_laws.specs.Judged.{without_labels, position, IsBlamedInLog, IsJudgedBy}
use Rattle.velo_laws.proofs.OnRepeats.{stays, back, blocks, do_same, repeat_law}
use Rattle.velo_laws.proofs.OnRepeatsClosing.{counted, repeat_closing_law}
use Rattle.velo_laws.proofs.OnRepeatsBlame.{place, placed, blame-with, map-same}
use Rattle.velo_laws.proofs.OnJudged.{map-map}
use Rattle.velo_laws.proofs.OnEitherOrder.{inner-parts, both, keeps_then, left_out-kept, rest-after, rest-before, rank-after, rank-before}

none_such : (o : Option ℕ) → IsFalse (is_among (λ l. false) o)
none_such (Some n) = refl
none_such Option.None = refl

module _ (labels goes : ℕ → Bool) (log : List Event) (repeats : AreRepeats goes log) where
  abbrev S : List Event
  S = sub (dissolving labels) log

  -- what goes of what is left
  abbrev pub goes_then : ℕ → Bool
  goes_then k = goes (place_of (dissolving labels) log k)

  inner-stays : (i : ℕ) (e : Event) → slice_get log i ≡ Some e → IsFalse (is_begin e.kind || is_end e.kind) → IsTrue (stays_in (dissolving labels) log i)
  inner-stays i e here inner =
      let k = inner-parts e.kind inner in
      ap not (is_left_out-other (dissolving labels) log i e here k.0 k.1 ∙ or_from (is_among (λ m. false) (lock_of e.kind)) (is_among (λ x. false) (variable_of e.kind)) (none_such (lock_of e.kind)) (none_such (variable_of e.kind)))

  module _ (j : ℕ) (s : StandsFor (dissolving labels) log j (place_of (dissolving labels) log j)) (w : Repeats goes log (place_of (dissolving labels) log j)) where
    abbrev i : ℕ
    i = place_of (dissolving labels) log j

    in_first : w.first < length log
    in_first = passes_at-within log (is_by w.alike.thread) w.first w.alike.own_first

    first-here : IsTrue (stays_in (dissolving labels) log w.first)
    first-here =
        let f = event_at log w.first in_first in
        let e = event_at log i s.within in
        inner-stays w.first f.0 f.1 (do_same log w.first i f.0 e.0 f.1 e.1 w.alike).first_inner

    passes : (test : Event → Bool) → passes_at S test j ≡ passes_at log test i
    passes test = ap (passes_at S test) (sym s.ranked) ∙ sub-passes (dissolving labels) log test i s.within s.here

    passes-first : (test : Event → Bool) → passes_at S test (rank (stays_in (dissolving labels) log) w.first) ≡ passes_at log test w.first
    passes-first test = sub-passes (dissolving labels) log test w.first in_first first-here

    repeats-sub : Repeats goes_then S j
    repeats-sub = record {
      first = rank (stays_in (dissolving labels) log) w.first;
      in_order = (let l = rank-lt (stays_in (dissolving labels) log) w.first i first-here w.in_order in let r = s.ranked in omega (arith, l, r));
      alike = record {
        thread = w.alike.thread;
        own_first = passes-first (is_by w.alike.thread) ∙ w.alike.own_first;
        own = passes (is_by w.alike.thread) ∙ w.alike.own;
        cell = w.alike.cell;
        same = ⊎_elim
            (λ p. inl (passes-first (is_writing w.alike.cell) ∙ p.0, passes (is_writing w.alike.cell) ∙ p.1))
            (λ p. inr (passes-first (is_reading w.alike.cell) ∙ p.0, passes (is_reading w.alike.cell) ∙ p.1)) w.alike.same;
      };
      first_stays = ap goes (place-rank (dissolving labels) log w.first in_first first-here) ∙ w.first_stays;
      between = λ k l m c.
          let r = stands_for (dissolving labels) log k (in_sub k m) in
          let b = place_of (dissolving labels) log k in
          w.between b
          (rank-lt_back (stays_in (dissolving labels) log) w.first b (subst (λ n. rank (stays_in (dissolving labels) log) w.first < n) (sym r.ranked) l))
          (rank-lt_back (stays_in (dissolving labels) log) b i (subst (λ n. n < rank (stays_in (dissolving labels) log) i) (sym r.ranked) (subst (λ n. k < n) (sym s.ranked) m)))
          (sym (conflict-sub log (stays_in (dissolving labels) log) b i r.within s.within r.here s.here) ∙ (ap (λ n. conflict_at S n (rank (stays_in (dissolving labels) log) i)) r.ranked ∙ (ap (conflict_at S k) s.ranked ∙ c)));
    }
      where
        in_sub : (k : ℕ) → k < j → k < length S
        in_sub k m =
            let l = rank-le (stays_in (dissolving labels) log) i (length log) (let a = s.within in omega (arith, a)) in
            let e = length-sub (dissolving labels) log in
            let r = s.ranked in
            omega (arith, m, l, e, r)

  abbrev pub D : List Event
  D = without_labels labels log

  size : length D ≡ length S
  size = ap length (rest_of-is (dissolving labels) log)

  past-end : (j : ℕ) → length S ≤ j → place_of (dissolving labels) log j ≡ 0
  unfolding place_of places_of
  past-end j past = get_or_past (places_of (dissolving labels) log) j 0 (let e = length-staying (stays_in (dissolving labels) log) (length log) in let f = length-sub (dissolving labels) log in omega (arith, e, f, past))

  -- nothing goes past the end
  in_rest : (j : ℕ) → IsTrue (goes_then j) → j < length S
  in_rest j g = ⊎_elim (λ l. l) (λ past. absurd (let l = (repeats (place_of (dissolving labels) log j) g).in_order in let e = past-end j past in omega (arith, l, e))) (cases_lt j (length S))

  pub repeats_then : AreRepeats goes_then D
  repeats_then = subst (AreRepeats goes_then) (sym (rest_of-is (dissolving labels) log))
      (λ j g. repeats-sub j (stands_for (dissolving labels) log j (in_rest j g)) (repeats (place_of (dissolving labels) log j) g))

  abbrev pub W : List Event
  W = without goes log

  abbrev keeps : ℕ → Bool
  keeps = stays goes log repeats

  -- in either order the same is left
  pub same-rest : without_labels labels W ≡ without goes_then D
  same-rest = rest-after log keeps (blocks goes log repeats) (dissolving labels) ∙ sym (rest-before log keeps (blocks goes log repeats) (dissolving labels))

  -- and stands for the same position of the log
  pub same-position : (p : ℕ) → p < length D → IsFalse (goes_then p) → place_with goes log (position labels W (rank (λ k. not (goes_then k)) p)) ≡ position labels log p
  same-position p l h =
      let s = stands_for (dissolving labels) log p (let e = size in omega (arith, l, e)) in
      let i = position labels log p in
      let keep : IsTrue (keeps i) = ap not h in
      let ranked : rank (stays_in (dissolving labels) W) (rank keeps i) ≡ rank (λ k. not (goes_then k)) p
      = rank-after log keeps (blocks goes log repeats) (dissolving labels) i (let m = s.within in omega (arith, m))
      ∙ (sym (rank-before log keeps (blocks goes log repeats) (dissolving labels) i (let m = s.within in omega (arith, m)))
      ∙ ap (rank (λ k. not (goes_then k))) s.ranked) in
      let in_W : rank keeps i < length W = (let m = rank-lt keeps i (length log) keep s.within in let e = length-events_staying log keeps (length log) (omega arith) in omega (arith, m, e)) in
      let stay : IsTrue (stays_in (dissolving labels) W (rank keeps i)) = ap not (left_out-kept log keeps (blocks goes log repeats) (dissolving labels) i s.within keep) ∙ s.here in
      ap (λ k. place_with goes log (position labels W k)) (sym ranked)
      ∙ (ap (place_with goes log) (place-rank (dissolving labels) W (rank keeps i) in_W stay)
      ∙ placed goes log repeats (rank keeps i) i s.within keep refl)

  -- so it does at each position of what is left
  pub position-then : (k : ℕ) → k < length (without goes_then D) → place_with goes log (position labels W k) ≡ position labels log (place_with goes_then D k)
  position-then k l =
      let j = place goes_then D repeats_then k l in
      ap (λ n. place_with goes log (position labels W n)) (sym j.3)
      ∙ (same-position j.0 j.1 (not-true (goes_then j.0) j.2)
      ∙ ap (position labels log) (sym (placed goes_then D repeats_then k j.0 j.1 j.2 j.3)))

  blame-then : (k t : ℕ) (blamed : List ℕ) → IsTrue (passes_at (without_labels labels W) (is_by t) k)
      → AreBlamed (take (k + 1) (without_labels labels W)) t blamed → IsBlamedInLog labels log W (place_with goes log) k t blamed
  blame-then k t blamed own are =
      let own' = subst (λ es. IsTrue (passes_at es (is_by t) k)) same-rest own in
      let are' = subst (λ es. AreBlamed (take (k + 1) es) t blamed) same-rest are in
      let l = passes_at-within (without goes_then D) (is_by t) k own' in
      let w = blame-with goes_then D repeats_then k t blamed own' are' in
      record {
        at = place_with goes_then D k;
        own = w.0;
        same_event = sym (position-then k l);
        in_log = map (place_with goes_then D) blamed;
        are_blamed = w.1;
        same_blocks = map-map (position labels log) (place_with goes_then D) blamed
            ∙ map-same (λ b. position labels log (place_with goes_then D b)) (λ b. place_with goes log (position labels W b)) blamed
            (λ n m. sym (position-then (get_or blamed n 0) (inside k t blamed own' are' n m)));
      }
    where
      inside : (k t : ℕ) (blamed : List ℕ) → IsTrue (passes_at (without goes_then D) (is_by t) k) → AreBlamed (take (k + 1) (without goes_then D)) t blamed
          → (i : ℕ) → i < length blamed → get_or blamed i 0 < length (without goes_then D)
      inside k t blamed own are i m =
          let b = get_or blamed i 0 in
          let T = take (k + 1) (without goes_then D) in
          let opened = (Contains-open_blocks T t b).0 ((are.which b).0 (i, m, get_or_default blamed i b 0 m)).0 in
          let in_T = is_open_at-within T t b (length T) opened in
          let l = passes_at-within (without goes_then D) (is_by t) k own in
          let short = length-take-le (k + 1) (without goes_then D) (omega (arith, l)) in
          omega (arith, in_T, short, l)

  closes-then : (p : ℕ) → IsClosing D p
      → (k : ℕ) × IsClosing (without_labels labels W) k × (place_with goes log (position labels W k) ≡ position labels log p)
  closes-then p c =
      let w = repeat_closing_law goes_then D repeats_then p c in
      let q = counted goes_then D repeats_then p (let l = c.in_trace in omega (arith, l)) in (
        length (without goes_then (take p D)),
        subst (λ es. IsClosing es (length (without goes_then (take p D)))) (sym same-rest) w.1,
        ap (λ k. place_with goes log (position labels W k)) q ∙ same-position p c.in_trace w.0,
      )

  pub judged : IsJudgedBy labels log W (place_with goes log)
  judged =
      let law = repeat_law goes_then D repeats_then in
      record {
        cycles = ((λ c. subst HasCycle (sym same-rest) (law.0 c)), (λ c. law.1 (subst HasCycle same-rest c)));
        closes = closes-then;
        blame = blame-then;
      }

pub judged_repeats_law : (labels goes : ℕ → Bool) (log : List Event) → AreRepeats goes log → IsJudgedBy labels log (without goes log) (place_with goes log)
judged_repeats_law labels goes log repeats = judged labels goes log repeats
