-- A block is to blame at a position of its thread exactly where it begins below the bound there.
use Rattle.std.proofs.Common.{◌≡◌, ℕ, zero, suc, ◌+◌, ◌<◌, ◌≤◌, Bool, not, List, [], ◌∷◌, ◌++◌, length, take, drop, Some, refl, sym, ap, ◌∙◌, subst, arith, ⊎_elim, inr}
use Rattle.std.specs.Prelude.{◌↔◌, slice_get, IsTrue, IsFalse, Contains}
use Rattle.std.specs.Option.{option_map_or}
use Rattle.std.proofs.lemmas.Bool.{cases_lt, cases_Bool, and_parts, and_from, not-true, not_from_false, eq-eqb, eqb-true, both_ways}
use Rattle.std.proofs.lemmas.List.{take-append-drop, length-take-le}
use Rattle.std.proofs.lemmas.Option.{slice_get_within}
use Rattle.velo_events.specs.declared.event.Event.{Event}
use Rattle.velo_events.specs.Event.{thread_of, is_by}
use Rattle.velo_events.specs.Block.{passes_at, is_open_at, open_blocks}
use Rattle.velo_events.specs.Conflict.{conflict}
use Rattle.velo_events.specs.Graph.{Path, Reaches, both_conflict, conflict_at, ConflictsInOrder, HappensBefore}
use Rattle.velo_events.specs.Reordering.{IsSelfSerializable}
use Rattle.velo_events.proofs.OnTraces.{passes_at-append}
use Rattle.velo_events.proofs.OnScans.{event_at, passes_at-event, passes_at-is}
use Rattle.velo_events.proofs.OnGraphs.{Reaches-trans}
use Rattle.velo_events.proofs.OnReorderings.{conflict_at-within}
use Rattle.velo_events.proofs.OnOwners.{is_open_at-thread}
use Rattle.velo_events.proofs.OnUnfinished.{Contains-open_blocks}
use Rattle.velo_events.proofs.OnHappening.{HappensBefore-lt, IsFrom-append, IsFrom-before, IsFrom-same_thread, IsFrom-le, IsFrom-next, ConflictsInOrder-append, ConflictsInOrder-before}
use Rattle.velo_events.proofs.OnBlame.{IsInterrupted, blame_law}
use Rattle.velo_blame.specs.Blamed.{thread_at}
use Rattle.velo_blame.specs.Known.{IsEndOf, is_by_others}
use Rattle.velo_audit.specs.Blame.{IsToBlameAt}
use Rattle.velo_audit.specs.Reach.{IsBroken}

module _ (log : List Event) (t p b : ℕ) (e : Event) (here : slice_get log p ≡ Some e) (own : thread_of e ≡ t) where
  abbrev past : List Event
  past = take (p + 1) log

  within : p < length log
  within = slice_get_within log p e here

  long : length past ≡ p + 1
  long = let l = within in length-take-le (p + 1) log (omega (arith, l))

  whole : past ++ drop (p + 1) log ≡ log
  whole = take-append-drop (p + 1) log

  -- what the events up to p say is so in the log, and the other way round
  by_past : (test : Event → Bool) (i : ℕ) → i < p + 1 → passes_at log test i ≡ passes_at past test i
  by_past test i l = subst (λ xs. passes_at xs test i ≡ passes_at past test i) whole (passes_at-append past (drop (p + 1) log) test i (let n = long in omega (arith, l, n)))

  link_past : (i j : ℕ) → j < p + 1 → ConflictsInOrder log i j → ConflictsInOrder past i j
  link_past i j l w = ConflictsInOrder-before past (drop (p + 1) log) i j (let n = long in omega (arith, l, n)) (subst (λ xs. ConflictsInOrder xs i j) (sym whole) w)

  link_log : (i j : ℕ) → ConflictsInOrder past i j → ConflictsInOrder log i j
  link_log i j w = subst (λ xs. ConflictsInOrder xs i j) whole (ConflictsInOrder-append past (drop (p + 1) log) i j w)

  from_past : (i j : ℕ) → j < p + 1 → Reaches (ConflictsInOrder log) i j → Reaches (ConflictsInOrder past) i j
  from_past i j l w = IsFrom-before past (drop (p + 1) log) i j (let n = long in omega (arith, l, n)) (subst (λ xs. Reaches (ConflictsInOrder xs) i j) (sym whole) w)

  from_log : (i j : ℕ) → Reaches (ConflictsInOrder past) i j → Reaches (ConflictsInOrder log) i j
  from_log i j w = subst (λ xs. Reaches (ConflictsInOrder xs) i j) whole (IsFrom-append past (drop (p + 1) log) i j w)

  own_last : IsTrue (passes_at past (is_by t) p)
  own_last = sym (by_past (is_by t) p (omega arith)) ∙ (passes_at-is log (is_by t) p e here ∙ eq-eqb (thread_of e) t own)

  -- what conflicts at two positions
  conflict-linked : (x c : ℕ) (f g : Event) → slice_get log x ≡ Some f → slice_get log c ≡ Some g → IsTrue (conflict f g) → IsTrue (conflict_at log x c)
  unfolding conflict_at
  conflict-linked x c f g at also hit = ap (λ o. both_conflict o (slice_get log c)) at ∙ (ap (both_conflict (Some f)) also ∙ hit)

  conflict-hit : (x c : ℕ) (f g : Event) → slice_get log x ≡ Some f → slice_get log c ≡ Some g → IsTrue (conflict_at log x c) → IsTrue (conflict f g)
  unfolding conflict_at
  conflict-hit x c f g at also hit = sym (ap (λ o. both_conflict o (slice_get log c)) at ∙ ap (both_conflict (Some f)) also) ∙ hit

  -- ---- a chain that comes back is one through another thread

  leads : (i j : ℕ) → i < j → Reaches (ConflictsInOrder past) i j → HappensBefore past i j
  leads i j l w = ⊎_elim (λ same. absurd (omega (arith, l, same))) (λ path. path) w

  pub interrupted : IsTrue (passes_at past (is_by t) b) → (k : ℕ) → b ≤ k → IsBroken log t (p + 1) k → IsInterrupted past t b p
  interrupted begun k upto w =
      let f = passes_at-event log (is_by_others t (λ f. conflict f w.event)) w.known.place w.known.passes in
      let parts = and_parts (conflict f.0 w.event) (not (is_by t f.0)) f.2 in
      let low : w.known.place < p + 1 = omega (arith, w.known.below, w.before) in
      let other : IsFalse (passes_at past (is_by t) w.known.place) = sym (by_past (is_by t) w.known.place low) ∙ (passes_at-is log (is_by t) w.known.place f.0 f.1 ∙ not-true _ parts.1) in
      let after = IsFrom-le log k w.known.place w.known.before.from in
      let own_k : IsTrue (passes_at past (is_by t) k) = sym (by_past (is_by t) k (omega (arith, after, low))) ∙ w.known.before.own in
      let from : Reaches (ConflictsInOrder past) b w.known.place = Reaches-trans (ConflictsInOrder past) b k w.known.place (IsFrom-same_thread past t b k upto begun own_k) (from_past k w.known.place low w.known.before.from) in
      let link : ConflictsInOrder log w.known.place w.place = (w.known.below, conflict-linked w.known.place w.place f.0 w.event f.1 w.here parts.0) in
      let back : Reaches (ConflictsInOrder past) w.known.place p = Reaches-trans (ConflictsInOrder past) w.known.place w.place p (inr ([], link_past w.known.place w.place w.before link))
      (IsFrom-same_thread past t w.place p (omega (arith, w.before)) (sym (by_past (is_by t) w.place w.before) ∙ (passes_at-is log (is_by t) w.place w.event w.here ∙ eq-eqb (thread_of w.event) t w.own)) own_last) in
      record {
        through = w.known.place;
        of_another = other;
        out = leads b w.known.place (apart w.known.place other begun (omega (arith, upto, after))) from;
        back = leads w.known.place p (omega (arith, w.known.below, w.before)) back;
      }
    where
      apart : (i : ℕ) → IsFalse (passes_at past (is_by t) i) → IsTrue (passes_at past (is_by t) b) → b ≤ i → b < i
      apart i other begun upto = ⊎_elim (λ l. l) (λ g. let same : b ≡ i = omega (arith, g, upto) in absurd (both_ways (passes_at past (is_by t) i) other (subst (λ j. IsTrue (passes_at past (is_by t) j)) same begun))) (cases_lt b i)

  -- ---- and the other way round: the first event of the thread behind the other one is where the chain comes back

  back_at : IsTrue (passes_at log (is_by t) b) → (x c : ℕ) → IsFalse (passes_at log (is_by t) x) → Reaches (ConflictsInOrder log) b x → ConflictsInOrder log x c → c < p + 1 → IsTrue (passes_at log (is_by t) c) → IsBroken log t (p + 1) b
  back_at begun x c other from link low own_c =
      let places = conflict_at-within log x c link.1 in
      let f = event_at log x places.0 in
      let g = passes_at-event log (is_by t) c own_c in
      record {
        place = c;
        event = g.0;
        before = low;
        here = g.1;
        own = eqb-true (thread_of g.0) t g.2;
        known = record {
          place = x;
          below = link.0;
          passes = passes_at-is log (is_by_others t (λ f. conflict f g.0)) x f.0 f.1
              ∙ and_from _ _ (conflict-hit x c f.0 g.0 f.1 g.1 link.1) (not_from_false _ (sym (passes_at-is log (is_by t) x f.0 f.1) ∙ other));
          before = record { own = begun; from = from };
        };
      }

  comes_back : IsTrue (passes_at log (is_by t) b) → (x : ℕ) (between : List ℕ) → IsFalse (passes_at log (is_by t) x) → Reaches (ConflictsInOrder log) b x → Path (ConflictsInOrder log) x between p → IsBroken log t (p + 1) b
  comes_back begun x [] other from link = back_at begun x p other from link (omega arith) (passes_at-is log (is_by t) p e here ∙ eq-eqb (thread_of e) t own)
  comes_back begun x (c ∷ cs) other from path =
      let later = HappensBefore-lt log c p (cs, path.1) in
      ⊎_elim (λ own_c. back_at begun x c other from path.0 (omega (arith, later)) own_c)
      (λ other_c. comes_back begun c cs other_c (IsFrom-next log b x c from path.0) path.1)
      (cases_Bool (passes_at log (is_by t) c))

  path_log : (x : ℕ) (between : List ℕ) (y : ℕ) → Path (ConflictsInOrder past) x between y → Path (ConflictsInOrder log) x between y
  path_log x [] y link = link_log x y link
  path_log x (c ∷ cs) y path = (link_log x c path.0, path_log c cs y path.1)

  pub broken : IsTrue (passes_at past (is_by t) b) → IsInterrupted past t b p → IsBroken log t (p + 1) b
  broken begun w =
      let first = HappensBefore-lt past b w.through w.out in
      let second = HappensBefore-lt past w.through p w.back in
      comes_back (by_past (is_by t) b (omega (arith, first, second)) ∙ begun) w.through w.back.0
      (by_past (is_by t) w.through (omega (arith, second)) ∙ w.of_another) (from_log b w.through (inr w.out)) (path_log w.through w.back.0 p w.back.1)

  -- ---- so the bound decides

  same_thread : thread_at log p ≡ t
  same_thread = ap (λ o. option_map_or thread_of o 0) here ∙ own

  pub IsToBlameAt-below : (bound : ℕ) → IsEndOf (IsBroken log t (p + 1)) bound → IsTrue (is_open_at past t b (length past)) → (b < bound) ↔ IsToBlameAt log p b
  IsToBlameAt-below bound end opened = (
    (λ below. below_bound bound refl below),
    (λ w. end.covers b (broken begun (law.0 w.not_self))),
  )
    where
      begun : IsTrue (passes_at past (is_by t) b)
      begun = is_open_at-thread past t b (length past) opened

      law : (¬ IsSelfSerializable past b) ↔ IsInterrupted past t b p
      law = blame_law past t b p long own_last opened

      below_bound : (n : ℕ) → bound ≡ n → b < bound → IsToBlameAt log p b
      below_bound zero is l = absurd (omega (arith, is, l))
      below_bound (suc k) is l = record {
        within = within;
        is_open = subst (λ u. Contains (open_blocks past u) b) (sym same_thread) ((Contains-open_blocks past t b).1 opened);
        not_self = law.1 (interrupted begun k (omega (arith, is, l)) (end.reached k is));
      }
