-- The first closing event of a log repeats no access.
use Rattle.std.proofs.Common.{◌≡◌, ℕ, zero, suc, ◌+◌, ◌<◌, ◌≤◌, Bool, not, List, [], ◌∷◌, ◌++◌, length, take, refl, sym, ap, ◌∙◌, subst, arith, ⊎_elim, inl, inr}
use Rattle.std.specs.Prelude.{◌↔◌, ◌&&◌, slice_get, nat_lt, IsTrue, IsFalse}
use Rattle.std.proofs.lemmas.Bool.{cases_Bool, and_parts, and_right, lt-ltb, ltb-true}
use Rattle.std.proofs.lemmas.List.{length-take-le}
use Rattle.velo_events.specs.declared.event.Event.{Event}
use Rattle.velo_events.specs.Event.{is_by, is_writing, is_reading}
use Rattle.velo_events.specs.Graph.{HasCycle, IsClosing}
use Rattle.velo_events.proofs.OnTraces.{slice_get-take}
use Rattle.velo_events.proofs.OnScans.{event_at}
use Rattle.velo_filter.proofs.OnRanks.{rank, rank-stays, rank-goes, rank-lt, rank-from, events_staying, events_staying-stays, events_staying-goes, length-events_staying, take-events_staying}
use Rattle.velo_laws.specs.Ordered.{only}
use Rattle.velo_laws.specs.Repeats.{IsAlike, AreRepeats, without}
use Rattle.velo_laws.proofs.OnOrderedClosing.{conflict-take, passes-take, none_before}
use Rattle.velo_laws.proofs.OnRepeats.{repeat_law}

module _ (goes : ℕ → Bool) (log : List Event) (repeats : AreRepeats goes log) where
  abbrev stays : ℕ → Bool
  stays i = not (goes i)

  abbrev on : ℕ → ℕ
  on i = rank stays i

  module _ (n : ℕ) (most : n ≤ length log) where
    -- those before n
    abbrev pub early : ℕ → Bool
    early j = nat_lt j n && goes j

    pub early-is : (j : ℕ) → j < n → early j ≡ goes j
    early-is j l = ap (λ b. b && goes j) (lt-ltb j n l)

    first-alike : (i j : ℕ) → i < n → j < n → IsAlike log i j → IsAlike (take n log) i j
    first-alike i j l m w = record {
      thread = w.thread;
      own_first = passes-take (only (λ x. Bool.false) (λ x. Bool.false)) log n most (is_by w.thread) i l ∙ w.own_first;
      own = passes-take (only (λ x. Bool.false) (λ x. Bool.false)) log n most (is_by w.thread) j m ∙ w.own;
      cell = w.cell;
      same = ⊎_elim
          (λ p. inl (passes-take (only (λ x. Bool.false) (λ x. Bool.false)) log n most (is_writing w.cell) i l ∙ p.0, passes-take (only (λ x. Bool.false) (λ x. Bool.false)) log n most (is_writing w.cell) j m ∙ p.1))
          (λ p. inr (passes-take (only (λ x. Bool.false) (λ x. Bool.false)) log n most (is_reading w.cell) i l ∙ p.0, passes-take (only (λ x. Bool.false) (λ x. Bool.false)) log n most (is_reading w.cell) j m ∙ p.1)) w.same;
    }

    pub repeats-take : AreRepeats early (take n log)
    repeats-take j h =
        let p = and_parts (nat_lt j n) (goes j) h in
        let l = ltb-true j n p.0 in
        let w = repeats j p.1 in
        let m : w.first < n = (let o = w.in_order in omega (arith, o, l)) in
        record {
          first = w.first;
          in_order = w.in_order;
          alike = first-alike w.first j m l w.alike;
          first_stays = and_right (nat_lt w.first n) (goes w.first) w.first_stays;
          between = λ k a b c. early-is k (omega (arith, b, l)) ∙ w.between k a b (sym (conflict-take (only (λ x. Bool.false) (λ x. Bool.false)) log n most k j (omega (arith, b, l)) l) ∙ c);
        }

    pub same-events : (m : ℕ) → m ≤ n → events_staying (take n log) (λ j. not (early j)) m ≡ events_staying log stays m
    same-events zero l = refl
    same-events (suc m) l =
        let e = event_at log m (omega (arith, l, most)) in
        let at_m : slice_get (take n log) m ≡ _ = slice_get-take log n m (omega (arith, l)) ∙ e.1 in
        let before = same-events m (omega (arith, l)) in
        let same : not (early m) ≡ stays m = ap not (early-is m (omega (arith, l))) in
        ⊎_elim
        (λ h. events_staying-stays (take n log) (λ j. not (early j)) m e.0 at_m (same ∙ h) ∙ (ap (λ es. es ++ e.0 ∷ []) before ∙ sym (events_staying-stays log stays m e.0 e.1 h)))
        (λ h. events_staying-goes (take n log) (λ j. not (early j)) m (same ∙ h) ∙ (before ∙ sym (events_staying-goes log stays m h)))
        (cases_Bool (stays m))

    pub short : length (take n log) ≡ n
    short = length-take-le n log most

    pub rest-take : without early (take n log) ≡ take (on n) (without goes log)
    rest-take =
        ap (events_staying (take n log) (λ j. not (early j))) short
        ∙ (same-events n (omega arith) ∙ sym (take-events_staying log stays n (length log) most (omega arith)))

    -- the first events have a cycle exactly where they have one without
    cycle-take : HasCycle (take n log) ↔ HasCycle (take (on n) (without goes log))
    cycle-take =
        let law = repeat_law early (take n log) repeats-take in
        ((λ c. subst HasCycle rest-take (law.0 c)), (λ c. law.1 (subst HasCycle (sym rest-take) c)))

  -- how many stay of the first ones
  pub stays-take : (m n : ℕ) → m ≤ n → n ≤ length log → events_staying (take n log) stays m ≡ events_staying log stays m
  stays-take zero n l most = refl
  stays-take (suc m) n l most =
      let e = event_at log m (omega (arith, l, most)) in
      let at_m : slice_get (take n log) m ≡ _ = slice_get-take log n m (omega (arith, l)) ∙ e.1 in
      let before = stays-take m n (omega (arith, l)) most in
      ⊎_elim
      (λ h. events_staying-stays (take n log) stays m e.0 at_m h ∙ (ap (λ es. es ++ e.0 ∷ []) before ∙ sym (events_staying-stays log stays m e.0 e.1 h)))
      (λ h. events_staying-goes (take n log) stays m h ∙ (before ∙ sym (events_staying-goes log stays m h)))
      (cases_Bool (stays m))

  pub counted : (n : ℕ) → n ≤ length log → length (without goes (take n log)) ≡ on n
  counted n most =
      ap (λ k. length (events_staying (take n log) stays k)) (length-take-le n log most)
      ∙ (ap length (stays-take n n (omega arith) most) ∙ length-events_staying log stays n most)

  long : length (without goes log) ≡ on (length log)
  long = length-events_staying log stays (length log) (omega arith)

  next : (i : ℕ) → IsTrue (stays i) → on (i + 1) ≡ on i + 1
  next i h = ap on (let one : i + 1 ≡ suc i = omega arith in one) ∙ rank-stays stays i h

  closing-here : (p : ℕ) → IsClosing log p → IsFalse (goes p)
  closing-here p c = ⊎_elim
      (λ gone.
      let most : p + 1 ≤ length log = (let l = c.in_trace in omega (arith, l)) in
      let still : on (p + 1) ≡ on p = ap on (let one : p + 1 ≡ suc p = omega arith in one) ∙ rank-goes stays p (ap not gone) in
      let before = (cycle-take p (omega (arith, most))).1 (subst (λ n. HasCycle (take n (without goes log))) still ((cycle-take (p + 1) most).0 c.closes)) in
      absurd (none_before log p (length-take-le 0 log (omega arith)) c.least p (omega arith) before))
      (λ h. h)
      (cases_Bool (goes p))

  closing-on : (p : ℕ) → IsClosing log p → IsClosing (without goes log) (on p)
  closing-on p c = record {
    in_trace = (let l = rank-lt stays p (length log) stay c.in_trace in let e = long in omega (arith, l, e));
    closes = subst (λ n. HasCycle (take n (without goes log))) (next p stay) ((cycle-take (p + 1) (let l = c.in_trace in omega (arith, l))).0 c.closes);
    least = λ q l cyclic. earlier q l cyclic;
  }
    where
      stay : IsTrue (stays p)
      stay = ap not (closing-here p c)

      earlier : (q : ℕ) → q < on p → HasCycle (take (q + 1) (without goes log)) → ⊥
      earlier q l cyclic =
          let i = rank-from stays p q l in
          let upto = next i.0 i.2 ∙ ap (λ k. k + 1) i.3 in
          let m = c.in_trace in
          let b = i.1 in
          c.least i.0 i.1 ((cycle-take (i.0 + 1) (omega (arith, m, b))).1 (subst (λ n. HasCycle (take n (without goes log))) (sym upto) cyclic))

  pub repeat_closing_law : (p : ℕ) → IsClosing log p → IsFalse (goes p) × IsClosing (without goes log) (length (without goes (take p log)))
  repeat_closing_law p c = (closing-here p c, subst (IsClosing (without goes log)) (sym (counted p (let l = c.in_trace in omega (arith, l)))) (closing-on p c))
