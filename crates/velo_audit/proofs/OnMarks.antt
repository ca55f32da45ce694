-- The marks that a pass over a log makes.
use Rattle.std.proofs.Common.{◌≡◌, ◌≢◌, ℕ, ◌+◌, ◌-◌, ◌<◌, ◌≤◌, Bool, true, false, List, length, take, drop, set, replicate, Some, refl, sym, ap, ◌∙◌, subst, arith, ⊎_elim, inl, inr}
use Rattle.std.specs.Prelude.{◌⊎◌, ◌↔◌, ◌==◌, slice_get, slice_index, IsTrue, IsFalse, Contains}
use Rattle.std.specs.Option.{option_map_or}
use Rattle.std.proofs.lemmas.Bool.{cases_lt, cases_Bool, both_ways, eq-eqb, eqb-true}
use Rattle.std.proofs.lemmas.List.{get_or-set_same, get_or-set_other, get_or-take, length-take-le, take-append-drop, length-replicate, get_or-replicate, get_or_past}
use Rattle.std.proofs.lemmas.Option.{slice_get_within}
use Rattle.velo_events.specs.declared.config.Bounds.{Bounds}
use Rattle.velo_events.specs.declared.event.Event.{Event}
use Rattle.velo_events.specs.Event.{thread_of, is_by, is_begin_by, is_end_by}
use Rattle.velo_events.specs.Heap.{times}
use Rattle.velo_events.specs.Block.{passes_at, is_open_at, open_blocks}
use Rattle.velo_events.specs.Scan.{begins, ends, IsOpenAt}
use Rattle.velo_events.specs.WellFormed.{IsWellFormed}
use Rattle.velo_events.proofs.OnTraces.{passes_at-append}
use Rattle.velo_events.proofs.OnScans.{event_at, take-take_le, IsOpenAt-from, IsOpenAt-to}
use Rattle.velo_events.proofs.OnOwners.{is_open_at-within}
use Rattle.velo_events.proofs.OnUnfinished.{Contains-open_blocks}
use Rattle.velo_blame.specs.Blamed.{thread_at}
use Rattle.velo_blame.specs.Known.{IsEndOf}
use Rattle.velo_audit.specs.declared.marks.BlameMarks.{BlameMarks}
use Rattle.velo_audit.specs.Blame.{IsToBlameAt, IsOpenAfter}
use Rattle.velo_audit.specs.Reach.{IsBroken}
use Rattle.velo_audit.specs.Open.{AreOpen, IsAmong, IsListedAt}
use Rattle.velo_audit.specs.Marks.{mark_at, AreMarks, IsPassed, AreMarksSoFar, IsBelow, IsBeforeOneBelow, CountsBelow}
use Rattle.velo_audit.proofs.OnBlame.{IsToBlameAt-below}

-- ---- one mark

pub mark-same : (marks : List Bool) (x b : ℕ) → b ≡ x → x < length marks → IsTrue (mark_at (set marks x true) b)
mark-same marks x b same l = subst (λ k. IsTrue (mark_at (set marks x true) k)) (sym same) (get_or-set_same marks x true false l)

pub mark-other : (marks : List Bool) (x b : ℕ) → b ≢ x → mark_at (set marks x true) b ≡ mark_at marks b
mark-other marks x b other = get_or-set_other marks x b true false other

-- those before k are marked, and with the next one those before k + 1
pub mark-next : (first marks : List Bool) (these : List ℕ) (k : ℕ) → slice_index these k < length marks → ((b : ℕ) → IsTrue (mark_at marks b) ↔ (IsTrue (mark_at first b) ⊎ IsAmong these k b))
    → (b : ℕ) → IsTrue (mark_at (set marks (slice_index these k) true) b) ↔ (IsTrue (mark_at first b) ⊎ IsAmong these (k + 1) b)
mark-next first marks these k within before b = ⊎_elim here elsewhere (cases_Bool (b == slice_index these k))
  where
    here : IsTrue (b == slice_index these k) → IsTrue (mark_at (set marks (slice_index these k) true) b) ↔ (IsTrue (mark_at first b) ⊎ IsAmong these (k + 1) b)
    here h =
        let same : b ≡ slice_index these k = eqb-true b (slice_index these k) h in
        ((λ m. inr (record { place = k; within = omega arith; there = sym same })), (λ w. mark-same marks (slice_index these k) b same within))

    elsewhere : IsFalse (b == slice_index these k) → IsTrue (mark_at (set marks (slice_index these k) true) b) ↔ (IsTrue (mark_at first b) ⊎ IsAmong these (k + 1) b)
    elsewhere f =
        let other : b ≢ slice_index these k = λ same. both_ways (b == slice_index these k) f (eq-eqb b (slice_index these k) same) in
        let is = mark-other marks (slice_index these k) b other in (
          (λ m. ⊎_elim (λ old. inl old) (λ w. inr (record { place = w.place; within = omega (arith, w.within); there = w.there })) ((before b).0 (sym is ∙ m))),
          (λ w. is ∙ (before b).1 (⊎_elim (λ old. inl old)
              (λ v. ⊎_elim (λ l. inr (record { place = v.place; within = l; there = v.there }))
              (λ g. let last : v.place ≡ k = omega (arith, g, v.within) in absurd (other (sym v.there ∙ ap (slice_index these) last)))
              (cases_lt v.place k)) w)),
        )

-- ---- the numbers below a bound

-- the first number that is not below it ends them
pub CountsBelow-at : (these : List ℕ) (bound k : ℕ) → ((j k : ℕ) → j < k → k < length these → slice_index these j < slice_index these k) → ((j : ℕ) → j < k → slice_index these j < bound) → k < length these → bound ≤ slice_index these k → CountsBelow these bound k
CountsBelow-at these bound k rise low within high = record {
  few = omega (arith, within);
  below = low;
  others = λ j g l. ⊎_elim (λ m. let up = rise k j m l in omega (arith, up, high))
      (λ h. let same : k ≡ j = omega (arith, g, h) in subst (λ i. bound ≤ slice_index these i) same high) (cases_lt k j);
}

pub CountsBelow-all : (these : List ℕ) (bound k : ℕ) → k ≡ length these → ((j : ℕ) → j < k → slice_index these j < bound) → CountsBelow these bound k
CountsBelow-all these bound k all low = record { few = omega (arith, all); below = low; others = λ j g l. absurd (omega (arith, g, l, all)) }

module _ (these : List ℕ) (bound count : ℕ) (rise : (j k : ℕ) → j < k → k < length these → slice_index these j < slice_index these k) (counts : CountsBelow these bound count) where
  long : length (take count these) ≡ count
  long = length-take-le count these (counts.few)

  long_before : length (take (count - 1) these) ≡ count - 1
  long_before = let few = counts.few in length-take-le (count - 1) these (omega (arith, few))

  is_low : (j : ℕ) → j < length these → slice_index these j < bound → j < count
  is_low j within low = ⊎_elim (λ l. l) (λ g. let high = counts.others j g within in absurd (omega (arith, high, low))) (cases_lt j count)

  pub below-first : (b : ℕ) → IsListedAt (take count these) b ↔ IsBelow these bound b
  below-first b = (
    (λ w.
        let inside : w.place < count = omega (arith, w.within, long) in
        let is : slice_index these w.place ≡ b = sym (get_or-take count these w.place 0 inside) ∙ w.there in
        let low = counts.below w.place inside in
        record { place = w.place; within = omega (arith, inside, counts.few); there = is; low = subst (λ k. k < bound) is low }),
    (λ w.
        let inside = is_low w.place w.within (subst (λ k. k < bound) (sym w.there) w.low) in
        record { place = w.place; within = omega (arith, inside, long); there = get_or-take count these w.place 0 inside ∙ w.there }),
  )

  pub before-first : (b : ℕ) → IsListedAt (take (count - 1) these) b ↔ IsBeforeOneBelow these bound b
  before-first b = (
    (λ w.
        let inside : w.place < count - 1 = omega (arith, w.within, long_before) in
        record { place = w.place; within = omega (arith, inside, counts.few); there = sym (get_or-take (count - 1) these w.place 0 inside) ∙ w.there; low = counts.below (w.place + 1) (omega (arith, inside)) }),
    (λ w.
        let next = is_low (w.place + 1) w.within w.low in
        let inside : w.place < count - 1 = omega (arith, next) in
        record { place = w.place; within = omega (arith, inside, long_before); there = get_or-take (count - 1) these w.place 0 inside ∙ w.there }),
  )

-- the same with what is the same as the second
pub either-same : {X A B C : Type 0} → X ↔ (A ⊎ B) → B ↔ C → X ↔ (A ⊎ C)
either-same is same = (
  (λ x. ⊎_elim (λ a. inl a) (λ b. inr (same.0 b)) (is.0 x)),
  (λ w. is.1 (⊎_elim (λ a. inl a) (λ c. inr (same.1 c)) w)),
)

-- ---- what is open, by the events so far

module _ (log : List Event) (t n b : ℕ) (upto : n ≤ length log) where
  begins-take : (k : ℕ) → k ≤ n → begins (take n log) t k ≡ begins log t k
  begins-take k l = ap (times (is_begin_by t)) (take-take_le k n log l)

  ends-take : (k : ℕ) → k ≤ n → ends (take n log) t k ≡ ends log t k
  ends-take k l = ap (times (is_end_by t)) (take-take_le k n log l)

  passes-take : (test : Event → Bool) (i : ℕ) → i < n → passes_at log test i ≡ passes_at (take n log) test i
  passes-take test i l = subst (λ xs. passes_at xs test i ≡ passes_at (take n log) test i) (take-append-drop n log) (passes_at-append (take n log) (drop n log) test i (omega (arith, l, length-take-le n log upto)))

  pub is_open-of : b < n → IsOpenAt log t b n → IsTrue (is_open_at (take n log) t b (length (take n log)))
  is_open-of low w = subst (λ k. IsTrue (is_open_at (take n log) t b k)) (sym (length-take-le n log upto)) (IsOpenAt-to (take n log) t b n (record {
    begun = sym (passes-take (is_begin_by t) b low) ∙ w.begun;
    unbalanced = λ k l m same. w.unbalanced k l m (omega (arith, same, begins-take (k + 1) (omega (arith, m)), ends-take (k + 1) (omega (arith, m)), begins-take b (omega (arith, low)), ends-take b (omega (arith, low))));
  }))

  pub is_open-by : IsTrue (is_open_at (take n log) t b (length (take n log))) → (b < n) × IsOpenAt log t b n
  is_open-by opened =
      let low : b < n = omega (arith, is_open_at-within (take n log) t b (length (take n log)) opened, length-take-le n log upto) in
      let w = IsOpenAt-from (take n log) t b n (subst (λ k. IsTrue (is_open_at (take n log) t b k)) (length-take-le n log upto) opened) in (
        low,
        record {
          begun = passes-take (is_begin_by t) b low ∙ w.begun;
          unbalanced = λ k l m same. w.unbalanced k l m (omega (arith, same, begins-take (k + 1) (omega (arith, m)), ends-take (k + 1) (omega (arith, m)), begins-take b (omega (arith, low)), ends-take b (omega (arith, low))));
        },
      )

-- ---- what is to blame at a position

module _ (log : List Event) (t p : ℕ) (e : Event) (here : slice_get log p ≡ Some e) (own : thread_of e ≡ t) (these : List ℕ) (are : AreOpen log t (p + 1) these) (bound : ℕ) (end : IsEndOf (IsBroken log t (p + 1)) bound) where
  upto : p + 1 ≤ length log
  upto = let l = slice_get_within log p e here in omega (arith, l)

  of_thread : thread_at log p ≡ t
  of_thread = ap (λ o. option_map_or thread_of o 0) here ∙ own

  opened : (b : ℕ) → IsListedAt these b → IsTrue (is_open_at (take (p + 1) log) t b (length (take (p + 1) log)))
  opened b w = subst (λ k. IsTrue (is_open_at (take (p + 1) log) t k (length (take (p + 1) log)))) w.there (is_open-of log t (p + 1) (slice_index these w.place) upto (are.earlier w.place w.within) (are.are w.place w.within))

  is_open-after : (b : ℕ) → IsListedAt these b → IsOpenAfter log p b
  is_open-after b w = subst (λ u. Contains (open_blocks (take (p + 1) log) u) b) (sym of_thread) ((Contains-open_blocks (take (p + 1) log) t b).1 (opened b w))

  listed : (b : ℕ) → IsOpenAfter log p b → IsListedAt these b
  listed b w =
      let is = (Contains-open_blocks (take (p + 1) log) t b).0 (subst (λ u. Contains (open_blocks (take (p + 1) log) u) b) of_thread w) in
      let parts = is_open-by log t (p + 1) b upto is in
      are.each b parts.0 parts.1

  decides : (b : ℕ) → IsListedAt these b → (b < bound) ↔ IsToBlameAt log p b
  decides b w = IsToBlameAt-below log t p b e here own bound end (opened b w)

  pub to_blame-here : (b : ℕ) → IsBelow these bound b ↔ IsToBlameAt log p b
  to_blame-here b = (
    (λ w. (decides b (record { place = w.place; within = w.within; there = w.there })).0 w.low),
    (λ w. let at = listed b w.is_open in record { place = at.place; within = at.within; there = at.there; low = (decides b at).1 w }),
  )

  -- one around another that is
  pub around-here : (b : ℕ) → IsBeforeOneBelow these bound b → (inner : ℕ) × (b < inner) × IsOpenAfter log p b × IsToBlameAt log p inner
  around-here b w =
      let next = slice_index these (w.place + 1) in
      let up = are.rise w.place (w.place + 1) (omega arith) w.within in (
        next,
        omega (arith, up, w.there),
        is_open-after b (record { place = w.place; within = omega (arith, w.within); there = w.there }),
        (decides next (record { place = w.place + 1; within = w.within; there = refl })).0 w.low,
      )

  pub around-back : (b inner : ℕ) → b < inner → IsOpenAfter log p b → IsToBlameAt log p inner → IsBeforeOneBelow these bound b
  around-back b inner later is_open there =
      let outer = listed b is_open in
      let at = listed inner there.is_open in
      let low = (decides inner at).1 there in
      let order : outer.place < at.place = ⊎_elim (λ l. l)
      (λ g. ⊎_elim
      (λ under. let down = are.rise at.place outer.place under outer.within in absurd (omega (arith, down, later, outer.there, at.there)))
      (λ same. let one : at.place ≡ outer.place = omega (arith, g, same) in let both = ap (slice_index these) one in absurd (omega (arith, both, later, outer.there, at.there)))
      (cases_lt at.place outer.place))
      (cases_lt outer.place at.place) in
      let next : slice_index these (outer.place + 1) < bound = ⊎_elim
      (λ under. let up = are.rise (outer.place + 1) at.place under at.within in omega (arith, up, low, at.there))
      (λ g. let one : outer.place + 1 ≡ at.place = omega (arith, g, order) in let both = ap (slice_index these) one in omega (arith, both, low, at.there))
      (cases_lt (outer.place + 1) at.place) in
      record { place = outer.place; within = omega (arith, order, at.within); there = outer.there; low = next }

  -- ---- so with the marks that are made here

  passed-next : (q : ℕ) → IsPassed log t p q → IsPassed log t (p + 1) q
  passed-next q w = ⊎_elim (λ l. inl l) (λ h. inr (h.0, omega (arith, h.1))) w

  passed-cases : (q : ℕ) → IsPassed log t (p + 1) q → IsPassed log t p q ⊎ (q ≡ p)
  passed-cases q w = ⊎_elim (λ l. inl (inl l)) (λ h. ⊎_elim (λ l. inl (inr (h.0, l))) (λ g. inr (omega (arith, g, h.1))) (cases_lt q p)) w

  pub AreMarksSoFar-own : (old new : BlameMarks) → length new.blamed.items ≡ length old.blamed.items → length new.around.items ≡ length old.around.items
      → ((b : ℕ) → IsTrue (mark_at new.blamed.items b) ↔ (IsTrue (mark_at old.blamed.items b) ⊎ IsBelow these bound b))
      → ((b : ℕ) → IsTrue (mark_at new.around.items b) ↔ (IsTrue (mark_at old.around.items b) ⊎ IsBeforeOneBelow these bound b))
      → AreMarksSoFar log t p old → AreMarksSoFar log t (p + 1) new
  AreMarksSoFar-own old new size size_around blamed around before = record {
    as_many = size ∙ before.as_many;
    as_many_around = size_around ∙ before.as_many_around;
    blamed = λ b. (
      (λ m. ⊎_elim
          (λ was. let w = (before.blamed b).0 was in record { at = w.at; passed = passed-next w.at w.passed; there = w.there })
          (λ now. record { at = p; passed = inr (of_thread, omega arith); there = (to_blame-here b).0 now })
          ((blamed b).0 m)),
      (λ w. (blamed b).1 (⊎_elim
          (λ was. inl ((before.blamed b).1 (record { at = w.at; passed = was; there = w.there })))
          (λ now. inr ((to_blame-here b).1 (subst (λ q. IsToBlameAt log q b) now w.there)))
          (passed-cases w.at w.passed))),
    );
    around = λ b. (
      (λ m. ⊎_elim
          (λ was. let w = (before.around b).0 was in record { at = w.at; inner = w.inner; passed = passed-next w.at w.passed; later = w.later; is_open = w.is_open; there = w.there })
          (λ now. let w = around-here b now in record { at = p; inner = w.0; passed = inr (of_thread, omega arith); later = w.1; is_open = w.2; there = w.3 })
          ((around b).0 m)),
      (λ w. (around b).1 (⊎_elim
          (λ was. inl ((before.around b).1 (record { at = w.at; inner = w.inner; passed = was; later = w.later; is_open = w.is_open; there = w.there })))
          (λ now. inr (around-back b w.inner w.later (subst (λ q. IsOpenAfter log q b) now w.is_open) (subst (λ q. IsToBlameAt log q w.inner) now w.there)))
          (passed-cases w.at w.passed))),
    );
  }

-- the open blocks after an event of the thread
pub AreOpen-next : (log : List Event) (t at : ℕ) (e : Event) (old new : List ℕ) → IsTrue (is_by t e) → slice_get log at ≡ Some e → ((trace : List Event) → slice_get trace at ≡ Some e → AreOpen trace (thread_of e) at old → AreOpen trace (thread_of e) (at + 1) new) → AreOpen log t at old → AreOpen log t (at + 1) new
AreOpen-next log t at e old new own here follows w =
    let is = eqb-true (thread_of e) t own in
    subst (λ u. AreOpen log u (at + 1) new) is (follows log here (subst (λ u. AreOpen log u at old) (sym is) w))

-- ---- where nothing is marked: the same positions of threads were passed

AreMarksSoFar-same : (log : List Event) (t n u m : ℕ) (marks : BlameMarks) → ((q b : ℕ) → IsToBlameAt log q b → IsPassed log t n q ↔ IsPassed log u m q) → AreMarksSoFar log t n marks → AreMarksSoFar log u m marks
AreMarksSoFar-same log t n u m marks same w = record {
  as_many = w.as_many;
  as_many_around = w.as_many_around;
  blamed = λ b. (
    (λ h. let v = (w.blamed b).0 h in record { at = v.at; passed = (same v.at b v.there).0 v.passed; there = v.there }),
    (λ v. (w.blamed b).1 (record { at = v.at; passed = (same v.at b v.there).1 v.passed; there = v.there })),
  );
  around = λ b. (
    (λ h. let v = (w.around b).0 h in record { at = v.at; inner = v.inner; passed = (same v.at v.inner v.there).0 v.passed; later = v.later; is_open = v.is_open; there = v.there }),
    (λ v. (w.around b).1 (record { at = v.at; inner = v.inner; passed = (same v.at v.inner v.there).1 v.passed; later = v.later; is_open = v.is_open; there = v.there })),
  );
}

-- an event of another thread
pub AreMarksSoFar-other : (log : List Event) (t p : ℕ) (e : Event) (marks : BlameMarks) → slice_get log p ≡ Some e → thread_of e ≢ t → AreMarksSoFar log t p marks → AreMarksSoFar log t (p + 1) marks
AreMarksSoFar-other log t p e marks here other = AreMarksSoFar-same log t p t (p + 1) marks (λ q b w. (
  (λ h. ⊎_elim (λ l. inl l) (λ k. inr (k.0, omega (arith, k.1))) h),
  (λ h. ⊎_elim (λ l. inl l) (λ k. ⊎_elim (λ l. inr (k.0, l))
      (λ g. let same : q ≡ p = omega (arith, g, k.1) in absurd (other (sym (ap (λ o. option_map_or thread_of o 0) here) ∙ (sym (ap (thread_at log) same) ∙ k.0))))
      (cases_lt q p)) h),
))

-- the next thread
pub AreMarksSoFar-thread : (log : List Event) (t n : ℕ) (marks : BlameMarks) → n ≡ length log → AreMarksSoFar log t n marks → AreMarksSoFar log (t + 1) 0 marks
AreMarksSoFar-thread log t n marks all = AreMarksSoFar-same log t n (t + 1) 0 marks (λ q b w. (
  (λ h. ⊎_elim (λ l. inl (omega (arith, l))) (λ k. inl (omega (arith, k.0))) h),
  (λ h. ⊎_elim (λ l. ⊎_elim (λ low. inl low) (λ g. let last : thread_at log q ≡ t = omega (arith, l, g) in inr (last, omega (arith, w.within, all))) (cases_lt (thread_at log q) t)) (λ k. absurd (omega (arith, k.1))) h),
))

-- nothing is marked at first
mark-none : (n b : ℕ) → IsFalse (mark_at (replicate n false) b)
mark-none n b = ⊎_elim (λ l. get_or-replicate n b false false l) (λ g. get_or_past (replicate n false) b false (let long : length (replicate n false) ≡ n = length-replicate n false in omega (arith, long, g))) (cases_lt b n)

pub AreMarksSoFar-start : (log : List Event) (marks : BlameMarks) → marks.blamed.items ≡ replicate (length log) false → marks.around.items ≡ replicate (length log) false → AreMarksSoFar log 0 0 marks
AreMarksSoFar-start log marks blank blank_around = record {
  as_many = ap length blank ∙ length-replicate (length log) false;
  as_many_around = ap length blank_around ∙ length-replicate (length log) false;
  blamed = λ b. (
    (λ h. absurd (both_ways _ (mark-none (length log) b) (subst (λ xs. IsTrue (mark_at xs b)) blank h))),
    (λ w. absurd (⊎_elim (λ l. omega (arith, l)) (λ k. omega (arith, k.1)) w.passed)),
  );
  around = λ b. (
    (λ h. absurd (both_ways _ (mark-none (length log) b) (subst (λ xs. IsTrue (mark_at xs b)) blank_around h))),
    (λ w. absurd (⊎_elim (λ l. omega (arith, l)) (λ k. omega (arith, k.1)) w.passed)),
  );
}

-- where all threads are passed, all is marked
pub AreMarks-end : (bounds : Bounds) (log : List Event) (t : ℕ) (marks : BlameMarks) → bounds.threads ≤ t → IsWellFormed bounds log → AreMarksSoFar log t 0 marks → AreMarks log marks
AreMarks-end bounds log t marks all well w = record {
  as_many = w.as_many;
  as_many_around = w.as_many_around;
  blamed = λ b. (
    (λ h. let v = (w.blamed b).0 h in record { at = v.at; there = v.there }),
    (λ v. (w.blamed b).1 (record { at = v.at; passed = passed v.at v.there.within; there = v.there })),
  );
  around = λ b. (
    (λ h. let v = (w.around b).0 h in record { at = v.at; inner = v.inner; later = v.later; is_open = v.is_open; there = v.there }),
    (λ v. (w.around b).1 (record { at = v.at; inner = v.inner; passed = passed v.at v.there.within; later = v.later; is_open = v.is_open; there = v.there })),
  );
}
  where
    passed : (q : ℕ) → q < length log → IsPassed log t 0 q
    passed q l =
        let e = event_at log q l in
        let known = (well.each q e.0 e.1).known_thread in
        let is = ap (λ o. option_map_or thread_of o 0) e.1 in
        inl (omega (arith, known, is, all))
