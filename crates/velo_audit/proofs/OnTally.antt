-- Counts of positions, one after another.
use Rattle.std.proofs.Common.{◌≡◌, ℕ, zero, suc, ◌+◌, ◌<◌, ◌≤◌, Bool, true, false, cond, not, List, [], ◌∷◌, length, filter, get_or, Some, refl, sym, ap, ◌∙◌, arith, ⊎_elim, add-one}
use Rattle.std.specs.Prelude.{◌↔◌, ◌&&◌, if◌then◌else◌, IsTrue}
use Rattle.std.specs.List.{range_with_len}
use Rattle.std.proofs.lemmas.Bool.{cases_Bool, and_parts, and_from, not-true, not_from_false, false_from_ne_true, both_ways}
use Rattle.std.proofs.lemmas.List.Kept.{IsStrictlyIncreasing-filter}
use Rattle.std.proofs.lemmas.Option.{same_Some, slice_get-get_or}
use Rattle.velo_events.specs.declared.event.Event.{Event}
use Rattle.velo_events.specs.Block.{positions}
use Rattle.velo_events.proofs.OnOwners.{passes_at-within}
use Rattle.velo_events.proofs.OnPositions.{Contains-filter, Contains-positions, positions-increase}
use Rattle.velo_audit.specs.declared.marks.BlameMarks.{BlameMarks}
use Rattle.velo_audit.specs.declared.tally.LabelTally.{LabelTally}
use Rattle.velo_audit.specs.Marks.{AreMarks, mark_at}
use Rattle.velo_audit.specs.Tally.{IsCountOf, IsTally, begins_label, is_block_of, IsBlamedBlockOf, IsInnermostBlockOf, count_below}

pub count_below-next : (n : ℕ) (test : ℕ → Bool) → count_below (n + 1) test ≡ count_below n test + (if test n then 1 else 0)
unfolding count_below
count_below-next n test = ap (λ k. count_below k test) (add-one n)

-- a count with the next position
pub counted-next : (n : ℕ) (test : ℕ → Bool) (b : Bool) (old new : ℕ) → test n ≡ b → old ≡ count_below n test → new ≡ old + (if b then 1 else 0) → new ≡ count_below (n + 1) test
counted-next n test b old new is stood more =
    more ∙ (ap (λ k. k + (if b then 1 else 0)) stood ∙ (ap (λ (x : Bool). count_below n test + (if x then 1 else 0)) (sym is) ∙ sym (count_below-next n test)))

pub count_below-le : (n : ℕ) (test : ℕ → Bool) → count_below n test ≤ n
unfolding count_below
count_below-le zero test = omega arith
count_below-le (suc n) test = let h = count_below-le n test in ⊎_elim
    (λ t. let e = ap (λ b. cond {A = ℕ} b 1 0) t in omega (arith, h, e))
    (λ f. let e = ap (λ b. cond {A = ℕ} b 1 0) f in omega (arith, h, e)) (cases_Bool (test n))

-- before the first position nothing is counted
pub count_below-zero : (test : ℕ → Bool) → 0 ≡ count_below 0 test
unfolding count_below
count_below-zero test = refl

-- ---- the same as how many of a range pass

length-filter-first : (test : ℕ → Bool) (x : ℕ) (xs : List ℕ) → length (filter test (x ∷ xs)) ≡ cond {A = ℕ} (test x) 1 0 + length (filter test xs)
length-filter-first test x xs = by (test x)
  where
    by : (b : Bool) → length (cond b (x ∷ filter test xs) (filter test xs)) ≡ cond {A = ℕ} b 1 0 + length (filter test xs)
    by true = omega arith
    by false = omega arith

length-filter-range : (test : ℕ → Bool) (a n : ℕ) → length (filter test (range_with_len a (suc n))) ≡ length (filter test (range_with_len a n)) + cond {A = ℕ} (test (a + n)) 1 0
length-filter-range test a zero =
    let e = length-filter-first test a [] in
    let f : cond {A = ℕ} (test (a + 0)) 1 0 ≡ cond {A = ℕ} (test a) 1 0 = ap (λ k. cond {A = ℕ} (test k) 1 0) (let z : a + 0 ≡ a = omega arith in z) in
    omega (arith, e, f)
length-filter-range test a (suc n) =
    let e = length-filter-first test a (range_with_len (a + 1) (suc n)) in
    let g = length-filter-first test a (range_with_len (a + 1) n) in
    let f : cond {A = ℕ} (test (a + 1 + n)) 1 0 ≡ cond {A = ℕ} (test (a + suc n)) 1 0 = ap (λ k. cond {A = ℕ} (test k) 1 0) (let z : a + 1 + n ≡ a + suc n = omega arith in z) in
    let h = length-filter-range test (a + 1) n in
    omega (arith, e, f, g, h)

count_below-range : (test : ℕ → Bool) (n : ℕ) → count_below n test ≡ length (filter test (range_with_len 0 n))
unfolding count_below
count_below-range test zero = refl
count_below-range test (suc n) =
    let h = count_below-range test n in
    let e = length-filter-range test 0 n in
    let f : cond {A = ℕ} (test (0 + n)) 1 0 ≡ (if test n then 1 else 0) = ap (λ k. cond {A = ℕ} (test k) 1 0) (let z : 0 + n ≡ n = omega arith in z) in
    omega (arith, h, e, f)

-- so the positions that pass are counted
IsCountOf-test : (log : List Event) (test : ℕ → Bool) (P : ℕ → Type 0) (n count : ℕ) → n ≡ length log → count ≡ count_below n test → ((b : ℕ) → IsTrue (test b) → b < length log) → ((b : ℕ) → IsTrue (test b) ↔ P b) → IsCountOf P count
IsCountOf-test log test P n count all is within same = record {
  these = filter test (positions log);
  are = λ b. (
    (λ w. (same b).0 ((Contains-filter test (positions log) b).0 w).1),
    (λ w. let h = (same b).1 w in (Contains-filter test (positions log) b).1 (Contains-positions log b (within b h), h)),
  );
  once = IsStrictlyIncreasing-filter test (positions log) (positions-increase log);
  count = is ∙ (count_below-range test n ∙ ap (λ k. length (filter test (range_with_len 0 k))) all);
}

-- what is read at a place is the mark there
pub mark-is : (marks : List Bool) (at : ℕ) (read : Bool) → at < length marks → read ≡ get_or marks at read → mark_at marks at ≡ read
mark-is marks at read within is = same_Some (mark_at marks at) read (sym (slice_get-get_or marks at false within) ∙ (slice_get-get_or marks at read within ∙ ap Some (sym is)))

pub both-are : (a b x y : Bool) → a ≡ x → b ≡ y → (a && b) ≡ (x && y)
both-are a b x y is also = ap (λ k. k && b) is ∙ ap (λ k. x && k) also

-- ---- the three tests

abbrev pub is_blamed_of : List Event → BlameMarks → ℕ → ℕ → Bool
is_blamed_of log marks l b = is_block_of log l b && mark_at marks.blamed.items b

abbrev pub is_innermost_of : List Event → BlameMarks → ℕ → ℕ → Bool
is_innermost_of log marks l b = is_block_of log l b && (mark_at marks.blamed.items b && not (mark_at marks.around.items b))

pub IsTally-counted : (log : List Event) (marks : BlameMarks) (l n : ℕ) (tally : LabelTally) → AreMarks log marks → n ≡ length log
    → tally.blocks ≡ count_below n (is_block_of log l) → tally.blamed ≡ count_below n (is_blamed_of log marks l) → tally.innermost ≡ count_below n (is_innermost_of log marks l) → IsTally log l tally
IsTally-counted log marks l n tally are all blocks blamed innermost = record {
  blocks = IsCountOf-test log (is_block_of log l) (λ b. IsTrue (is_block_of log l b)) n tally.blocks all blocks within (λ b. ((λ h. h), (λ h. h)));
  blamed = IsCountOf-test log (is_blamed_of log marks l) (IsBlamedBlockOf log l) n tally.blamed all blamed
      (λ b h. within b (and_parts (is_block_of log l b) _ h).0)
      (λ b. ((λ h. let p = and_parts (is_block_of log l b) _ h in (p.0, (are.blamed b).0 p.1)), (λ w. and_from _ _ w.0 ((are.blamed b).1 w.1))));
  innermost = IsCountOf-test log (is_innermost_of log marks l) (IsInnermostBlockOf log l) n tally.innermost all innermost
      (λ b h. within b (and_parts (is_block_of log l b) _ h).0)
      (λ b. (
        (λ h.
            let p = and_parts (is_block_of log l b) _ h in
            let q = and_parts (mark_at marks.blamed.items b) _ p.1 in
            (p.0, ((are.blamed b).0 q.0, λ around. both_ways (mark_at marks.around.items b) (not-true _ q.1) ((are.around b).1 around)))),
        (λ w. and_from _ _ w.0 (and_from _ _ ((are.blamed b).1 w.1.0) (not_from_false _ (false_from_ne_true _ (λ h. w.1.1 ((are.around b).0 h)))))),
      ));
}
  where
    within : (b : ℕ) → IsTrue (is_block_of log l b) → b < length log
    within b h = passes_at-within log (λ e. begins_label l e.kind) b h
