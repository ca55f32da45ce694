-- A position in a body and what is left there, past one statement.
use Rattle.std.proofs.Common.{◌≡◌, ◌<◌, ◌≤◌, ℕ, zero, suc, ◌+◌, List, [], ◌∷◌, ◌++◌, length, drop, get_or, Some, None, inl, inr, refl, sym, ◌∙◌, ap, subst, arith, append_assoc}
use Rattle.std.specs.Prelude.{slice_get, IsTrue, ◌⊎◌}
use Rattle.std.proofs.Math.ListN.{drop_of_length-le}
use Rattle.std.proofs.lemmas.Option.{slice_get_within, slice_get_cases}
use Rattle.velo_workload.specs.declared.statement.Statement.{Statement}
use Rattle.velo_workload.specs.declared.statement.Statement.TheVariants.{Repeat, Done}
use Rattle.velo_workload.specs.Bodies.{is_nested}
use Rattle.velo_worker.specs.declared.cursor.OpenRepeat.{OpenRepeat}
use Rattle.velo_worker.specs.Walk.{repeated, first, others, with_statement, with_repeat, levels, walk_of}
use Rattle.velo_worker.specs.Cursor.{Cursor, moved_on, entered, repeated_or_left, repeated_or_left_by, left_in_levels, left_at, AreOpen, StandsIn, IsRepeatEnd, IsWalk, MayPass, past}
use Rattle.velo_worker.proofs.OnLevels.{IsPlain, drop-at, levels-plain, levels-repeat, levels-done, nested-plain, nested-repeat, nested-done, nested-not_done, nested-end, levels-behind, nested-behind, left_in_levels-front, AreOpen-same}

-- ---- the start

pub StandsIn-start : (body : List Statement) → IsTrue (is_nested 0 body) → StandsIn body (record { position = 0; repeats = [] })
unfolding AreOpen
StandsIn-start body nested = record { within = omega arith; nested = nested; are_open = tt }

pub left_at-start : (body : List Statement) → left_at body (record { position = 0; repeats = [] }) ≡ walk_of body
unfolding left_at left_in_levels walk_of
left_at-start body = refl

-- ---- the end

none_left : (body : List Statement) (repeats : List OpenRepeat) → length repeats ≡ 0 → left_in_levels body repeats (levels []) ≡ []
unfolding left_in_levels levels
none_left body [] h = refl
none_left body (r ∷ repeats) h = absurd (omega (arith, h))

pub left_at-end : (body : List Statement) (at : Cursor) → StandsIn body at → length body ≤ at.position → left_at body at ≡ []
unfolding left_at
left_at-end body at stands past =
    let nothing : drop at.position body ≡ [] = drop_of_length-le body past in
    rw nothing (none_left body at.repeats (nested-end (length at.repeats) (subst (λ xs. IsTrue (is_nested (length at.repeats) xs)) nothing stands.nested)))

-- ---- a statement that neither begins nor ends a repeat

pub left_at-moved_on : (body : List Statement) (at : Cursor) (s : Statement) → slice_get body at.position ≡ Some s → IsPlain s → left_at body at ≡ s ∷ left_at body (moved_on at)
unfolding left_at
left_at-moved_on body at s here plain =
    let rest = drop (at.position + 1) body in
    ap (λ xs. left_in_levels body at.repeats (levels xs)) (drop-at body at.position s here)
    ∙ ap (left_in_levels body at.repeats) (levels-plain s rest plain)
    ∙ left_in_levels-front body at.repeats (s ∷ []) (levels rest)

pub StandsIn-moved_on : (body : List Statement) (at : Cursor) (s : Statement) → slice_get body at.position ≡ Some s → IsPlain s → StandsIn body at → StandsIn body (moved_on at)
StandsIn-moved_on body at s here plain stands =
    let rest = drop (at.position + 1) body in
    let within : at.position < length body = slice_get_within body at.position s here in
    let next = drop-at body at.position s here in record {
      within = omega (arith, within);
      nested = nested-plain (length at.repeats) s rest plain (subst (λ xs. IsTrue (is_nested (length at.repeats) xs)) next stands.nested);
      are_open = AreOpen-same body at.repeats (with_statement s (levels rest)) (levels rest) refl
          (subst (AreOpen body at.repeats) (ap levels next ∙ levels-plain s rest plain) stands.are_open);
    }

-- ---- a repeat

pub repeats_few : (body : List Statement) (at : Cursor) (n : ℕ) → slice_get body at.position ≡ Some (Repeat n) → StandsIn body at → length at.repeats < 8
repeats_few body at n here stands =
    (nested-repeat (length at.repeats) n (drop (at.position + 1) body)
    (subst (λ xs. IsTrue (is_nested (length at.repeats) xs)) (drop-at body at.position (Repeat n) here) stands.nested)).0

left-entered : (body : List Statement) (at : Cursor) (n end k : ℕ) → IsRepeatEnd body (at.position + 1) end
    → (Repeat n ∷ repeated k (first (levels (drop (at.position + 1) body)) ++ Done ∷ [])) ++ left_in_levels body at.repeats (others (levels (drop (at.position + 1) body))) ≡ Repeat n ∷ left_at body (entered at k end)
unfolding left_at left_in_levels repeated
left-entered body at n end zero is = sym (ap (λ ls. Repeat n ∷ left_in_levels body at.repeats ls) (ap levels is.behind ∙ levels-behind (drop (at.position + 1) body)))
left-entered body at n end (suc k) is = simp append_assoc

pub left_at-entered : (body : List Statement) (at : Cursor) (n end : ℕ) → slice_get body at.position ≡ Some (Repeat n) → IsRepeatEnd body (at.position + 1) end
    → left_at body at ≡ Repeat n ∷ left_at body (entered at n end)
unfolding left_at
left_at-entered body at n end here is =
    ap (λ xs. left_in_levels body at.repeats (levels xs)) (drop-at body at.position (Repeat n) here)
    ∙ ap (left_in_levels body at.repeats) (levels-repeat n (drop (at.position + 1) body))
    ∙ left_in_levels-front body at.repeats (Repeat n ∷ repeated n (first (levels (drop (at.position + 1) body)) ++ Done ∷ [])) (others (levels (drop (at.position + 1) body)))
    ∙ left-entered body at n end n is

stands-entered : (body : List Statement) (at : Cursor) (end k : ℕ) → at.position < length body → IsRepeatEnd body (at.position + 1) end
    → IsTrue (is_nested (suc (length at.repeats)) (drop (at.position + 1) body)) → AreOpen body at.repeats (others (levels (drop (at.position + 1) body))) → StandsIn body (entered at k end)
unfolding AreOpen
stands-entered body at end zero within is deeper around = record {
  within = is.within;
  nested = rw is.behind (nested-behind (length at.repeats) (drop (at.position + 1) body) deeper);
  are_open = subst (AreOpen body at.repeats) (sym (ap levels is.behind ∙ levels-behind (drop (at.position + 1) body))) around;
}
stands-entered body at end (suc k) within is deeper around = record {
  within = omega (arith, within);
  nested = deeper;
  are_open = (refl, deeper, omega (arith, within), around);
}

pub StandsIn-entered : (body : List Statement) (at : Cursor) (n end : ℕ) → slice_get body at.position ≡ Some (Repeat n) → IsRepeatEnd body (at.position + 1) end → StandsIn body at
    → StandsIn body (entered at n end)
StandsIn-entered body at n end here is stands =
    let next = drop-at body at.position (Repeat n) here in
    stands-entered body at end n (slice_get_within body at.position (Repeat n) here) is
    (nested-repeat (length at.repeats) n (drop (at.position + 1) body) (subst (λ xs. IsTrue (is_nested (length at.repeats) xs)) next stands.nested)).1
    (AreOpen-same body at.repeats (with_repeat n (levels (drop (at.position + 1) body))) (others (levels (drop (at.position + 1) body))) refl (subst (AreOpen body at.repeats) (ap levels next ∙ levels-repeat n (drop (at.position + 1) body)) stands.are_open))

-- ---- the end of a repeat

pub some_open : (body : List Statement) (at : Cursor) → slice_get body at.position ≡ Some Done → StandsIn body at → 0 < length at.repeats
some_open body at here stands = some at.repeats (subst (λ xs. IsTrue (is_nested (length at.repeats) xs)) (drop-at body at.position Done here) stands.nested)
  where
    some : (repeats : List OpenRepeat) → IsTrue (is_nested (length repeats) (Done ∷ drop (at.position + 1) body)) → 0 < length repeats
    some [] h = absurd (nested-not_done (drop (at.position + 1) body) h)
    some (r ∷ repeats) h = omega arith

left-repeated_or_left : (body : List Statement) (p start : ℕ) (repeats : List OpenRepeat) (again : ℕ) → AreOpen body (record { start = start; again = again } ∷ repeats) ([] ∷ levels (drop (p + 1) body))
    → left_in_levels body (record { start = start; again = again } ∷ repeats) ([] ∷ levels (drop (p + 1) body)) ≡ Done ∷ left_at body (repeated_or_left_by p start repeats again)
unfolding left_at left_in_levels repeated AreOpen
left-repeated_or_left body p start repeats zero are = refl
left-repeated_or_left body p start repeats (suc k) are = rw are.0 (simp append_assoc)

pub left_at-repeated_or_left : (body : List Statement) (at : Cursor) → slice_get body at.position ≡ Some Done → StandsIn body at → left_at body at ≡ Done ∷ left_at body (repeated_or_left at.position at.repeats)
unfolding left_at
left_at-repeated_or_left body at here stands =
    let e = ap levels (drop-at body at.position Done here) ∙ levels-done (drop (at.position + 1) body) in
    ap (left_in_levels body at.repeats) e ∙ inside at.repeats (some_open body at here stands) (subst (AreOpen body at.repeats) e stands.are_open)
  where
    inside : (repeats : List OpenRepeat) → 0 < length repeats → AreOpen body repeats ([] ∷ levels (drop (at.position + 1) body))
        → left_in_levels body repeats ([] ∷ levels (drop (at.position + 1) body)) ≡ Done ∷ left_at body (repeated_or_left at.position repeats)
    inside [] some are = absurd (omega (arith, some))
    inside (r ∷ repeats) some are = left-repeated_or_left body at.position r.start repeats r.again are

stands-again : (body : List Statement) (p start : ℕ) (repeats : List OpenRepeat) (again : ℕ) → p < length body → IsTrue (is_nested (suc (length repeats)) (Done ∷ drop (p + 1) body))
    → AreOpen body (record { start = start; again = again } ∷ repeats) ([] ∷ levels (drop (p + 1) body)) → StandsIn body (repeated_or_left_by p start repeats again)
unfolding AreOpen
stands-again body p start repeats zero within nested are = record {
  within = omega (arith, within);
  nested = nested-done (length repeats) (drop (p + 1) body) nested;
  are_open = are.3;
}
stands-again body p start repeats (suc k) within nested are = record { within = are.2; nested = are.1; are_open = (refl, are.1, are.2, rw are.0 are.3) }

stands-repeated_or_left : (body : List Statement) (p : ℕ) (repeats : List OpenRepeat) → 0 < length repeats → p < length body → IsTrue (is_nested (length repeats) (Done ∷ drop (p + 1) body))
    → AreOpen body repeats ([] ∷ levels (drop (p + 1) body)) → StandsIn body (repeated_or_left p repeats)
stands-repeated_or_left body p [] some within nested are = absurd (omega (arith, some))
stands-repeated_or_left body p (r ∷ repeats) some within nested are = stands-again body p r.start repeats r.again within nested are

pub StandsIn-repeated_or_left : (body : List Statement) (at : Cursor) → slice_get body at.position ≡ Some Done → StandsIn body at → StandsIn body (repeated_or_left at.position at.repeats)
StandsIn-repeated_or_left body at here stands =
    let next = drop-at body at.position Done here in
    stands-repeated_or_left body at.position at.repeats (some_open body at here stands) (slice_get_within body at.position Done here)
    (subst (λ xs. IsTrue (is_nested (length at.repeats) xs)) next stands.nested)
    (subst (AreOpen body at.repeats) (ap levels next ∙ levels-done (drop (at.position + 1) body)) stands.are_open)

-- ---- any statement

pub MayPass-here : (body : List Statement) (at : Cursor) (s : Statement) → slice_get body at.position ≡ Some s → StandsIn body at → MayPass s at
MayPass-here body at (Repeat n) here stands = repeats_few body at n here stands
MayPass-here body at Done here stands = some_open body at here stands
MayPass-here body at s here stands = tt

pub left_at-past : (body : List Statement) (ends : List ℕ) (at : Cursor) (s : Statement) → slice_get body at.position ≡ Some s → IsWalk body ends at
    → left_at body at ≡ s ∷ left_at body (past s at ends)
left_at-past body ends at (Repeat n) here walk =
    left_at-entered body at n (get_or ends at.position 0) here (walk.are_ends.each at.position (slice_get_within body at.position (Repeat n) here))
left_at-past body ends at Done here walk = left_at-repeated_or_left body at here walk.stands
left_at-past body ends at s here walk = left_at-moved_on body at s here tt

pub IsWalk-past : (body : List Statement) (ends : List ℕ) (at : Cursor) (s : Statement) → slice_get body at.position ≡ Some s → IsWalk body ends at → IsWalk body ends (past s at ends)
IsWalk-past body ends at (Repeat n) here walk = record {
  are_ends = walk.are_ends;
  stands = StandsIn-entered body at n (get_or ends at.position 0) here (walk.are_ends.each at.position (slice_get_within body at.position (Repeat n) here)) walk.stands;
}
IsWalk-past body ends at Done here walk = record { are_ends = walk.are_ends; stands = StandsIn-repeated_or_left body at here walk.stands }
IsWalk-past body ends at s here walk = record { are_ends = walk.are_ends; stands = StandsIn-moved_on body at s here tt walk.stands }

-- the first of what is left is the statement at the position
pub left_at-first : (body : List Statement) (ends : List ℕ) (at : Cursor) → IsWalk body ends at → slice_get body at.position ≡ slice_get (left_at body at) 0
left_at-first body ends at walk = by_cases (slice_get_cases body at.position)
  where
    by_cases : (slice_get body at.position ≡ slice_get body at.position) × (((x : Statement) × (at.position < length body) × (slice_get body at.position ≡ Some x) × (get_or body at.position x ≡ x)) ⊎ ((length body ≤ at.position) × (slice_get body at.position ≡ None)))
        → slice_get body at.position ≡ slice_get (left_at body at) 0
    by_cases (same, inl (x, within, here, got)) = rw (left_at-past body ends at x here walk) here
    by_cases (same, inr (beyond, here)) = rw (left_at-end body at walk.stands beyond) here

-- where there is no first statement, there is none to drop
pub nothing_dropped : (xs : List Statement) → slice_get xs 0 ≡ None → xs ≡ drop 1 xs
nothing_dropped [] h = refl
nothing_dropped (x ∷ xs) h = cc
