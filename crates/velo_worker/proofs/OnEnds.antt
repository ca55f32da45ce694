-- The ends of a body's repeats, found from its last statement to its first.
use Rattle.std.proofs.Common.{◌≡◌, ◌≢◌, ◌<◌, ◌≤◌, ℕ, ◌+◌, ◌-◌, List, length, drop, get_or, set, Some, sym, ◌∙◌, ap, subst, arith, get_or-set_other, get_or-set_same, ⊎_elim, inl, inr}
use Rattle.std.specs.Prelude.{slice_get, ◌⊎◌}
use Rattle.std.proofs.Math.Seq.{drop-length}
use Rattle.std.proofs.lemmas.Bool.{cases_lt}
use Rattle.std.proofs.lemmas.Option.{slice_get_within}
use Rattle.velo_workload.specs.declared.statement.Statement.{Statement}
use Rattle.velo_workload.specs.declared.statement.Statement.TheVariants.{Repeat, Done}
use Rattle.velo_worker.specs.Cursor.{IsRepeatEnd, AreRepeatEnds, behind, end_before}
use Rattle.velo_worker.proofs.OnLevels.{drop-at, behind-twice}

-- the ends are those of the statements from position i on
pub record AreRepeatEndsFrom (body : List Statement) (ends : List ℕ) (i : ℕ) : Type 0 where
  pub each : (j : ℕ) → i ≤ j → j < length body → IsRepeatEnd body (j + 1) (get_or ends j 0)

pub IsRepeatEnd-start : (body : List Statement) → IsRepeatEnd body (length body) (length body)
unfolding behind
IsRepeatEnd-start body = record {
  within = omega arith;
  later = omega arith;
  behind = drop-length body ∙ ap (behind 0) (sym (drop-length body));
}

pub AreRepeatEndsFrom-start : (body : List Statement) (ends : List ℕ) → AreRepeatEndsFrom body ends (length body)
AreRepeatEndsFrom-start body ends = record { each = λ j a b. absurd (omega (arith, a, b)) }

pub AreRepeatEndsFrom-next : (body : List Statement) (ends : List ℕ) (i end : ℕ) → length ends ≡ length body → i < length body → IsRepeatEnd body (i + 1) end → AreRepeatEndsFrom body ends (i + 1)
    → AreRepeatEndsFrom body (set ends i end) i
AreRepeatEndsFrom-next body ends i end count within is from = record {
  each = λ j after inside. at j after inside (cases_le i j after);
}
  where
    cases_le : (i j : ℕ) → i ≤ j → (j ≡ i) ⊎ (i + 1 ≤ j)
    cases_le i j h = ⊎_elim (λ l. inr (omega (arith, l))) (λ l. inl (omega (arith, l, h))) (cases_lt i j)

    at : (j : ℕ) → i ≤ j → j < length body → (j ≡ i) ⊎ (i + 1 ≤ j) → IsRepeatEnd body (j + 1) (get_or (set ends i end) j 0)
    at j after inside (inl same) =
        let room : i < length ends = omega (arith, count, within) in
        subst (λ k. IsRepeatEnd body (k + 1) (get_or (set ends i end) k 0)) (sym same) (rw (get_or-set_same ends i end 0 room) is)
    at j after inside (inr later) =
        let other : j ≢ i = omega (arith, later) in
        rw (get_or-set_other ends i j end 0 other) (from.each j later inside)

pub IsRepeatEnd-before : (body : List Statement) (ends : List ℕ) (i end : ℕ) (s : Statement) → slice_get body i ≡ Some s → IsRepeatEnd body (i + 1) end → AreRepeatEndsFrom body ends i
    → IsRepeatEnd body i (end_before s i ends end)
unfolding behind
IsRepeatEnd-before body ends i end Done here is from =
    let within : i < length body = slice_get_within body i Done here in record {
      within = omega (arith, within);
      later = omega arith;
      behind = sym (ap (behind 0) (drop-at body i Done here));
    }
IsRepeatEnd-before body ends i end (Repeat n) here is from =
    let a : i ≤ end - 1 = omega (arith, is.later) in
    let b : end - 1 < length body = omega (arith, is.later, is.within) in
    let outer = from.each (end - 1) a b in
    let e : end - 1 + 1 ≡ end = omega (arith, is.later) in record {
      within = outer.within;
      later = omega (arith, outer.later, a);
      behind = outer.behind ∙ ap (λ k. behind 0 (drop k body)) e ∙ ap (behind 0) is.behind ∙ sym (behind-twice 0 (drop (i + 1) body)) ∙ sym (ap (behind 0) (drop-at body i (Repeat n) here));
    }
IsRepeatEnd-before body ends i end s here is from = record {
  within = is.within;
  later = omega (arith, is.later);
  behind = is.behind ∙ sym (ap (behind 0) (drop-at body i s here));
}
