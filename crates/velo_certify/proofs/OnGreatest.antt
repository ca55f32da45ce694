-- Numbers of the positions before one, or after it; and conflicts are the same both ways.
use Rattle.std.proofs.Common.{◌≡◌, ℕ, ◌+◌, ◌≤◌, Bool, true, false, cond, List, Option, Some, None, refl, sym, ap, ◌∙◌, arith, ⊎_elim, inl, inr}
use Rattle.std.specs.Prelude.{◌⊎◌, ◌&&◌, ◌||◌, ◌==◌, nat_lt, nat_le, slice_get, IsTrue}
use Rattle.std.specs.Cmp.{nat_eq_equiv}
use Rattle.std.proofs.lemmas.Bool.{cases_lt, cases_eq, lt-ltb, le-leb, le-ltb, lt-leb, cond-true}
use Rattle.velo_events.specs.declared.event.Event.{Event}
use Rattle.velo_events.specs.Event.{are_same, thread_of, access_of, cell_of, thread_forked_or_joined, is_exclusive}
use Rattle.velo_events.specs.Block.{passes_at}
use Rattle.velo_events.specs.Graph.{conflict_at, both_conflict}
use Rattle.velo_events.specs.Conflict.{conflict}
use Rattle.velo_events.proofs.OnScans.{passes_at-event, passes_at-is, event_at}
use Rattle.velo_events.proofs.OnReorderings.{conflict_at-within}
use Rattle.velo_traces.specs.Numbers.{IsGreatest, IsNumbered}
use Rattle.velo_certify.specs.Table.{IsGreatestBefore, IsGreatestAfter, numbers_before, numbers_from}

-- ---- forwards and backwards

pub IsNumbered-before : (numbers : ℕ → ℕ) (n number : ℕ) → numbers n ≡ number → IsNumbered (numbers_before numbers n) (numbers_before numbers (n + 1)) n number
IsNumbered-before numbers n number is = record {
  before = ap (λ b. cond {A = ℕ} b (numbers n) 0) (le-ltb n n (omega arith));
  after = ap (λ b. cond {A = ℕ} b (numbers n) 0) (lt-ltb n (n + 1) (omega arith)) ∙ is;
  others = λ i other. ⊎_elim
      (λ l. ap (λ b. cond {A = ℕ} b (numbers i) 0) (lt-ltb i (n + 1) (omega (arith, l)) ∙ sym (lt-ltb i n l)))
      (λ g. ap (λ b. cond {A = ℕ} b (numbers i) 0) (le-ltb i (n + 1) (let more : n + 1 ≤ i = ⊎_elim (λ e. absurd (other (sym e))) (λ l. l) (at_or_after n i g) in more) ∙ sym (le-ltb i n g)))
      (cases_lt i n);
}
  where
    at_or_after : (a b : ℕ) → a ≤ b → (a ≡ b) ⊎ (a + 1 ≤ b)
    at_or_after a b l = ⊎_elim (λ e. inl e) (λ d. inr (⊎_elim (λ s. omega (arith, s)) (λ s. absurd (d (omega (arith, s, l)))) (cases_lt a b))) (cases_eq a b)

pub IsNumbered-from : (numbers : ℕ → ℕ) (n number : ℕ) → numbers n ≡ number → IsNumbered (numbers_from numbers (n + 1)) (numbers_from numbers n) n number
IsNumbered-from numbers n number is = record {
  before = ap (λ b. cond {A = ℕ} b (numbers n) 0) (lt-leb (n + 1) n (omega arith));
  after = ap (λ b. cond {A = ℕ} b (numbers n) 0) (le-leb n n (omega arith)) ∙ is;
  others = λ i other. ⊎_elim
      (λ l. ap (λ b. cond {A = ℕ} b (numbers i) 0) (lt-leb n i l ∙ sym (lt-leb (n + 1) i (omega (arith, l)))))
      (λ g. ap (λ b. cond {A = ℕ} b (numbers i) 0) (le-leb n i g ∙ sym (le-leb (n + 1) i (⊎_elim (λ s. omega (arith, s)) (λ s. absurd (other (let e : i ≡ n = omega (arith, s, g) in e))) (cases_lt n i)))))
      (cases_lt i n);
}

module _ (trace : List Event) (j : ℕ) (e : Event) (here : slice_get trace j ≡ Some e) where
  conflict-here : (i : ℕ) (f : Event) → slice_get trace i ≡ Some f → conflict_at trace i j ≡ conflict f e
  unfolding conflict_at
  conflict-here i f there = rw (there, here) refl

  pub passes-conflict : (i : ℕ) → IsTrue (conflict_at trace i j) → IsTrue (passes_at trace (λ f. conflict f e) i)
  passes-conflict i c =
      let f = event_at trace i (conflict_at-within trace i j c).0 in
      passes_at-is trace (λ g. conflict g e) i f.0 f.1 ∙ (sym (conflict-here i f.0 f.1) ∙ c)

  pub conflict-passes : (i : ℕ) → IsTrue (passes_at trace (λ f. conflict f e) i) → IsTrue (conflict_at trace i j)
  conflict-passes i h = let f = passes_at-event trace (λ g. conflict g e) i h in conflict-here i f.0 f.1 ∙ f.2

  pub IsGreatestBefore-by : (numbers : ℕ → ℕ) (m : ℕ) → IsGreatest trace (numbers_before numbers j) (λ f. conflict f e) m → IsGreatestBefore trace numbers j m
  IsGreatestBefore-by numbers m w = record {
    covers = λ i l c. let most = w.covers i (passes-conflict i c) in let is = cond-true (nat_lt i j) (numbers i) 0 (lt-ltb i j l) in omega (arith, most, is);
    reached = λ some.
        let k = w.reached some in
        ⊎_elim
        (λ l. (k.0, l, conflict-passes k.0 k.1, sym (cond-true (nat_lt k.0 j) (numbers k.0) 0 (lt-ltb k.0 j l)) ∙ k.2))
        (λ g. absurd (let none : numbers_before numbers j k.0 ≡ 0 = ap (λ b. cond {A = ℕ} b (numbers k.0) 0) (le-ltb k.0 j g) in omega (arith, none, k.2, some)))
        (cases_lt k.0 j);
  }

-- ---- conflicts are the same both ways

are_same-comm : (a b : Option ℕ) → are_same a b ≡ are_same b a
are_same-comm None None = refl
are_same-comm None (Some y) = refl
are_same-comm (Some x) None = refl
are_same-comm (Some x) (Some y) = nat_eq_equiv.symm x y

or-comm : (a b : Bool) → (a || b) ≡ (b || a)
or-comm true true = refl
or-comm true false = refl
or-comm false true = refl
or-comm false false = refl

or-swap : (a b c : Bool) → ((a || b) || c) ≡ ((a || c) || b)
or-swap true b c = refl
or-swap false b c = or-comm b c

pub conflict-comm : (a b : Event) → conflict a b ≡ conflict b a
conflict-comm a b =
    ap (λ s. s || (are_same (cell_of (access_of a.kind)) (cell_of (access_of b.kind)) && (is_exclusive (access_of a.kind) || is_exclusive (access_of b.kind))) || are_same (thread_forked_or_joined a.kind) (Some (thread_of b)) || are_same (thread_forked_or_joined b.kind) (Some (thread_of a))) (nat_eq_equiv.symm (thread_of a) (thread_of b))
    ∙ (ap (λ s. (thread_of b == thread_of a) || (s && (is_exclusive (access_of a.kind) || is_exclusive (access_of b.kind))) || are_same (thread_forked_or_joined a.kind) (Some (thread_of b)) || are_same (thread_forked_or_joined b.kind) (Some (thread_of a))) (are_same-comm (cell_of (access_of a.kind)) (cell_of (access_of b.kind)))
    ∙ (ap (λ s. (thread_of b == thread_of a) || (are_same (cell_of (access_of b.kind)) (cell_of (access_of a.kind)) && s) || are_same (thread_forked_or_joined a.kind) (Some (thread_of b)) || are_same (thread_forked_or_joined b.kind) (Some (thread_of a))) (or-comm (is_exclusive (access_of a.kind)) (is_exclusive (access_of b.kind)))
    ∙ or-swap ((thread_of b == thread_of a) || (are_same (cell_of (access_of b.kind)) (cell_of (access_of a.kind)) && (is_exclusive (access_of b.kind) || is_exclusive (access_of a.kind)))) (are_same (thread_forked_or_joined a.kind) (Some (thread_of b))) (are_same (thread_forked_or_joined b.kind) (Some (thread_of a)))))

both_conflict-comm : (a b : Option Event) → both_conflict a b ≡ both_conflict b a
both_conflict-comm None None = refl
both_conflict-comm None (Some f) = refl
both_conflict-comm (Some e) None = refl
both_conflict-comm (Some e) (Some f) = conflict-comm e f

conflict_at-comm : (trace : List Event) (i j : ℕ) → conflict_at trace i j ≡ conflict_at trace j i
unfolding conflict_at
conflict_at-comm trace i j = both_conflict-comm (slice_get trace i) (slice_get trace j)

pub IsGreatestAfter-by : (trace : List Event) (j : ℕ) (e : Event) → slice_get trace j ≡ Some e → (numbers : ℕ → ℕ) (m : ℕ) → IsGreatest trace (numbers_from numbers (j + 1)) (λ f. conflict f e) m → IsGreatestAfter trace numbers j m
IsGreatestAfter-by trace j e here numbers m w = record {
  covers = λ i l c.
      let most = w.covers i (passes-conflict trace j e here i (conflict_at-comm trace i j ∙ c)) in
      let is = cond-true (nat_le (j + 1) i) (numbers i) 0 (le-leb (j + 1) i (omega (arith, l))) in omega (arith, most, is);
  reached = λ some.
      let k = w.reached some in
      ⊎_elim
      (λ l. (k.0, l, conflict_at-comm trace j k.0 ∙ conflict-passes trace j e here k.0 k.1, sym (cond-true (nat_le (j + 1) k.0) (numbers k.0) 0 (le-leb (j + 1) k.0 (omega (arith, l)))) ∙ k.2))
      (λ g. absurd (let none : numbers_from numbers (j + 1) k.0 ≡ 0 = ap (λ b. cond {A = ℕ} b (numbers k.0) 0) (lt-leb (j + 1) k.0 (omega (arith, g))) in omega (arith, none, k.2, some)))
      (cases_lt j k.0);
}
