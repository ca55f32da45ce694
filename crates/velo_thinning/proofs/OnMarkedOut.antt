-- The variables that are marked, left out one after another.
use Rattle.std.proofs.Common.{◌≡◌, ℕ, ◌+◌, ◌≤◌, Bool, true, false, List, length, Result, Ok, Err, refl, sym, ap, ◌∙◌, arith, ⊎_elim, inl, inr}
use Rattle.std.specs.Prelude.{◌⊎◌, ◌&&◌, ◌||◌, ◌==◌, nat_lt, if◌then◌else◌, IfOk, IsTrue, IsFalse}
use Rattle.std.proofs.lemmas.Bool.{cases_Bool, cases_eq, cases_lt, and_from, and_left, and_right, or_right, eq-eqb, ne_eqb, lt-ltb, le-ltb}
use Rattle.std.proofs.lemmas.List.{get_or_past}
use Rattle.velo_filter.specs.Left.{Omitted, nothing, with_variable}
use Rattle.velo_filter.specs.Tables.{marked}
use Rattle.velo_filter.proofs.OnTables.{left_same}
use Rattle.velo_laws.specs.Ordered.{only}
use Rattle.velo_thinning.specs.Races.{no_lock}
use Rattle.velo_thinning.specs.Sweep.{with_marked}

-- those below n that are marked are left out, and nothing else
pub record IsMarkedOut (marks : List Bool) (n : ℕ) (left : Omitted) : Type 0 where
  pub labels : (k : ℕ) → left.labels k ≡ false
  pub locks : (k : ℕ) → left.locks k ≡ false
  pub variables : (k : ℕ) → left.variables k ≡ (nat_lt k n && marked marks k)

pub marked-start : (marks : List Bool) (left : Omitted) → left ≡ nothing → IsMarkedOut marks 0 left
marked-start marks left is = record {
  labels = λ k. ap (λ (l : Omitted). l.labels k) is;
  locks = λ k. ap (λ (l : Omitted). l.locks k) is;
  variables = λ k. ap (λ (l : Omitted). l.variables k) is ∙ sym (and_left (nat_lt k 0) (marked marks k) (le-ltb k 0 (omega arith)));
}

-- a number below n + 1 is below n, or it is n
below-next : (marks : List Bool) (n k : ℕ) → (k ≡ n → ⊥) → (nat_lt k n && marked marks k) ≡ (nat_lt k (n + 1) && marked marks k)
below-next marks n k other = ap (λ b. b && marked marks k) (⊎_elim
    (λ l. lt-ltb k n l ∙ sym (lt-ltb k (n + 1) (omega (arith, l))))
    (λ g. le-ltb k n g ∙ sym (le-ltb k (n + 1) (above g)))
    (cases_lt k n))
  where
    above : n ≤ k → n + 1 ≤ k
    above g = ⊎_elim (λ e. absurd (other e)) (λ h. h) (at_or_above g)
      where
        at_or_above : n ≤ k → (k ≡ n) ⊎ (n + 1 ≤ k)
        at_or_above h = ⊎_elim (λ e. inl e) (λ d. inr (omega (arith, h, d))) (cases_eq k n)

module _ (marks : List Bool) (n : ℕ) (old new : Omitted) (is : new ≡ with_marked marks n old) (before : IsMarkedOut marks n old) where
  marked-here : IsTrue (marked marks n) → IsMarkedOut marks (n + 1) new
  marked-here h =
      let now : new ≡ with_variable old n = is ∙ ap (λ b. if b then with_variable old n else old) h in
      record {
        labels = λ k. ap (λ (l : Omitted). l.labels k) now ∙ before.labels k;
        locks = λ k. ap (λ (l : Omitted). l.locks k) now ∙ before.locks k;
        variables = λ k. ap (λ (l : Omitted). l.variables k) now ∙ (ap (λ b. b || (k == n)) (before.variables k) ∙ ⊎_elim
            (λ e. or_right (nat_lt k n && marked marks k) (k == n) (eq-eqb k n e) ∙ sym (and_from (nat_lt k (n + 1)) (marked marks k) (lt-ltb k (n + 1) (omega (arith, e))) (ap (marked marks) e ∙ h)))
            (λ d. ap (λ b. (nat_lt k n && marked marks k) || b) (ne_eqb k n d) ∙ (or_false (nat_lt k n && marked marks k) ∙ below-next marks n k d))
            (cases_eq k n));
      }
    where
      or_false : (b : Bool) → (b || false) ≡ b
      or_false true = refl
      or_false false = refl

  marked-not : IsFalse (marked marks n) → IsMarkedOut marks (n + 1) new
  marked-not h =
      let now : new ≡ old = is ∙ ap (λ b. if b then with_variable old n else old) h in
      record {
        labels = λ k. ap (λ (l : Omitted). l.labels k) now ∙ before.labels k;
        locks = λ k. ap (λ (l : Omitted). l.locks k) now ∙ before.locks k;
        variables = λ k. ap (λ (l : Omitted). l.variables k) now ∙ (before.variables k ∙ ⊎_elim
            (λ e. and_right (nat_lt k n) (marked marks k) (ap (marked marks) e ∙ h) ∙ sym (and_right (nat_lt k (n + 1)) (marked marks k) (ap (marked marks) e ∙ h)))
            (λ d. below-next marks n k d)
            (cases_eq k n));
      }

  pub marked-next : IsMarkedOut marks (n + 1) new
  marked-next = ⊎_elim marked-here marked-not (cases_Bool (marked marks n))

pub marked-all : (marks : List Bool) (n : ℕ) (left : Omitted) → length marks ≤ n → IsMarkedOut marks n left → left ≡ only no_lock (marked marks)
marked-all marks n left all w = left_same left (only no_lock (marked marks)) w.labels w.locks (λ x. w.variables x ∙ ⊎_elim
    (λ l. ap (λ b. b && marked marks x) (lt-ltb x n (omega (arith, l, all))))
    (λ g. let none = get_or_past marks x false g in and_right (nat_lt x n) (marked marks x) none ∙ sym none)
    (cases_lt x (length marks)))

-- what two facts of an answer say together
pub both_ok : {T E : Type 0} (P Q R : T → Type 0) → ((x : T) → P x → Q x → R x) → (r : Result T E) → IfOk r P → IfOk r Q → IfOk r R
both_ok P Q R h (Ok x) p q = h x p q
both_ok P Q R h (Err e) p q = p
