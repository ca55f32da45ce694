-- What the tables leave out, after a label, lock or variable more.
use Rattle.std.proofs.Common.{◌≡◌, ℕ, ◌+◌, Bool, true, false, cond, List, [], ◌∷◌, ◌++◌, length, nat_eq, refl, sym, ap, ◌∙◌, arith, ⊎_elim}
use Rattle.std.specs.Prelude.{◌||◌, ◌==◌, if◌then◌else◌, slice_set, IsTrue}
use Rattle.std.proofs.lemmas.Bool.{cases_Bool, cases_eq, or_left, or_right, eq-eqb, ne_eqb}
use Rattle.std.proofs.lemmas.List.Folds.{list_any-append}
use Rattle.indexmap.specs.IndexSet.{insert_key}
use Rattle.velo_events.specs.Growth.{filled_up}
use Rattle.velo_events.proofs.OnFilling.{get_or-filled_up, length-filled_up}
use Rattle.velo_events.proofs.OnLists.{get_or-set}
use Rattle.velo_filter.specs.Left.{Omitted, is_listed, with_labels, with_number}
use Rattle.velo_filter.specs.Tables.{marked}

-- two leave out the same where their tests agree
pub left_same : (a b : Omitted) → ((l : ℕ) → a.labels l ≡ b.labels l) → ((m : ℕ) → a.locks m ≡ b.locks m) → ((x : ℕ) → a.variables x ≡ b.variables x) → a ≡ b
left_same a b p q r = λ i. record { labels = λ l. p l i; locks = λ m. q m i; variables = λ x. r x i }

pub is_listed-nil : (n : ℕ) → is_listed [] n ≡ false
unfolding is_listed
is_listed-nil n = refl

pub is_listed-append : (xs ys : List ℕ) (n : ℕ) → is_listed (xs ++ ys) n ≡ (is_listed xs n || is_listed ys n)
unfolding is_listed
is_listed-append xs ys n = list_any-append (λ x. n == x) xs ys

pub is_listed-one : (x n : ℕ) → is_listed (x ∷ []) n ≡ (n == x)
unfolding is_listed
is_listed-one x n = elim (n == x) as (λ b. (b || false) ≡ b) [ true ↦ refl | false ↦ refl ]

-- one more number in the set
pub is_listed-insert : (xs : List ℕ) (x n : ℕ) → is_listed (insert_key nat_eq xs x) n ≡ with_number (is_listed xs) x n
unfolding is_listed
is_listed-insert xs x n = ⊎_elim
    (λ there. ap (λ b. is_listed (cond b xs (xs ++ x ∷ [])) n) there ∙ again there)
    (λ new. ap (λ b. is_listed (cond b xs (xs ++ x ∷ [])) n) new ∙ (is_listed-append xs (x ∷ []) n ∙ ap (λ b. is_listed xs n || b) (is_listed-one x n)))
    (cases_Bool (is_listed xs x))
  where
    again : IsTrue (is_listed xs x) → is_listed xs n ≡ (is_listed xs n || (n == x))
    again there = ⊎_elim
        (λ e. ap (is_listed xs) e ∙ (there ∙ sym (or_left _ _ (ap (is_listed xs) e ∙ there))))
        (λ d. sym (ap (λ b. is_listed xs n || b) (ne_eqb n x d) ∙ elim (is_listed xs n) as (λ b. (b || false) ≡ b) [ true ↦ refl | false ↦ refl ]))
        (cases_eq n x)

-- a set of labels with one more
pub with_labels-one : (left : Omitted) (test : ℕ → Bool) (n : ℕ) → test ≡ with_number left.labels n → record left { labels = test } ≡ with_labels left (n ∷ [])
with_labels-one left test n is = left_same (record left { labels = test }) (with_labels left (n ∷ []))
    (λ l. ap (λ (f : ℕ → Bool). f l) is ∙ ap (λ b. left.labels l || b) (sym (is_listed-one n l)))
    (λ m. refl) (λ x. refl)

-- ---- labels one after another

pub with_labels-nil : (left : Omitted) → left ≡ with_labels left []
with_labels-nil left = left_same left (with_labels left [])
    (λ l. sym (ap (λ b. left.labels l || b) (is_listed-nil l) ∙ elim (left.labels l) as (λ b. (b || false) ≡ b) [ true ↦ refl | false ↦ refl ]))
    (λ m. refl) (λ x. refl)

pub with_labels-push : (left : Omitted) (xs : List ℕ) (n : ℕ) → with_labels (with_labels left xs) (n ∷ []) ≡ with_labels left (xs ++ n ∷ [])
with_labels-push left xs n = left_same (with_labels (with_labels left xs) (n ∷ [])) (with_labels left (xs ++ n ∷ []))
    (λ l. elim (left.labels l) as (λ b. ((b || is_listed xs l) || is_listed (n ∷ []) l) ≡ (b || (is_listed xs l || is_listed (n ∷ []) l))) [ true ↦ refl | false ↦ refl ]
    ∙ ap (λ b. left.labels l || b) (sym (is_listed-append xs (n ∷ []) l)))
    (λ m. refl) (λ x. refl)

-- ---- marks

-- one more mark
pub marked-set : (xs : List Bool) (n : ℕ) (ys : List Bool) → ys ≡ filled_up false (n + 1) xs → marked (slice_set ys n true) ≡ with_number (marked xs) n
marked-set xs n ys is = λ i k. each k i
  where
    each : (k : ℕ) → marked (slice_set ys n true) k ≡ (marked xs k || (k == n))
    each k =
        get_or-set ys n k true false (omega (arith, length-filled_up false (n + 1) xs, ap length is))
        ∙ ⊎_elim
        (λ e. ap (λ b. if b then true else marked ys k) (eq-eqb n k (sym e)) ∙ sym (or_right (marked xs k) _ (eq-eqb k n e)))
        (λ d. ap (λ b. if b then true else marked ys k) (ne_eqb n k (λ e. d (sym e))) ∙ (ap (λ zs. marked zs k) is ∙ (get_or-filled_up false (n + 1) xs k
        ∙ sym (ap (λ b. marked xs k || b) (ne_eqb k n d) ∙ elim (marked xs k) as (λ b. (b || false) ≡ b) [ true ↦ refl | false ↦ refl ]))))
        (cases_eq k n)
