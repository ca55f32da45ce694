-- How the levels of a body change past one statement.
use Rattle.std.proofs.Common.{◌≡◌, ◌<◌, ℕ, zero, suc, ◌+◌, List, [], ◌∷◌, ◌++◌, drop, Some, refl, sym, ◌∙◌, ap, subst, arith, append_assoc}
use Rattle.std.specs.Prelude.{slice_get, IsTrue, ⊤, nat_lt}
use Rattle.std.proofs.lemmas.Option.{slice_get_within, get_or_from_slice_get}
use Rattle.std.proofs.lemmas.List.{drop_more}
use Rattle.std.proofs.lemmas.Bool.{and_parts, ltb-true, eqb-true, false≢true}
use Rattle.velo_workload.specs.declared.statement.Statement.{Statement}
use Rattle.velo_workload.specs.declared.statement.Statement.TheVariants.{Repeat, Done}
use Rattle.velo_workload.specs.Bodies.{is_nested}
use Rattle.velo_worker.specs.declared.cursor.OpenRepeat.{OpenRepeat}
use Rattle.velo_worker.specs.Walk.{first, others, with_statement, with_repeat, levels}
use Rattle.velo_worker.specs.Cursor.{left_in_levels, AreOpen, behind}

-- a statement that neither begins nor ends what is repeated
abbrev pub IsPlain : Statement → Type 0
IsPlain (Repeat n) = ⊥
IsPlain Done = ⊥
IsPlain statement = ⊤

pub drop-at : {X : Type 0} (xs : List X) (i : ℕ) (x : X) → slice_get xs i ≡ Some x → drop i xs ≡ x ∷ drop (i + 1) xs
drop-at xs i x here =
    drop_more xs i x (slice_get_within xs i x here) ∙ ap (λ y. y ∷ drop (i + 1) xs) (get_or_from_slice_get xs i x x here)

-- ---- one statement

pub levels-plain : (s : Statement) (rest : List Statement) → IsPlain s → levels (s ∷ rest) ≡ with_statement s (levels rest)
unfolding levels
levels-plain (Repeat n) rest plain = absurd plain
levels-plain Done rest plain = absurd plain
levels-plain s rest plain = refl

pub levels-repeat : (n : ℕ) (rest : List Statement) → levels (Repeat n ∷ rest) ≡ with_repeat n (levels rest)
unfolding levels
levels-repeat n rest = refl

pub levels-done : (rest : List Statement) → levels (Done ∷ rest) ≡ [] ∷ levels rest
unfolding levels
levels-done rest = refl

pub nested-plain : (n : ℕ) (s : Statement) (rest : List Statement) → IsPlain s → IsTrue (is_nested n (s ∷ rest)) → IsTrue (is_nested n rest)
unfolding is_nested
nested-plain n (Repeat k) rest plain h = absurd plain
nested-plain n Done rest plain h = absurd plain
nested-plain n s rest plain h = h

pub nested-repeat : (n k : ℕ) (rest : List Statement) → IsTrue (is_nested n (Repeat k ∷ rest)) → (n < 8) × IsTrue (is_nested (suc n) rest)
unfolding is_nested
nested-repeat n k rest h = let both = and_parts (nat_lt n 8) (is_nested (suc n) rest) h in (ltb-true n 8 both.0, both.1)

pub nested-done : (n : ℕ) (rest : List Statement) → IsTrue (is_nested (suc n) (Done ∷ rest)) → IsTrue (is_nested n rest)
unfolding is_nested
nested-done n rest h = h

pub nested-not_done : (rest : List Statement) → IsTrue (is_nested 0 (Done ∷ rest)) → ⊥
unfolding is_nested
nested-not_done rest h = false≢true h

pub nested-end : (n : ℕ) → IsTrue (is_nested n []) → n ≡ 0
unfolding is_nested
nested-end n h = eqb-true n 0 h

-- ---- behind the end of a repeat

pub behind-twice : (n : ℕ) (xs : List Statement) → behind (suc n) xs ≡ behind 0 (behind n xs)
unfolding behind
behind-twice n [] = refl
behind-twice n (Repeat k ∷ rest) = behind-twice (suc n) rest
behind-twice zero (Done ∷ rest) = refl
behind-twice (suc n) (Done ∷ rest) = behind-twice n rest
behind-twice n (s ∷ rest) = behind-twice n rest

skip : ℕ → List (List Statement) → List (List Statement)
skip zero ls = others ls
skip (suc n) ls = skip n (others ls)

skip-same : (n : ℕ) (a b : List (List Statement)) → others a ≡ others b → skip n a ≡ skip n b
unfolding skip
skip-same zero a b h = h
skip-same (suc n) a b h = ap (skip n) h

skip-nil : (n : ℕ) → skip n [] ≡ []
unfolding skip
skip-nil zero = refl
skip-nil (suc n) = skip-nil n

levels-skip : (n : ℕ) (xs : List Statement) → levels (behind n xs) ≡ skip n (levels xs)
unfolding behind levels skip
levels-skip n [] = sym (skip-nil n)
levels-skip n (Repeat k ∷ rest) = levels-skip (suc n) rest ∙ skip-same n (others (levels rest)) (with_repeat k (levels rest)) refl
levels-skip zero (Done ∷ rest) = refl
levels-skip (suc n) (Done ∷ rest) = levels-skip n rest
levels-skip n (s ∷ rest) = levels-skip n rest ∙ skip-same n (levels rest) (with_statement s (levels rest)) refl

pub levels-behind : (xs : List Statement) → levels (behind 0 xs) ≡ others (levels xs)
unfolding skip
levels-behind xs = levels-skip 0 xs

nested-skip : (n k m : ℕ) (xs : List Statement) → m ≡ suc (n + k) → IsTrue (is_nested m xs) → IsTrue (is_nested k (behind n xs))
unfolding behind is_nested
nested-skip n k m [] e h = absurd (omega (arith, e, eqb-true m 0 h))
nested-skip n k m (Repeat j ∷ rest) e h =
    let both = and_parts (nat_lt m 8) (is_nested (suc m) rest) h in
    nested-skip (suc n) k (suc m) rest (omega (arith, e)) both.1
nested-skip n k zero (Done ∷ rest) e h = absurd (false≢true h)
nested-skip zero k (suc m) (Done ∷ rest) e h = let same : m ≡ k = omega (arith, e) in subst (λ j. IsTrue (is_nested j rest)) same h
nested-skip (suc n) k (suc m) (Done ∷ rest) e h = nested-skip n k m rest (omega (arith, e)) h
nested-skip n k m (s ∷ rest) e h = nested-skip n k m rest e h

pub nested-behind : (k : ℕ) (xs : List Statement) → IsTrue (is_nested (suc k) xs) → IsTrue (is_nested k (behind 0 xs))
nested-behind k xs h = nested-skip 0 k (suc k) xs (omega arith) h

-- ---- what is left, and the open repeats, by the levels alone

pub left_in_levels-front : (body : List Statement) (repeats : List OpenRepeat) (xs : List Statement) (ls : List (List Statement))
    → left_in_levels body repeats ((xs ++ first ls) ∷ others ls) ≡ xs ++ left_in_levels body repeats ls
unfolding left_in_levels
left_in_levels-front body [] xs ls = refl
left_in_levels-front body (r ∷ repeats) xs ls = simp append_assoc

pub AreOpen-same : (body : List Statement) (repeats : List OpenRepeat) (a b : List (List Statement)) → others a ≡ others b → AreOpen body repeats a → AreOpen body repeats b
unfolding AreOpen
AreOpen-same body [] a b h p = tt
AreOpen-same body (r ∷ repeats) a b h p = (p.0 ∙ h, p.1, p.2, subst (AreOpen body repeats) h p.3)
