-- Numbers that are gathered, each once.
use Rattle.std.proofs.Common.{◌≡◌, ℕ, ◌+◌, ◌<◌, Bool, true, false, cond, List, [], ◌∷◌, ◌++◌, length, drop, drop-cons, get_or, refl, suc, sym, ap, ◌∙◌, arith}
use Rattle.std.specs.Prelude.{◌||◌, ◌==◌, fold}
use Rattle.std.specs.List.{flat_map, list_any}
use Rattle.std.proofs.lemmas.List.Sums.{fold-append}
use Rattle.velo_names.specs.Names.{NameLists}
use Rattle.velo_names.specs.declared.kind.NameKind.{NameKind}
use Rattle.velo_filter.specs.Left.{is_listed, nothing, with_number as with_member}
use Rattle.velo_filter.proofs.OnTables.{is_listed-append, is_listed-nil, is_listed-one}
use Rattle.velo_sidecars.specs.declared.list_line.Entry.{Entry as Found}
use Rattle.velo_sidecars.specs.ListAnswers.{AreSeen, entries, entry}
use Rattle.velo_sidecars.specs.Known.{has_all_locks, is_all_locks, numbers_in, with_number}

-- ---- one number

pub none_seen_of : (seen : ℕ → Bool) (numbers : List ℕ) → seen ≡ nothing.labels → numbers ≡ [] → AreSeen seen numbers
none_seen_of seen numbers is none = record { each = λ n. ap (λ (f : ℕ → Bool). f n) is ∙ (sym (is_listed-nil n) ∙ ap (λ (xs : List ℕ). is_listed xs n) (sym none)) }

pub is_there : (seen : ℕ → Bool) (numbers : List ℕ) (n : ℕ) → AreSeen seen numbers → seen n ≡ true → numbers ≡ with_number numbers n
is_there seen numbers n all there = sym (ap (λ (b : Bool). cond b numbers (numbers ++ n ∷ [])) (sym (all.each n) ∙ there))

pub is_new : (seen : ℕ → Bool) (numbers : List ℕ) (n : ℕ) → AreSeen seen numbers → seen n ≡ false → numbers ++ n ∷ [] ≡ with_number numbers n
is_new seen numbers n all new = sym (ap (λ (b : Bool). cond b numbers (numbers ++ n ∷ [])) (sym (all.each n) ∙ new))

pub more_seen : (seen seen' : ℕ → Bool) (numbers numbers' : List ℕ) (n : ℕ) → AreSeen seen numbers → seen' ≡ with_member seen n → numbers' ≡ numbers ++ n ∷ [] → AreSeen seen' numbers'
more_seen seen seen' numbers numbers' n all left is = record {
  each = λ k.
      ap (λ (f : ℕ → Bool). f k) left
      ∙ (ap (λ (b : Bool). b || (k == n)) (all.each k)
      ∙ (ap (λ (b : Bool). is_listed numbers k || b) (sym (is_listed-one n k))
      ∙ (sym (is_listed-append numbers (n ∷ []) k) ∙ ap (λ (xs : List ℕ). is_listed xs k) (sym is))));
}

-- ---- numbers one after another

module _ {X : Type 0} (xs : List X) (i : ℕ) (d : X) (more : i < length xs) where
  next : drop i xs ≡ get_or xs i d ∷ drop (i + 1) xs
  next =
      let on : suc i ≡ i + 1 = omega arith in
      drop-cons xs i d more ∙ ap (λ (n : ℕ). get_or xs i d ∷ drop n xs) on

-- ---- entries one after another

pub any_of_all : (found : List Found) → list_any (λ f. is_all_locks (entry f)) found ≡ has_all_locks (entries found)
any_of_all [] = refl
any_of_all (f ∷ fs) = ap (λ (b : Bool). is_all_locks (entry f) || b) (any_of_all fs)

pub entry_added : (names : NameLists) (kind : NameKind) (all : List Found) (i : ℕ) (d : Found) → i < length all → (numbers new : List ℕ) (these : List ℕ) (whole : List ℕ)
    → fold with_number numbers (flat_map (numbers_in names kind) (entries (drop i all))) ≡ whole → these ≡ numbers_in names kind (entry (get_or all i d)) → new ≡ fold with_number numbers these
    → fold with_number new (flat_map (numbers_in names kind) (entries (drop (i + 1) all))) ≡ whole
entry_added names kind all i d more numbers new these whole so means is =
    let rest = flat_map (numbers_in names kind) (entries (drop (i + 1) all)) in
    ap (λ (xs : List ℕ). fold with_number xs rest) (is ∙ ap (fold with_number numbers) means)
    ∙ (sym (fold-append with_number numbers (numbers_in names kind (entry (get_or all i d))) rest)
    ∙ (sym (ap (λ (fs : List Found). fold with_number numbers (flat_map (numbers_in names kind) (entries fs))) (next all i d more)) ∙ so))
