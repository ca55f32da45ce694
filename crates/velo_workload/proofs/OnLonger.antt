-- A name keeps its number when more names come.
use Rattle.std.proofs.Common.{◌≡◌, ℕ, ◌+◌, ◌<◌, ltb, cond, Bool, true, false, List, [], ◌∷◌, ◌++◌, length, Option, Some, None, refl, sym, ap, ◌∙◌, append-nil, append_assoc, length-append, arith}
use Rattle.std.specs.Prelude.{option_map}
use Rattle.std.specs.List.{flat_map, position_or_len}
use Rattle.std.specs.Str.{bytes_eq}
use Rattle.std.proofs.lemmas.Bool.Decides.{nat_tests}
use Rattle.std.proofs.lemmas.List.Concat.{flat_map-append}
use Rattle.std.proofs.lemmas.List.Sums.{fold-append}
use Rattle.indexmap.specs.IndexSet.{insert_all, insert_key}
use Rattle.velo_workload.specs.declared.statement.Statement.{Statement}
use Rattle.velo_workload.specs.declared.statement.Statement.TheVariants as of_statement
use Rattle.velo_workload.specs.Words.{Word}
use Rattle.velo_workload.specs.Phrase.{Spoken, Read, Write, Set, Add, Acquire, Release, Share, Unshare, Begin, End, Fork, Join, Repeat, Done, Phrase}
use Rattle.velo_workload.specs.Outline.{Names, names_in, known, is_among, variable_in, lock_in, thread_in, label_in}
use Rattle.velo_workload.specs.Program.{number_of, statement_of}

-- all has the names of some, in their order, and then others
pub record IsLonger (some all : Names) : Type 0 where
  pub variables : (more : List Word) × (all.variables ≡ some.variables ++ more)
  pub locks : (more : List Word) × (all.locks ≡ some.locks ++ more)
  pub threads : (more : List Word) × (all.threads ≡ some.threads ++ more)
  pub labels : (more : List Word) × (all.labels ≡ some.labels ++ more)

-- ---- numbers

module _ (p : Word → Bool) where
  place_longer : (xs ys : List Word) → position_or_len p xs < length xs → position_or_len p (xs ++ ys) ≡ position_or_len p xs
  place_longer [] ys lt = absurd (omega arith)
  place_longer (x ∷ xs) ys lt = by (p x) refl (place_longer xs ys)
    where
      by : (b : Bool) → p x ≡ b → (position_or_len p xs < length xs → position_or_len p (xs ++ ys) ≡ position_or_len p xs) → position_or_len p (x ∷ (xs ++ ys)) ≡ position_or_len p (x ∷ xs)
      by true e h = rw e refl
      by false e h =
          let here : position_or_len p (x ∷ xs) ≡ 1 + position_or_len p xs = rw e refl in
          let there : position_or_len p (x ∷ (xs ++ ys)) ≡ 1 + position_or_len p (xs ++ ys) = rw e refl in
          there ∙ ap (λ (n : ℕ). 1 + n) (h (omega (arith, here, lt))) ∙ sym here

chosen : (b : Bool) (n i : ℕ) → cond b (Some n) None ≡ Some i → (b ≡ true) × (n ≡ i)
chosen true n i e = (refl, cc)
chosen false n i e = absurd cc

ltb_lt : (m n : ℕ) → ltb m n ≡ true → m < n
ltb_lt m n e = grind (arith, nat_tests)

lt_ltb : (m n : ℕ) → m < n → ltb m n ≡ true
lt_ltb m n lt = grind (arith, nat_tests)

number_longer : (some all : List Word) (w : Word) (i : ℕ) → (more : List Word) × (all ≡ some ++ more) → number_of some w ≡ Some i → number_of all w ≡ Some i
number_longer some all w i longer e =
    let more = longer.0 in
    let p = bytes_eq w in
    let h = chosen (ltb (position_or_len p some) (length some)) (position_or_len p some) i e in
    let lt = ltb_lt _ _ h.0 in
    let same = place_longer p some more lt in
    let within : position_or_len p (some ++ more) < length (some ++ more) = omega (arith, lt, same, length-append some more) in
    ap (λ (all : List Word). number_of all w) longer.1
    ∙ ap (λ (b : Bool). cond b (Some (position_or_len p (some ++ more))) None) (lt_ltb _ _ within) ∙ ap (λ (n : ℕ). Some n) (same ∙ h.1)

named_longer : (some all : List Word) (w : Word) (f : ℕ → Statement) (x : Statement) → (more : List Word) × (all ≡ some ++ more) → option_map f (number_of some w) ≡ Some x → option_map f (number_of all w) ≡ Some x
named_longer some all w f x longer e = by (number_of some w) refl
  where
    by : (o : Option ℕ) → number_of some w ≡ o → option_map f (number_of all w) ≡ Some x
    by None is = absurd (let none = sym (ap (option_map f) is) ∙ e in cc)
    by (Some i) is = ap (option_map f) (number_longer some all w i longer is) ∙ sym (ap (option_map f) is) ∙ e

-- a statement stays what it is
pub statement_longer : (some all : Names) (s : Spoken) (x : Statement) → IsLonger some all → statement_of some s ≡ Some x → statement_of all s ≡ Some x
statement_longer some all (Read w) x longer e = named_longer some.variables all.variables w (λ i. of_statement.Read (record { 0 = i })) x longer.variables e
statement_longer some all (Write w) x longer e = named_longer some.variables all.variables w (λ i. of_statement.Write (record { 0 = i })) x longer.variables e
statement_longer some all (Set n) x longer e = e
statement_longer some all (Add n) x longer e = e
statement_longer some all (Acquire w) x longer e = named_longer some.locks all.locks w (λ i. of_statement.Acquire (record { 0 = i })) x longer.locks e
statement_longer some all (Release w) x longer e = named_longer some.locks all.locks w (λ i. of_statement.Release (record { 0 = i })) x longer.locks e
statement_longer some all (Share w) x longer e = named_longer some.locks all.locks w (λ i. of_statement.Share (record { 0 = i })) x longer.locks e
statement_longer some all (Unshare w) x longer e = named_longer some.locks all.locks w (λ i. of_statement.Unshare (record { 0 = i })) x longer.locks e
statement_longer some all (Begin w) x longer e = named_longer some.labels all.labels w (λ i. of_statement.Begin (record { 0 = i })) x longer.labels e
statement_longer some all End x longer e = e
statement_longer some all (Fork w) x longer e = named_longer some.threads all.threads w (λ i. of_statement.Fork (record { 0 = i })) x longer.threads e
statement_longer some all (Join w) x longer e = named_longer some.threads all.threads w (λ i. of_statement.Join (record { 0 = i })) x longer.threads e
statement_longer some all (Repeat n) x longer e = e
statement_longer some all Done x longer e = e

-- ---- the names of more lines

one_longer : (ls : List Word) (w : Word) → (more : List Word) × (insert_key bytes_eq ls w ≡ ls ++ more)
one_longer ls w = by (is_among ls w) refl
  where
    by : (b : Bool) → is_among ls w ≡ b → (more : List Word) × (insert_key bytes_eq ls w ≡ ls ++ more)
    by true e = ([], ap (λ (b : Bool). cond b ls (ls ++ w ∷ [])) e ∙ sym (append-nil ls))
    by false e = (w ∷ [], ap (λ (b : Bool). cond b ls (ls ++ w ∷ [])) e)

labels_longer : (ls ws : List Word) → (more : List Word) × (insert_all bytes_eq ls ws ≡ ls ++ more)
labels_longer ls [] = ([], sym (append-nil ls))
labels_longer ls (w ∷ ws) =
    let one = one_longer ls w in
    let rest = labels_longer (insert_key bytes_eq ls w) ws in
    (one.0 ++ rest.0, rest.1 ∙ ap (λ (xs : List Word). xs ++ rest.0) one.1 ∙ append_assoc ls one.0 rest.0)

pub names_longer : (before rest : List Phrase) → IsLonger (names_in (known before)) (names_in (known (before ++ rest)))
names_longer before rest =
    let labels = labels_longer (insert_all bytes_eq [] (flat_map label_in before)) (flat_map label_in rest) in
    record {
      variables = (flat_map variable_in rest, flat_map-append variable_in before rest);
      locks = (flat_map lock_in rest, flat_map-append lock_in before rest);
      threads = (flat_map thread_in rest, flat_map-append thread_in before rest);
      labels = (labels.0, ap (insert_all bytes_eq []) (flat_map-append label_in before rest) ∙ fold-append (insert_key bytes_eq) [] (flat_map label_in before) (flat_map label_in rest) ∙ labels.1);
    }
