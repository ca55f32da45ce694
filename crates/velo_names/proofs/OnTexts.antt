-- The text of a mapping is read back.
use Rattle.std.proofs.Common.{◌≡◌, ℕ, ◌+◌, ◌/◌, ◌%◌, ◌^◌, ◌<◌, ◌≤◌, Bool, true, false, cond, eqb, nat_lt, ◌||◌, not, List, [], ◌∷◌, ◌++◌, length, Option, Some, None, is_some, Result, Ok, Err, refl, sym, ap, subst, ◌∙◌, append_assoc, append-nil, arith}
use Rattle.std.specs.Prelude.{decimal, codes, IsTrue}
use Rattle.std.specs.List.{AllByRecursion, onto_first, flat_map}
use Rattle.std.proofs.lemmas.Fmt.{decimal_by_steps}
use Rattle.std.proofs.lemmas.Bool.{and_parts}
use Rattle.std.proofs.lemmas.Bool.Decides.{nat_tests}
use Rattle.velo_names.specs.declared.limits.TheConstants.{MAX_NAME_BYTES, MAX_NAME_LINES}
use Rattle.velo_names.specs.declared.fault.NamesFault.{NamesFault}
use Rattle.velo_names.specs.declared.fault.NamesFault.TheVariants.{NamedTwice}
use Rattle.velo_names.specs.declared.kind.NameKind.{NameKind}
use Rattle.velo_names.specs.declared.kind.NameKind.TheVariants.{Thread, Variable, Lock, Label}
use Rattle.velo_names.specs.Line.{Naming, IsNaming, greatest, is_control, has_control, is_name, is_silent, kind_text, naming_text, naming_of, lines}
use Rattle.velo_names.specs.Names.{NameList, NameLists, no_names, list_of, with_list, name_in, list_with, put_list, names_with, names_after, names_from, names_in_text, naming_line, list_text, names_text, FitsKind, AreFresh, AreNames, IsMapping}
use Rattle.velo_names.proofs.OnNamings.{naming_again}
use Rattle.velo_names.proofs.OnReading.{named, line_right}

-- ---- a line ends at its newline

-- no newline is among them
abbrev Plain : List ℕ → Type 0
Plain bs = AllByRecursion (λ b. eqb b 10 ≡ false) bs

plain_append : (xs ys : List ℕ) → Plain xs → Plain ys → Plain (xs ++ ys)
plain_append [] ys p q = q
plain_append (x ∷ xs) ys p q = (p.0, plain_append xs ys p.1 q)

line_ends : (line rest : List ℕ) → Plain line → lines (line ++ 10 ∷ rest) ≡ line ∷ lines rest
line_ends [] rest p = refl
line_ends (b ∷ bs) rest p =
    ap (λ (v : Bool). cond v ([] ∷ lines (bs ++ 10 ∷ rest)) (onto_first b (lines (bs ++ 10 ∷ rest)))) p.0
    ∙ ap (onto_first b) (line_ends bs rest p.1)

-- ---- the line of a name has no newline

plain_digit : (d : ℕ) → d < 10 → eqb (48 + d) 10 ≡ false
plain_digit d lt = grind (arith, nat_tests)

digit_plain : (n : ℕ) → n < 10 → Plain ((48 + n) ∷ [])
digit_plain n lt = (plain_digit n lt, tt)

digits_plain : (n : ℕ) (ds : List ℕ) → 10 ≤ n → Plain ds → Plain (ds ++ ((48 + n % 10) ∷ []))
digits_plain n ds ge p = plain_append ds ((48 + n % 10) ∷ []) p (digit_plain (n % 10) (omega arith))

plain_decimal : (n : ℕ) → n < 2 ^ 64 → Plain (decimal n)
plain_decimal n lt = decimal_by_steps (λ n ds. Plain ds) digit_plain digits_plain n lt

neither : (a b : Bool) → (a || b) ≡ false → (a ≡ false) × (b ≡ false)
neither true b e = absurd cc
neither false b e = (refl, e)

plain_byte : (before b : ℕ) → is_control before b ≡ false → eqb b 10 ≡ false
plain_byte before b e =
    let low = (neither (nat_lt b 32) _ e).0 in
    grind (arith, nat_tests)

plain_name : (before : ℕ) (bs : List ℕ) → has_control before bs ≡ false → Plain bs
plain_name before [] e = tt
plain_name before (b ∷ bs) e =
    let parts = neither (is_control before b) (has_control b bs) e in
    (plain_byte before b parts.0, plain_name b bs parts.1)

no_control : (name : List ℕ) → IsTrue (is_name name) → has_control 0 name ≡ false
no_control name h =
    let outer = and_parts (nat_lt 0 (length name)) _ h in
    let inner = and_parts _ (not (has_control 0 name)) outer.1 in
    not_true (has_control 0 name) inner.1
  where
    not_true : (b : Bool) → not b ≡ true → b ≡ false
    not_true true e = absurd cc
    not_true false e = refl

plain_kind : (kind : NameKind) → Plain (kind_text kind)
plain_kind Thread = (refl, (refl, (refl, (refl, (refl, (refl, tt))))))
plain_kind Variable = (refl, (refl, (refl, (refl, (refl, (refl, (refl, (refl, tt))))))))
plain_kind Lock = (refl, (refl, (refl, (refl, tt))))
plain_kind Label = (refl, (refl, (refl, (refl, (refl, tt)))))

small : (kind : NameKind) (n : ℕ) → n ≤ greatest kind → n < 2 ^ 64
small Thread n le = omega arith
small Variable n le = omega arith
small Lock n le = omega arith
small Label n le = omega arith

plain_line : (x : Naming) → IsNaming x → Plain (naming_text x)
plain_line x h =
    plain_append (kind_text x.kind) (codes " " ++ (decimal x.number ++ (codes " " ++ x.name))) (plain_kind x.kind) (
      refl,
      plain_append (decimal x.number) (codes " " ++ x.name) (plain_decimal x.number (small x.kind x.number h.number))
          (refl, plain_name 0 x.name (no_control x.name h.name)),
    )

loud : (kind : NameKind) (rest : List ℕ) → is_silent (kind_text kind ++ rest) ≡ false
loud Thread rest = refl
loud Variable rest = refl
loud Lock rest = refl
loud Label rest = refl

-- ---- one line

not_more : (n : ℕ) → n ≤ MAX_NAME_LINES → nat_lt MAX_NAME_LINES n ≡ false
not_more n le = grind (arith, nat_tests)

list_is : (kind : NameKind) (list : NameList) (names : NameLists) → list_of kind (with_list kind list names) ≡ list
list_is Thread list names = refl
list_is Variable list names = refl
list_is Lock list names = refl
list_is Label list names = refl

list_again : (kind : NameKind) (one two : NameList) (names : NameLists) → with_list kind two (with_list kind one names) ≡ with_list kind two names
list_again Thread one two names = refl
list_again Variable one two names = refl
list_again Lock one two names = refl
list_again Label one two names = refl

fresh_put : (list : NameList) (e : ℕ × List ℕ) (n : ℕ) → name_in list e.0 ≡ None → list_with list e.0 e.1 n ≡ Ok (list ++ e ∷ [])
fresh_put list e n none = ap (λ (o : Option (List ℕ)). wrong_or (is_some o)) none
  where
    wrong_or : Bool → Result NameList NamesFault
    wrong_or v = cond v (Err (NamedTwice n)) (Ok (list ++ (e.0, e.1) ∷ []))

one_more : (kind : NameKind) (before : NameList) (names : NameLists) (e : ℕ × List ℕ) (n : ℕ) → FitsKind kind e → name_in before e.0 ≡ None → n ≤ MAX_NAME_LINES → names_after (with_list kind before names) n (naming_text (record { kind = kind; number = e.0; name = e.1 })) ≡ Ok (with_list kind (before ++ e ∷ []) names)
one_more kind before names e n fits none few =
    let x : Naming = record { kind = kind; number = e.0; name = e.1 } in
    named (with_list kind before names) n (naming_text x) x (not_more n few) (loud kind (codes " " ++ (decimal e.0 ++ (codes " " ++ e.1)))) (naming_again x fits)
    ∙ ap (λ (list : NameList). put_list kind (with_list kind before names) (list_with list e.0 e.1 n)) (list_is kind before names)
    ∙ ap (put_list kind (with_list kind before names)) (fresh_put before e n none)
    ∙ ap (λ (all : NameLists). Ok all) (list_again kind before (before ++ e ∷ []) names)

-- ---- the lines of a kind

list_read : (kind : NameKind) (before list : NameList) (names : NameLists) (n : ℕ) (tail : List ℕ) → AllByRecursion (FitsKind kind) list → AreFresh before list → n + length list ≤ MAX_NAME_LINES → names_from (with_list kind before names) n (lines (list_text kind list ++ tail)) ≡ names_from (with_list kind (before ++ list) names) (n + length list) (lines tail)
list_read kind before [] names n tail fit fresh few =
    ap (λ (l : NameList). names_from (with_list kind l names) n (lines tail)) (sym (append-nil before))
    ∙ ap (λ (m : ℕ). names_from (with_list kind (before ++ []) names) m (lines tail)) (let e : n ≡ n + 0 = omega arith in e)
list_read kind before (e ∷ es) names n tail fit fresh few =
    let x : Naming = record { kind = kind; number = e.0; name = e.1 } in
    let rest = list_text kind es ++ tail in
    let text : list_text kind (e ∷ es) ++ tail ≡ naming_text x ++ 10 ∷ rest =
    append_assoc (naming_line kind e) (list_text kind es) tail ∙ append_assoc (naming_text x) (10 ∷ []) rest in
    ap (λ (t : List ℕ). names_from (with_list kind before names) n (lines t)) text
    ∙ ap (names_from (with_list kind before names) n) (line_ends (naming_text x) rest (plain_line x fit.0))
    ∙ line_right (with_list kind before names) (with_list kind (before ++ e ∷ []) names) n (naming_text x) (lines rest) (one_more kind before names e (n + 1) fit.0 fresh.0 (omega arith))
    ∙ list_read kind (before ++ e ∷ []) es names (n + 1) tail fit.1 fresh.1 (omega arith)
    ∙ ap (λ (l : NameList). names_from (with_list kind l names) (n + 1 + length es) (lines tail)) (append_assoc before (e ∷ []) es)
    ∙ ap (λ (m : ℕ). names_from (with_list kind (before ++ e ∷ es) names) m (lines tail)) (let sum : n + 1 + length es ≡ n + length (e ∷ es) = omega arith in sum)

-- ---- the whole

pub reads_back : (names : NameLists) → IsMapping names → names_in_text (names_text names) ≡ Ok names
reads_back names h =
    let t = names.threads in let v = names.variables in let k = names.locks in let l = names.labels in
    let few = h.few in
    let after_t : NameLists = record { threads = t; variables = []; locks = []; labels = [] } in
    let after_v : NameLists = record { threads = t; variables = v; locks = []; labels = [] } in
    let after_k : NameLists = record { threads = t; variables = v; locks = k; labels = [] } in
    list_read Thread [] t no_names 0 (list_text Variable v ++ (list_text Lock k ++ list_text Label l)) h.threads.fit h.threads.fresh (omega arith)
    ∙ list_read Variable [] v after_t (0 + length t) (list_text Lock k ++ list_text Label l) h.variables.fit h.variables.fresh (omega arith)
    ∙ list_read Lock [] k after_v (0 + length t + length v) (list_text Label l) h.locks.fit h.locks.fresh (omega arith)
    ∙ ap (λ (text : List ℕ). names_from after_k (0 + length t + length v + length k) (lines text)) (sym (append-nil (list_text Label l)))
    ∙ list_read Label [] l after_k (0 + length t + length v + length k) [] h.labels.fit h.labels.fresh (omega arith)
