-- What `number_at` takes is the text of the number, and a text of a number is taken again.
use Rattle.std.proofs.Common.{◌≡◌, ◌≢◌, ℕ, ◌+◌, ◌-◌, ◌*◌, ◌/◌, ◌%◌, ◌^◌, ◌<◌, ◌≤◌, Bool, true, false, cond, eqb, leb, List, [], ◌∷◌, ◌++◌, length, Option, Some, None, ⊎_elim, refl, sym, ap, subst, ◌∙◌, append_assoc, append-nil, arith}
use Rattle.std.specs.Prelude.{decimal, IfSome}
use Rattle.std.specs.Char.{is_ascii_digit}
use Rattle.std.proofs.lemmas.Fmt.{decimal_digit, decimal_by_steps}
use Rattle.std.proofs.lemmas.Bool.Decides.{nat_tests}
use Rattle.std.proofs.lemmas.Bool.{eqb-true, cases_lt, eq-eqb}
use Rattle.velo_bytes.proofs.OnDigits.{digit_is, is_digit, decimal_more}
use Rattle.velo_bytes.specs.Parsing.{Taken, digits_on, number_at, if_last, whole_number, after_word}
use Rattle.velo_bytes.proofs.Choices.{chosen, some_is}

-- ---- what is taken

digits_taken : (most n : ℕ) (bytes : List ℕ) (m : ℕ) (rest : List ℕ) → 0 < n → n ≤ most → most < 2 ^ 64 → digits_on most n bytes ≡ Some (m, rest) → (decimal n ++ bytes ≡ decimal m ++ rest) × (m ≤ most)
digits_taken most n [] m rest some le fits e =
    let none : List ℕ = [] in
    let p = some_is (n, none) (m, rest) e in
    let n-is : n ≡ m = ap (λ (q : ℕ × List ℕ). q.0) p in
    (ap (λ (q : ℕ × List ℕ). decimal q.0 ++ q.1) p, omega arith)
digits_taken most n (c ∷ cs) m rest some le fits e =
    let next = n * 10 + (c - 48) in
    ⊎_elim
    (λ digit.
    let range = digit_is c digit.0 in
    ⊎_elim
    (λ small.
    let low : next ≤ most = grind (arith, nat_tests) in
    let more = digits_taken most next cs m rest (omega arith) low fits small.1 in
    let step = decimal_more n (c - 48) some (omega arith) (omega arith) in
    let back : 48 + (c - 48) ≡ c = omega arith in
    let text : decimal n ++ c ∷ cs ≡ decimal next ++ cs =
    sym (append_assoc (decimal n) (c ∷ []) cs) ∙ ap (λ (k : ℕ). (decimal n ++ k ∷ []) ++ cs) (sym back) ∙ ap (λ (t : List ℕ). t ++ cs) (sym step) in
    (text ∙ more.0, more.1))
    (λ big. absurd (let none = big.1 in cc))
    (chosen (leb next most) (digits_on most next cs) None (Some (m, rest)) digit.1))
    (λ other.
    let p = some_is (n, c ∷ cs) (m, rest) other.1 in
    let n-is : n ≡ m = ap (λ (q : ℕ × List ℕ). q.0) p in
    (ap (λ (q : ℕ × List ℕ). decimal q.0 ++ q.1) p, omega arith))
    (chosen (is_ascii_digit c) (cond (leb next most) (digits_on most next cs) None) (Some (n, c ∷ cs)) (Some (m, rest)) e)

pub number_taken : (most : ℕ) (bytes : List ℕ) (m : ℕ) (rest : List ℕ) → 9 ≤ most → most < 2 ^ 64 → number_at most bytes ≡ Some (m, rest) → (bytes ≡ decimal m ++ rest) × (m ≤ most)
number_taken most [] m rest le fits e = absurd cc
number_taken most (c ∷ cs) m rest le fits e =
    ⊎_elim
    (λ zero.
    let c-is : c ≡ 48 = eqb-true c 48 zero.0 in
    let p = some_is (0, cs) (m, rest) zero.1 in
    let m-is : 0 ≡ m = ap (λ (q : ℕ × List ℕ). q.0) p in
    let front : c ∷ cs ≡ decimal 0 ++ cs = ap (λ (k : ℕ). k ∷ cs) c-is ∙ ap (λ (t : List ℕ). t ++ cs) (sym (decimal_digit 0 (omega arith))) in
    (front ∙ ap (λ (q : ℕ × List ℕ). decimal q.0 ++ q.1) p, omega arith))
    (λ other.
    ⊎_elim
    (λ digit.
    let range = digit_is c digit.0 in
    let apart : c ≢ 48 = λ same. let z = other.0 in absurd (grind (arith, nat_tests)) in
    let more = digits_taken most (c - 48) cs m rest (omega arith) (omega arith) fits digit.1 in
    let back : 48 + (c - 48) ≡ c = omega arith in
    let front : c ∷ cs ≡ decimal (c - 48) ++ cs = ap (λ (k : ℕ). k ∷ cs) (sym back) ∙ ap (λ (t : List ℕ). t ++ cs) (sym (decimal_digit (c - 48) (omega arith))) in
    (front ∙ more.0, more.1))
    (λ none. absurd (let n = none.1 in cc))
    (chosen (is_ascii_digit c) (digits_on most (c - 48) cs) None (Some (m, rest)) other.1))
    (chosen (eqb c 48) (Some (0, cs)) (cond (is_ascii_digit c) (digits_on most (c - 48) cs) None) (Some (m, rest)) e)

-- ---- what is taken again

abbrev IsRead : ℕ → List ℕ → Type 0
IsRead n digits = 0 < n → (most : ℕ) (rest : List ℕ) → n ≤ most → number_at most (digits ++ rest) ≡ digits_on most n rest

digits_one : (n : ℕ) → n < 10 → IsRead n ((48 + n) ∷ [])
digits_one n lt some most rest le =
    let apart : eqb (48 + n) 48 ≡ false = grind (arith, nat_tests) in
    let back : 48 + n - 48 ≡ n = omega arith in
    rw (apart, is_digit n lt, back) refl

digits_more : (n : ℕ) (ds : List ℕ) → 10 ≤ n → IsRead (n / 10) ds → IsRead n (ds ++ ((48 + n % 10) ∷ []))
digits_more n ds ge h some most rest le =
    let d = n % 10 in
    let regrouped = ap (number_at most) (append_assoc ds ((48 + d) ∷ []) rest) in
    let so_far = h (omega arith) most ((48 + d) ∷ rest) (omega arith) in
    let next : n / 10 * 10 + (48 + d - 48) ≡ n = omega arith in
    let low : leb n most ≡ true = grind (arith, nat_tests) in
    regrouped ∙ so_far ∙ rw (is_digit d (omega arith), next, low) refl

pub number_read : (n : ℕ) → n < 2 ^ 64 → IsRead n (decimal n)
number_read n lt = decimal_by_steps IsRead digits_one digits_more n lt

pub number_again : (most n c : ℕ) (rest : List ℕ) → n ≤ most → most < 2 ^ 64 → is_ascii_digit c ≡ false → number_at most (decimal n ++ c ∷ rest) ≡ Some (n, c ∷ rest)
number_again most n c rest le fits other =
    ⊎_elim
    (λ some. number_read n (omega arith) some most (c ∷ rest) le ∙ rw other refl)
    (λ none.
    let n-is : n ≡ 0 = omega arith in
    rw n-is (ap (λ (t : List ℕ). number_at most (t ++ c ∷ rest)) (decimal_digit 0 (omega arith))))
    (cases_lt 0 n)

-- ---- a number as a whole

pub whole_text : (most : ℕ) (bytes : List ℕ) (r : Option ℕ) → 9 ≤ most → most < 2 ^ 64 → r ≡ whole_number most bytes → IfSome r (λ n. bytes ≡ decimal n)
whole_text most bytes r le fits e = subst (λ (o : Option ℕ). IfSome o (λ n. bytes ≡ decimal n)) (sym e) (by (number_at most bytes) refl)
  where
    by : (o : Taken ℕ) → number_at most bytes ≡ o → IfSome (if_last o) (λ n. bytes ≡ decimal n)
    by None is = tt
    by (Some (n, [])) is = (number_taken most bytes n [] le fits is).0 ∙ append-nil (decimal n)
    by (Some (n, c ∷ cs)) is = tt

whole_again : (most n : ℕ) → n ≤ most → most < 2 ^ 64 → whole_number most (decimal n) ≡ Some n
whole_again most n le fits =
    ⊎_elim
    (λ some. ap (λ (t : List ℕ). whole_number most t) (sym (append-nil (decimal n))) ∙ ap if_last (number_read n (omega arith) some most [] le))
    (λ none.
    let n-is : n ≡ 0 = omega arith in
    rw n-is (ap (whole_number most) (decimal_digit 0 (omega arith))))
    (cases_lt 0 n)

pub whole_each : (most : ℕ) (bytes : List ℕ) (n : ℕ) (r : Option ℕ) → most < 2 ^ 64 → r ≡ whole_number most bytes → n ≤ most → bytes ≡ decimal n → r ≡ Some n
whole_each most bytes n r fits is le text = is ∙ ap (whole_number most) text ∙ whole_again most n le fits

-- ---- words

pub after_taken : (word bytes rest : List ℕ) → after_word word bytes ≡ Some rest → bytes ≡ word ++ rest
after_taken [] bytes rest e = some_is bytes rest e
after_taken (w ∷ ws) [] rest e = absurd cc
after_taken (w ∷ ws) (b ∷ bs) rest e =
    ⊎_elim
    (λ same.
    let b-is = eqb-true b w same.0 in
    ap (λ (k : ℕ). k ∷ bs) b-is ∙ ap (λ (t : List ℕ). w ∷ t) (after_taken ws bs rest same.1))
    (λ other. absurd (let none = other.1 in cc))
    (chosen (eqb b w) (after_word ws bs) None (Some rest) e)

either : (b : Bool) → ◌≡◌ {A = Option (List ℕ)} (cond b None None) None
either true = refl
either false = refl

pub after_short : (word bytes : List ℕ) → length bytes < length word → after_word word bytes ≡ None
after_short [] bytes lt = absurd (omega arith)
after_short (w ∷ ws) [] lt = refl
after_short (w ∷ ws) (b ∷ bs) lt =
    let tail = after_short ws bs (omega arith) in
    ap (λ (o : Option (List ℕ)). cond (eqb b w) o None) tail ∙ either (eqb b w)

pub after_again : (word rest : List ℕ) → after_word word (word ++ rest) ≡ Some rest
after_again [] rest = refl
after_again (w ∷ ws) rest = rw (eq-eqb w w refl) (after_again ws rest)
