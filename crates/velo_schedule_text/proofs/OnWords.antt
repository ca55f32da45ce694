-- What a word says is written so, and turns that are written are read again.
use Rattle.std.proofs.Common.{◌≡◌, ◌<◌, ◌≤◌, ◌^◌, ◌-◌, ℕ, Bool, true, false, cond, eqb, List, [], ◌∷◌, ◌++◌, Option, Some, None, ⊎_elim, refl, sym, ap, subst, ◌∙◌, append-nil, arith}
use Rattle.std.specs.Prelude.{decimal, codes, nat_le}
use Rattle.std.proofs.lemmas.Fmt.{decimal_digit}
use Rattle.std.proofs.lemmas.Bool.{cases_lt}
use Rattle.std.proofs.lemmas.Bool.Decides.{eqb_tells, nat_tests}
use Rattle.velo_events.specs.declared.limits.TheConstants.{MAX_THREADS}
use Rattle.velo_bytes.specs.Parsing.{◌>>=◌, number_at, after_word}
use Rattle.velo_bytes.proofs.Choices.{chosen, some_is, bind_some}
use Rattle.velo_bytes.proofs.OnNumbers.{number_taken, number_read, number_again, after_taken, after_again}
use Rattle.velo_schedule_text.specs.declared.limits.TheConstants.{MAX_TURNS}
use Rattle.velo_schedule_text.specs.declared.turns.Turns.{Turns}
use Rattle.velo_schedule_text.specs.Schedule.{turns_text, AreTurns}
use Rattle.velo_schedule_text.specs.Words.{many, count_in, turns_in}

-- what stands behind the thread's number
abbrev pub count_text : ℕ → List ℕ
count_text n = cond (eqb n 1) [] (42 ∷ decimal n)

-- ---- what is taken

many_taken : (n : ℕ) (bytes : List ℕ) (count : ℕ) → many n bytes ≡ Some count → (bytes ≡ []) × (2 ≤ n) × (n ≡ count)
many_taken n (b ∷ bs) count e = absurd cc
many_taken n [] count e =
    ⊎_elim
    (λ yes. let two : 2 ≤ n = grind (yes.0, arith, nat_tests) in (refl, two, some_is n count yes.1))
    (λ no. absurd (let none = no.1 in cc))
    (chosen (nat_le 2 n) (Some n) None (Some count) e)

pub record IsCount (bytes : List ℕ) (count : ℕ) : Type 0 where
  pub text : bytes ≡ count_text count
  pub some : 1 ≤ count
  pub few : count ≤ MAX_TURNS

count_taken : (bytes : List ℕ) (count : ℕ) → count_in bytes ≡ Some count → IsCount bytes count
count_taken [] count e = subst (IsCount []) (some_is 1 count e) (record { text = refl; some = omega arith; few = omega arith })
count_taken (b ∷ bs) count e =
    let w = bind_some (after_word (codes "*") (b ∷ bs)) (λ digits. number_at MAX_TURNS digits >>= λ n. many n.0 n.1) count e in
    let n = bind_some (number_at MAX_TURNS w.0) (λ n. many n.0 n.1) count w.2 in
    let m = many_taken n.0.0 n.0.1 count n.2 in
    let found = number_taken MAX_TURNS w.0 n.0.0 n.0.1 (omega arith) (omega arith) n.1 in
    let digits : w.0 ≡ decimal n.0.0 = found.0 ∙ (ap (λ (t : List ℕ). decimal n.0.0 ++ t) m.0 ∙ append-nil (decimal n.0.0)) in
    let star : b ∷ bs ≡ 42 ∷ decimal n.0.0 = after_taken (codes "*") (b ∷ bs) w.0 w.1 ∙ ap (λ (t : List ℕ). 42 ∷ t) digits in
    let other : eqb n.0.0 1 ≡ false = grind (m.1, arith, nat_tests) in
    let text : b ∷ bs ≡ count_text n.0.0 = star ∙ sym (ap (λ (t : Bool). cond t [] (42 ∷ decimal n.0.0)) other) in
    let some : 1 ≤ n.0.0 = omega (arith, m.1) in
    subst (IsCount (b ∷ bs)) m.2 (record { text = text; some = some; few = found.1 })

pub record Says (word : List ℕ) (turns : Turns) : Type 0 where
  pub text : word ≡ turns_text turns
  pub fits : AreTurns turns

pub turns_taken : (word : List ℕ) (turns : Turns) → turns_in word ≡ Some turns → Says word turns
turns_taken word turns e =
    let t = bind_some (number_at (MAX_THREADS - 1) word) (λ t. count_in t.1 >>= λ count. Some (record { thread = record { 0 = t.0 }; count = count })) turns e in
    let c = bind_some (count_in t.0.1) (λ count. Some (record { thread = record { 0 = t.0.0 }; count = count })) turns t.2 in
    let number = number_taken (MAX_THREADS - 1) word t.0.0 t.0.1 (omega arith) (omega arith) t.1 in
    let count = count_taken t.0.1 c.0 c.1 in
    let found : Turns = record { thread = record { 0 = t.0.0 }; count = c.0 } in
    let thread : t.0.0 < MAX_THREADS = omega (arith, number.1) in
    let says : Says word found = record {
      text = number.0 ∙ ap (λ (rest : List ℕ). decimal t.0.0 ++ rest) count.text;
      fits = record { thread = thread; some = count.some; few = count.few };
    } in
    subst (Says word) (some_is found turns c.2) says

-- ---- what is taken again

-- a number with nothing behind it
number_alone : (most n : ℕ) → n ≤ most → most < 2 ^ 64 → number_at most (decimal n) ≡ Some (n, [])
number_alone most n le fits =
    ap (number_at most) (sym (append-nil (decimal n)))
    ∙ ⊎_elim
    (λ some. number_read n (omega (arith, le, fits)) some most [] le)
    (λ none.
    let n-is : n ≡ 0 = omega (arith, none) in
    rw n-is (ap (λ (t : List ℕ). number_at most (t ++ [])) (decimal_digit 0 (omega arith))))
    (cases_lt 0 n)

many_again : (n : ℕ) → 2 ≤ n → many n [] ≡ Some n
many_again n two =
    let yes : nat_le 2 n ≡ true = grind (two, arith, nat_tests) in
    ap (λ (b : Bool). cond b (Some n) None) yes

star_again : (n : ℕ) → 2 ≤ n → n ≤ MAX_TURNS → count_in (42 ∷ decimal n) ≡ Some n
star_again n two few =
    ap (λ (o : Option (List ℕ)). o >>= λ digits. number_at MAX_TURNS digits >>= λ n. many n.0 n.1) (after_again (codes "*") (decimal n))
    ∙ (ap (λ (o : Option (ℕ × List ℕ)). o >>= λ n. many n.0 n.1) (number_alone MAX_TURNS n few (omega arith)) ∙ many_again n two)

not_one : (n : ℕ) → 1 ≤ n → (n ≡ 1 → ⊥) → 2 ≤ n
not_one n some other = ⊎_elim (λ (two : 1 < n). two) (λ (le : n ≤ 1). absurd (other (omega (arith, some, le)))) (cases_lt 1 n)

count_again : (n : ℕ) → 1 ≤ n → n ≤ MAX_TURNS → count_in (count_text n) ≡ Some n
count_again n some few =
    ⊎_elim
    (λ one.
    let is : n ≡ 1 = one.1 in
    rw is refl)
    (λ more.
    let two : 2 ≤ n = not_one n some more.1 in
    ap count_in (ap (λ (b : Bool). cond b [] (42 ∷ decimal n)) more.0) ∙ star_again n two few)
    (eqb_tells n 1)

again : (t n : ℕ) → t < MAX_THREADS → 1 ≤ n → n ≤ MAX_TURNS → turns_in (decimal t ++ count_text n) ≡ Some (record { thread = record { 0 = t }; count = n })
again t n small some few =
    let rest : Option (ℕ × List ℕ) → Option Turns = λ o. o >>= λ t. count_in t.1 >>= λ count. Some (record { thread = record { 0 = t.0 }; count = count }) in
    let fits : t ≤ MAX_THREADS - 1 = omega (arith, small) in
    let made : Turns = record { thread = record { 0 = t }; count = n } in
    let counted : rest (Some (t, count_text n)) ≡ Some made = ap (λ (o : Option ℕ). o >>= λ count. Some (record { thread = record { 0 = t }; count = count })) (count_again n some few) in
    ⊎_elim
    (λ one.
    let alone : decimal t ++ count_text n ≡ decimal t = ap (λ (b : Bool). decimal t ++ cond b [] (42 ∷ decimal n)) one.0 ∙ append-nil (decimal t) in
    let none : count_text n ≡ [] = ap (λ (b : Bool). cond b [] (42 ∷ decimal n)) one.0 in
    ap turns_in alone
    ∙ (ap rest (number_alone (MAX_THREADS - 1) t fits (omega arith))
    ∙ (ap (λ (bytes : List ℕ). rest (Some (t, bytes))) (sym none) ∙ counted)))
    (λ more.
    let star : count_text n ≡ 42 ∷ decimal n = ap (λ (b : Bool). cond b [] (42 ∷ decimal n)) more.0 in
    ap (λ (bytes : List ℕ). turns_in (decimal t ++ bytes)) star
    ∙ (ap rest (number_again (MAX_THREADS - 1) t 42 (decimal n) fits (omega arith) refl)
    ∙ (ap (λ (bytes : List ℕ). rest (Some (t, bytes))) (sym star) ∙ counted)))
    (eqb_tells n 1)

pub turns_again : (turns : Turns) → AreTurns turns → turns_in (turns_text turns) ≡ Some turns
turns_again turns h = again turns.thread.0 turns.count h.thread h.some h.few
