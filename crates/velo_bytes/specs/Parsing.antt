-- What the parsers of numbers and words take from the front of bytes.
use Rattle.std.specs.Prelude.{ℕ, ◌+◌, ◌-◌, ◌*◌, ◌==◌, nat_le, List, [], ◌∷◌, codes, Option, Some, None, option_and_then, if◌then◌else◌}
use Rattle.std.specs.Char.{is_ascii_digit}

infixl 10 ◌>>=◌
abbrev pub ◌>>=◌ : {A B : Type 0} → Option A → (A → Option B) → Option B
o >>= f = option_and_then f o

-- a value with the bytes after it
abbrev pub Taken : Type 0 → Type 0
Taken X = Option (X × List ℕ)

-- the digits that go on a number that is not 0, up to most
abbrev pub digits_on : ℕ → ℕ → List ℕ → Taken ℕ
digits_on most n [] = Some (n, [])
digits_on most n (c ∷ cs) =
    if is_ascii_digit c
    then (if nat_le (n * 10 + (c - 48)) most then digits_on most (n * 10 + (c - 48)) cs else None)
    else Some (n, c ∷ cs)

-- a number up to most, which is at least 9
abbrev pub number_at : ℕ → List ℕ → Taken ℕ
number_at most [] = None
number_at most (c ∷ cs) =
    if c == 48 then Some (0, cs)
    else (if is_ascii_digit c then digits_on most (c - 48) cs else None)

-- the value, if no bytes come after it
abbrev pub if_last : {X : Type 0} → Taken X → Option X
if_last None = None
if_last (Some (x, [])) = Some x
if_last (Some (x, c ∷ cs)) = None

-- the number that the bytes are as a whole
abbrev pub whole_number : ℕ → List ℕ → Option ℕ
whole_number most bytes = if_last (number_at most bytes)

-- what follows the word
abbrev pub after_word : List ℕ → List ℕ → Option (List ℕ)
after_word [] bytes = Some bytes
after_word (w ∷ ws) [] = None
after_word (w ∷ ws) (b ∷ bs) = if b == w then after_word ws bs else None

-- the first where the word is there, else the second
abbrev pub by_word : {X : Type 0} → Option (List ℕ) → (List ℕ → Option X) → Option X → Option X
by_word (Some rest) f other = f rest
by_word None f other = other

-- a number, and what is made of it
abbrev pub of_number : {X : Type 0} → ℕ → (ℕ → X) → List ℕ → Taken X
of_number most f bytes = number_at most bytes >>= λ n. Some (f n.0, n.1)

-- a number and the space after it
abbrev pub spaced_number_at : ℕ → List ℕ → Taken ℕ
spaced_number_at most bytes = do
  n ← number_at most bytes
  rest ← after_word (codes " ") n.1
  Some (n.0, rest)
