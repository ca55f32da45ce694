-- What a line of a report says.
use Rattle.std.specs.Prelude.{ℕ, ◌==◌, List, [], ◌∷◌, ◌++◌, codes, Option, Some, None, option_map}
use Rattle.std.specs.Borrow.{Bor}
use Rattle.std.specs.List.{slice_split}
use Rattle.std.specs.Option.{option_or}
use Rattle.velo_bytes.specs.Parsing.{◌>>=◌, after_word, by_word, whole_number}
use Rattle.velo_events.specs.declared.limits.TheConstants.{MAX_EVENTS}
use Rattle.velo_claims.specs.declared.claim.Part.{Part}
use Rattle.velo_claims.specs.declared.claim.Part.TheVariants.{Threads, Transaction, Order}

-- ---- numbers

-- a word, and a number behind it
abbrev pub number_after : List ℕ → List ℕ → Option ℕ
number_after word line = after_word word line >>= λ rest. whole_number MAX_EVENTS rest

-- the parts between the spaces
abbrev pub words : List ℕ → List (List ℕ)
words bytes = slice_split (λ b. b == 32) bytes

-- a list with these words behind it, if each is a number
abbrev pub numbers_onto : List ℕ → List (List ℕ) → Option (List ℕ)
numbers_onto list [] = Some list
numbers_onto list (word ∷ others) =
    whole_number MAX_EVENTS word >>= λ n. numbers_onto (list ++ n ∷ []) others

-- ---- the verdict

abbrev pub if_nothing : {X : Type 0} → X → List ℕ → Option X
if_nothing x [] = Some x
if_nothing x (b ∷ bs) = None

-- What comes next in the report, after "verdict alarm P" the transaction there, and after "verdict
-- clean" an order
abbrev pub verdict_of : List ℕ → Option Part
verdict_of line =
    option_or (option_map (λ p. Transaction p) (number_after (codes "verdict alarm ") line))
    (after_word (codes "verdict clean") line >>= λ rest. if_nothing Order rest)

-- a thread, which is not looked at, or the verdict
abbrev pub thread_or_verdict : List ℕ → Option Part
thread_or_verdict line =
    by_word (after_word (codes "thread ") line) (λ rest. Some Threads) (verdict_of line)

-- ---- words of the contracts within the crate

abbrev pub words_behind : Option (Bor (List ℕ)) → List (List ℕ)
words_behind None = []
words_behind (Some rest) = words rest.now
