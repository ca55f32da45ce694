-- What a word of a schedule's text says.
use Rattle.std.specs.Prelude.{ℕ, ◌-◌, nat_le, List, [], ◌∷◌, codes, Option, Some, None, if◌then◌else◌}
use Rattle.velo_events.specs.declared.limits.TheConstants.{MAX_THREADS}
use Rattle.velo_bytes.specs.Parsing.{◌>>=◌, number_at, after_word}
use Rattle.velo_schedule_text.specs.declared.limits.TheConstants.{MAX_TURNS}
use Rattle.velo_schedule_text.specs.declared.turns.Turns.{Turns}

-- a count of two or more, with nothing after it
abbrev pub many : ℕ → List ℕ → Option ℕ
many n [] = if nat_le 2 n then Some n else None
many n (b ∷ bs) = None

-- how many turns, by what follows the thread's number
abbrev pub count_in : List ℕ → Option ℕ
count_in [] = Some 1
count_in (b ∷ bs) = do
  digits ← after_word (codes "*") (b ∷ bs)
  n ← number_at MAX_TURNS digits
  many n.0 n.1

abbrev pub turns_in : List ℕ → Option Turns
turns_in word = do
  t ← number_at (MAX_THREADS - 1) word
  count ← count_in t.1
  Some (record { thread = record { 0 = t.0 }; count = count })
