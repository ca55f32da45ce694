-- What a call does to the bytes of a source or a sink, and to its count of failures.
use Rattle.std.specs.Prelude.{◌≡◌, ℕ, ◌+◌, ◌-◌, ◌%◌, ◌^◌, min, List, ◌++◌, Option, None, Some, option_map}
use Rattle.std.specs.Io.KnownBytes.{Appends}

-- the count after one more failure
abbrev pub with_failure : ℕ → ℕ
with_failure failures = (failures + 1) % 2 ^ 64

-- known bytes grow by a beginning of these
pub record AppendsBeginning (old new : Option (List ℕ)) (bytes : List ℕ) : Type 0 where
  pub beginning : List ℕ
  pub rest : List ℕ
  pub split : bytes ≡ beginning ++ rest
  pub appends : Appends old new beginning

-- ---- bytes in memory, which take or give a few at a time, and fail after a given number

-- how many of these a call takes or gives
abbrev pub count_at_once : ℕ → ℕ → Option ℕ → ℕ
count_at_once many step None = min many step
count_at_once many step (Some left) = min (min many step) left

-- what is left before each call fails, after these
abbrev pub left_after : Option ℕ → ℕ → Option ℕ
left_after left count = option_map (λ n. n - count) left
