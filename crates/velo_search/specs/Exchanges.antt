-- Lists that give each number of so many another, each once, and lead back.
use Rattle.std.specs.Prelude.{◌≡◌, ◌<◌, ℕ, List, length, slice_index_or}

-- the number that the list gives; a number behind its end is given itself
abbrev pub number_in : List ℕ → ℕ → ℕ
number_in list x = slice_index_or list x x

-- each number is given once, and the second list leads back from it
pub record ArePaired (to back : List ℕ) : Type 0 where
  pub count : length back ≡ length to
  pub returns : (x : ℕ) → number_in back (number_in to x) ≡ x
  pub gives : (x : ℕ) → number_in to (number_in back x) ≡ x
  pub within : (x : ℕ) → x < length to → number_in to x < length to
  pub within_back : (x : ℕ) → x < length to → number_in back x < length to
