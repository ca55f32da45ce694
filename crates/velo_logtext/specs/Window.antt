-- The bytes that a reader holds. Private contracts cite these words.
use Rattle.std.specs.Prelude.{ℕ, Bool, List}

-- bytes that were read and not taken yet, and whether the source has told its end
pub record Window : Type 0 where
  pub bytes : List ℕ
  pub ended : Bool
