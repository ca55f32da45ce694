-- What a growing call leaves of a list.
use Rattle.std.specs.Prelude.{ℕ, ◌-◌, List, ◌++◌, length, replicate}

-- the list, filled up with blanks until it has n elements
unfoldable pub filled_up : {X : Type 0} → X → ℕ → List X → List X
filled_up blank n xs = xs ++ replicate (n - length xs) blank
