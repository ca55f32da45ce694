-- Patterns of names. A star stands for any bytes, also for none; any other byte stands for itself.
use Rattle.std.specs.Prelude.{ℕ, ◌==◌, ◌||◌, ◌&&◌, Bool, true, false, List, [], ◌∷◌, if◌then◌else◌}

-- the text passes the test, or what is left of it after some of its first bytes
abbrev pub some_tail : (List ℕ → Bool) → List ℕ → Bool
some_tail test [] = test []
some_tail test (b ∷ bs) = test (b ∷ bs) || some_tail test bs

-- the text begins with this byte, and what follows it passes the test
abbrev pub begins_with : ℕ → (List ℕ → Bool) → List ℕ → Bool
begins_with p test [] = false
begins_with p test (b ∷ bs) = p == b && test bs

-- 42 is the star
abbrev pub is_like : List ℕ → List ℕ → Bool
is_like [] [] = true
is_like [] (b ∷ bs) = false
is_like (p ∷ ps) text = if p == 42 then some_tail (is_like ps) text else begins_with p (is_like ps) text
