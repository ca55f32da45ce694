-- How far a piece of a pattern goes with a text. Private contracts cite these words.
use Rattle.std.specs.Prelude.{◌≡◌, ⊤, ℕ, ◌+◌, ◌<◌, Bool, true, false, List, length}
use Rattle.velo_names.specs.declared.pattern.Met.{Met}
use Rattle.velo_names.specs.declared.pattern.Met.TheVariants.{Star, End, Apart}
use Rattle.velo_names.specs.Pattern.{is_like, some_tail}

-- whether there is still a match
abbrev pub value_of : Met → Bool
value_of (Star more rest) = some_tail (is_like more.now) rest.now
value_of End = true
value_of Apart = false

-- how much of the pattern is left
abbrev pub left_of : Met → ℕ
left_of (Star more rest) = length more.now + 1
left_of End = 0
left_of Apart = 0

-- a star comes later than the begin of the pattern; and where nothing matches from it on, no tail of the text is like the
-- pattern
abbrev pub Ends : List ℕ → List ℕ → Met → Type 0
Ends pattern text (Star more rest) =
    (length more.now < length pattern)
    × (some_tail (is_like more.now) rest.now ≡ false → some_tail (is_like pattern) text ≡ false)
Ends pattern text _ = ⊤

-- the text is like the pattern exactly where there is still a match
pub record Goes (pattern text : List ℕ) (met : Met) : Type 0 where
  pub value : value_of met ≡ is_like pattern text
  pub ends : Ends pattern text met
