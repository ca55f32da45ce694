-- The lines of a text, and the words of a line.
use Rattle.std.specs.Prelude.{◌≡◌, ◌<◌, ℕ, ◌==◌, ◌||◌, ◌&&◌, nat_le, Bool, true, false, not, List, [], ◌∷◌, length, drop, filter}
use Rattle.std.specs.Char.{is_ascii_digit, is_ascii_alphanumeric}
use Rattle.std.specs.List.{slice_split, position_or_len, before_first, list_all}

abbrev pub Word : Type 0
Word = List ℕ

abbrev pub is_newline : ℕ → Bool
is_newline b = b == 10

-- from here to its end a line is a comment
abbrev pub is_hash : ℕ → Bool
is_hash b = b == 35

-- a space or a tab
abbrev pub is_blank : ℕ → Bool
is_blank b = b == 32 || b == 9

abbrev pub is_no_blank : ℕ → Bool
is_no_blank b = not (is_blank b)

-- what a line says ends here
abbrev pub is_end : ℕ → Bool
is_end b = is_newline b || is_hash b

-- a word ends here
abbrev pub ends_word : ℕ → Bool
ends_word b = is_blank b || is_end b

-- the lines, without their newlines
abbrev pub lines : List ℕ → List (List ℕ)
lines text = slice_split is_newline text

abbrev pub is_word : List ℕ → Bool
is_word [] = false
is_word (b ∷ bs) = true

-- the words between spaces and tabs
abbrev pub pieces : List ℕ → List Word
pieces bytes = filter is_word (slice_split is_blank bytes)

-- the words of a line, up to its comment
abbrev pub words : List ℕ → List Word
words line = pieces (before_first is_hash line)

-- ---- what is at the front of bytes

-- what the first line says
abbrev pub content : List ℕ → List ℕ
content bytes = before_first is_end bytes

-- the lines after the newline in front
abbrev pub lines_behind : List ℕ → List (List ℕ)
lines_behind [] = []
lines_behind (b ∷ bs) = lines bs

-- the lines after the first
abbrev pub later_lines : List ℕ → List (List ℕ)
later_lines bytes = lines_behind (drop (position_or_len is_newline bytes) bytes)

-- ---- names

abbrev pub is_name_byte : ℕ → Bool
is_name_byte b = is_ascii_alphanumeric b || b == 95

-- 1 to 32 letters, digits and underscores, no digit first
abbrev pub is_name : Word → Bool
is_name [] = false
is_name (c ∷ cs) = not (is_ascii_digit c) && (nat_le (length (c ∷ cs)) 32 && list_all is_name_byte (c ∷ cs))

-- ---- what a reader of words gives: the first two, each empty where it is not there, and whether there are more

abbrev pub AreWords : Word → Word → Bool → List Word → Type 0
AreWords first second more [] = (first ≡ []) × (second ≡ []) × (more ≡ false)
AreWords first second more (w ∷ []) = (first ≡ w) × (second ≡ []) × (more ≡ false) × (0 < length w)
AreWords first second more (w ∷ x ∷ []) = (first ≡ w) × (second ≡ x) × (more ≡ false) × (0 < length w) × (0 < length x)
AreWords first second more (w ∷ x ∷ y ∷ zs) = (first ≡ w) × (second ≡ x) × (more ≡ true) × (0 < length w) × (0 < length x)
