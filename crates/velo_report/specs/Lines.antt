-- Lines of words, and how they come to a sink.
use Rattle.std.specs.Prelude.{◌≡◌, ℕ, List, ◌++◌, codes, decimal, map, Option}
use Rattle.std.specs.List.{flat_map}
use Rattle.std.specs.Io.KnownBytes.{Appends}
use Rattle.velo_report.specs.declared.lines.Word.{Word}
use Rattle.velo_report.specs.declared.lines.Word.TheVariants.{Text, Number, Bytes}

-- ---- what a line is

-- a word behind a space
abbrev pub spaced : List ℕ → List ℕ
spaced word = codes " " ++ word

-- a line: its first word, the others, each behind a space, and a newline
abbrev pub line_of : List ℕ → List (List ℕ) → List ℕ
line_of first others = first ++ (flat_map spaced others ++ codes "\n")

-- a line of numbers behind its first word
abbrev pub numbers_line : List ℕ → List ℕ → List ℕ
numbers_line first numbers = line_of first (map decimal numbers)

-- ---- the words of the code

abbrev pub word_text : Word → List ℕ
word_text (Text text) = text.now
word_text (Number number) = decimal number
word_text (Bytes bytes) = bytes.now

abbrev pub words_text : List Word → List (List ℕ)
words_text words = map word_text words

-- ---- how bytes are buffered

-- With these bytes behind what was gathered, some went out, and the rest is gathered then.
pub record Buffers (old new : Option (List ℕ)) (before after bytes : List ℕ) : Type 0 where
  pub out : List ℕ
  pub appends : Appends old new out
  pub whole : before ++ bytes ≡ out ++ after
