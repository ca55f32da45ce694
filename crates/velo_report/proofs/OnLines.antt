-- A line, word by word.
use Rattle.std.proofs.Common.{◌≡◌, ℕ, ◌+◌, ◌-◌, ◌<◌, List, [], ◌∷◌, ◌++◌, length, set, take, drop, sym, ap, ◌∙◌, append_assoc, arith}
use Rattle.std.specs.Prelude.{codes, decimal, map}
use Rattle.std.specs.List.{flat_map}
use Rattle.std.proofs.lemmas.Grind.{flat_map-append}
use Rattle.std.proofs.lemmas.List.{append-nil, take-append-drop, map-append, drop-set, drop_all, take_all}
use Rattle.velo_report.specs.declared.lines.Word.{Word}
use Rattle.velo_report.specs.declared.lines.Word.TheVariants.{Text}
use Rattle.velo_report.specs.Lines.{spaced, line_of}

-- what is read past the end of some words
abbrev pub no_word : Word
no_word = Text (record { ref_ptr = (0, 0); now = [] })

-- ---- a line of some things, each of which has its word

module _ {X : Type 0} (text : X → List ℕ) where
  -- words behind spaces
  abbrev pub spaced_words : List X → List ℕ
  spaced_words words = flat_map spaced (map text words)

  pub spaced_words-append : (xs ys : List X) → spaced_words (xs ++ ys) ≡ spaced_words xs ++ spaced_words ys
  spaced_words-append xs ys = ap (flat_map spaced) (map-append text xs ys) ∙ flat_map-append spaced (map text xs) (map text ys)

  -- a line with its first words
  abbrev pub begun : List ℕ → List X → ℕ → List ℕ
  begun first words i = first ++ spaced_words (take i words)

  pub begun-start : (first : List ℕ) (words : List X) → first ≡ begun first words 0
  begun-start first words = sym (append-nil first)

  pub begun-next : (first : List ℕ) (words : List X) (i : ℕ) (w : X) → take (i + 1) words ≡ take i words ++ w ∷ [] → begun first words i ++ spaced (text w) ≡ begun first words (i + 1)
  begun-next first words i w is =
      append_assoc first (spaced_words (take i words)) (spaced (text w))
      ∙ ap (λ (t : List ℕ). first ++ t)
      (ap (λ (t : List ℕ). spaced_words (take i words) ++ t) (sym (append-nil (spaced (text w))))
      ∙ sym (spaced_words-append (take i words) (w ∷ []))
      ∙ ap spaced_words (sym is))

  -- what comes behind them
  abbrev pub rest_of : List X → ℕ → List ℕ
  rest_of words i = spaced_words (drop i words) ++ codes "\n"

  pub line-split : (first : List ℕ) (words : List X) (i : ℕ) → line_of first (map text words) ≡ begun first words i ++ rest_of words i
  line-split first words i =
      ap (λ (ws : List X). first ++ (spaced_words ws ++ codes "\n")) (sym (take-append-drop i words))
      ∙ ap (λ (t : List ℕ). first ++ (t ++ codes "\n")) (spaced_words-append (take i words) (drop i words))
      ∙ ap (λ (t : List ℕ). first ++ t) (append_assoc (spaced_words (take i words)) (spaced_words (drop i words)) (codes "\n"))
      ∙ sym (append_assoc first (spaced_words (take i words)) (rest_of words i))

  -- with one word more
  pub line-split-next : (first : List ℕ) (words : List X) (i : ℕ) (w : X) → take (i + 1) words ≡ take i words ++ w ∷ [] → line_of first (map text words) ≡ begun first words i ++ (spaced (text w) ++ rest_of words (i + 1))
  line-split-next first words i w is =
      line-split first words (i + 1)
      ∙ ap (λ (t : List ℕ). t ++ rest_of words (i + 1)) (sym (begun-next first words i w is))
      ∙ append_assoc (begun first words i) (spaced (text w)) (rest_of words (i + 1))

  -- with all words the newline is left
  pub line-end : (first : List ℕ) (words : List X) (i : ℕ) → take i words ≡ words → line_of first (map text words) ≡ begun first words i ++ codes "\n"
  line-end first words i is =
      ap (λ (ws : List X). first ++ (spaced_words ws ++ codes "\n")) (sym is)
      ∙ sym (append_assoc first (spaced_words (take i words)) (codes "\n"))

-- ---- a line for each of some things

module _ {X : Type 0} (line : X → List ℕ) (xs : List X) (i : ℕ) (x : X) (is : take (i + 1) xs ≡ take i xs ++ x ∷ []) where
  pub lines-more : flat_map line (take i xs) ++ line x ≡ flat_map line (take (i + 1) xs)
  lines-more =
      ap (λ (t : List ℕ). flat_map line (take i xs) ++ t) (sym (append-nil (line x)))
      ∙ sym (flat_map-append line (take i xs) (x ∷ []))
      ∙ ap (flat_map line) (sym is)

  pub lines-split : flat_map line xs ≡ flat_map line (take i xs) ++ (line x ++ flat_map line (drop (i + 1) xs))
  lines-split =
      ap (flat_map line) (sym (take-append-drop (i + 1) xs))
      ∙ flat_map-append line (take (i + 1) xs) (drop (i + 1) xs)
      ∙ ap (λ (t : List ℕ). t ++ flat_map line (drop (i + 1) xs)) (sym lines-more)
      ∙ append_assoc (flat_map line (take i xs)) (line x) (flat_map line (drop (i + 1) xs))

-- ---- a number behind a space

-- the space stands before digits that end the bytes
pub spaced-written : (number r : ℕ) (old new : List ℕ) → length old ≡ 24 → length new ≡ 24 → 0 < r → r + length (decimal number) ≡ 24 → drop r new ≡ decimal number ++ drop 24 old → drop (r - 1) (set new (r - 1) 32) ≡ spaced (decimal number)
spaced-written number r old new count_old count_new some all written =
    drop-set new (r - 1) 32 (omega (arith, all, count_new, some))
    ∙ ap (λ (t : List ℕ). 32 ∷ t)
    (ap (λ k. drop k new) (let same : r - 1 + 1 ≡ r = omega (arith, some) in same)
    ∙ (written ∙ (ap (λ (t : List ℕ). decimal number ++ t) (drop_all 24 old (omega (arith, count_old))) ∙ append-nil (decimal number))))

-- and all of them are taken
pub spaced-taken : (number s : ℕ) (text : List ℕ) → s + 1 + length (decimal number) ≡ 24 → drop s text ≡ spaced (decimal number) → take (24 - s) (drop s text) ≡ spaced (decimal number)
spaced-taken number s text all written =
    ap (take (24 - s)) written ∙ take_all (24 - s) (32 ∷ decimal number) (let more : length (32 ∷ decimal number) ≡ length (decimal number) + 1 = omega arith in omega (arith, all, more))
